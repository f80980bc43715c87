-- What a feed does to the connections of a server.
use Rattle.std.proofs.Common.{◌≡◌, ℕ, ◌≤◌, ◌⊎◌, inl, inr, ◌↔◌, Bool, true, false, List, ◌++◌, length, drop, Option, Some, None, IfSome, IfOk, IfErr, OnOk, OnErr, is_err, Result, Ok, Err, nat_eq, refl, sym, ap, subst, ◌∙◌, arith}
use Rattle.std.specs.Map.{lookup, set_value}
use Rattle.std.proofs.lemmas.Bool.{false≢true}
use Rattle.std.proofs.lemmas.List.{take_all}
use Rattle.std.proofs.lemmas.Map.Steps.{set_value_same}
use Rattle.nfs_attrs.specs.declared.moment.Moment.{Moment}
use Rattle.nfs_rpc.specs.Progress.{Progress}
use Rattle.nfs_server.specs.Connections.{Joined, Open, IsFed}
use Rattle.nfs_server.specs.Feeding.{Brings, Device, EndsWith, Feeds}
use Rattle.nfs_server.specs.Fits.{Held}
use Rattle.nfs_server.specs.Taking.{FeedsSome, Waits}
use Rattle.nfs_server.specs.declared.session_fault.SessionFault.{SessionFault}
use Rattle.nfs_server.specs.declared.session_fault.SessionFault.TheVariants.{UnknownConnection, Ended}
use Rattle.nfs_server.specs.declared.taking.Origin.{Origin}
use Rattle.nfs_server.specs.declared.taking.Stop.{Stop}
use Rattle.nfs_server.specs.declared.taking.Stop.TheVariants.{Done as Finished, Denied, Memory as NoMemory}
use Rattle.nfs_server.specs.declared.taking.Taken.{Taken}

-- ---- nothing changes

-- what answers one of these two had ended
pub had_ended : {X : Type 0} (r : Result X SessionFault) (ended audit_failed replies_failed : Bool) → (r ≡ Err Ended ↔ ended ≡ true) → (ended ≡ false → IfErr r (EndsWith audit_failed replies_failed)) → (r ≡ Err UnknownConnection) ⊎ (r ≡ Err Ended) → ended ≡ true
had_ended r true audit_failed replies_failed reports ends either = refl
had_ended r false audit_failed replies_failed reports ends (inl e) = absurd (subst (λ k. IfErr k (EndsWith audit_failed replies_failed)) e (ends refl))
had_ended r false audit_failed replies_failed reports ends (inr e) = reports.0 e

abbrev opened : Held → List (ℕ × Joined) → Open
opened server connections = record { server = server; connections = connections }

pub same_open : (server held : Held) (es fs : List (ℕ × Joined)) (conn : ℕ) (was now : Joined) → server ≡ held → fs ≡ set_value (nat_eq conn) es now → now ≡ was → Some was ≡ lookup (nat_eq conn) es → opened server fs ≡ opened held es
same_open server held es fs conn was now same set e found =
    let kept : fs ≡ es = set ∙ set_value_same (nat_eq conn) es now (sym found ∙ ap Some (sym e)) in
    λ i. opened (same i) (kept i)

-- ---- the whole chunk is taken

pub all_taken : (origin : Origin) (chunk : List ℕ) (taken : Taken) (old new : Held) (from to : Progress) (audit replies : Device) → taken.used ≤ length chunk → taken.stop ≡ Finished → FeedsSome origin chunk None (Ok taken) old new from to audit replies → Feeds origin chunk (Ok taken.records) old new from to audit replies
all_taken origin chunk taken old new from to audit replies within finished feeds history fits text u =
    let b = feeds history fits text u in
    let stops = b.1.0 finished in
    let all : length chunk ≤ taken.used = omega (arith, stops) in
    subst (λ t. Brings history origin (text ++ t) (Ok taken.records) new to audit replies) (take_all taken.used chunk all) b.0

-- whichever connection there is
pub all_fed : (conn : ℕ) (moment : Moment) (chunk : List ℕ) (taken : Taken) (o : Option Joined) (old new : Open) (audit replies : Device) → taken.used ≤ length chunk → taken.stop ≡ Finished
    → IfSome o (λ was. was.ended ≡ false → IsFed conn was old new false (λ before after from to. FeedsSome (record { addr = was.addr; moment = moment }) chunk None (Ok taken) before after from to audit replies))
    → IfSome o (λ was. was.ended ≡ false → IsFed conn was old new false (λ before after from to. Feeds (record { addr = was.addr; moment = moment }) chunk (Ok taken.records) before after from to audit replies))
all_fed conn moment chunk taken None old new audit replies within finished fed = fed
all_fed conn moment chunk taken (Some was) old new audit replies within finished fed = λ alive.
    let f = fed alive in
    record {
      now = f.now;
      there = f.there;
      addr_stays = f.addr_stays;
      limit_stays = f.limit_stays;
      ended_is = f.ended_is;
      does = all_taken (record { addr = was.addr; moment = moment }) chunk taken old.server new.server was.progress f.now.progress audit replies within finished f.does;
    }

-- ---- one connection is fed

-- the connection that was there was fed, and is written back
pub one_fed : (conn : ℕ) (moment : Moment) (chunk : List ℕ) (room : Option ℕ) (result : Result Taken SessionFault) (was now : Joined) (es fs : List (ℕ × Joined)) (server held : Held) (audit replies : Device)
    → Some was ≡ lookup (nat_eq conn) es → lookup (nat_eq conn) fs ≡ Some now → now.addr ≡ was.addr → now.progress.limit ≡ was.progress.limit → now.ended ≡ is_err result
    → (was.ended ≡ false → FeedsSome (record { addr = was.addr; moment = moment }) chunk room result held server was.progress now.progress audit replies)
    → IfSome (lookup (nat_eq conn) es) (λ was. was.ended ≡ false → IsFed conn was (opened held es) (opened server fs) (is_err result)
    (λ before after from to. FeedsSome (record { addr = was.addr; moment = moment }) chunk room result before after from to audit replies))
one_fed conn moment chunk room result was now es fs server held audit replies found there addr limit ended feeds =
    subst (λ o. IfSome o (λ was. was.ended ≡ false → IsFed conn was (opened held es) (opened server fs) (is_err result)
    (λ before after from to. FeedsSome (record { addr = was.addr; moment = moment }) chunk room result before after from to audit replies))) found
    (λ alive. record { now = now; there = there; addr_stays = addr; limit_stays = limit; ended_is = ended; does = feeds alive })

pub ended_as : {X : Type 0} (r : Result X SessionFault) (ended : Bool) → OnOk r (ended ≡ false) → OnErr r (ended ≡ true) → ended ≡ is_err r
ended_as (Ok x) ended ok err = ok
ended_as (Err e) ended ok err = err

-- where the log is never full, nothing waits
pub none_waits : (stop : Stop) (origin : Origin) (left : List ℕ) (s : Held) (p : Progress) → Waits stop false origin left s p → stop ≡ Finished
none_waits Finished origin left s p waits = refl
none_waits Denied origin left s p waits = absurd (false≢true waits.0)
none_waits NoMemory origin left s p waits = absurd (false≢true waits.0)

pub all_finished : (result : Result Taken SessionFault) (origin : Origin) (chunk : List ℕ) (s : Held) (p : Progress) → IfOk result (λ taken. Waits taken.stop false origin (drop taken.used chunk) s p)
    → IfOk result (λ taken. taken.stop ≡ Finished)
all_finished (Ok taken) origin chunk s p waits = none_waits taken.stop origin (drop taken.used chunk) s p waits
all_finished (Err fault) origin chunk s p waits = tt
