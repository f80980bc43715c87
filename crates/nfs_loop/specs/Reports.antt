-- What a network and a clock report.
use Rattle.std.specs.Prelude.{◌≡◌, ℕ, ◌/◌, List, [], ◌∷◌, ◌++◌, Option, Some}
use Rattle.std.specs.declared.net.ip_addr.IpAddr.{IpAddr}
use Rattle.nfs_attrs.specs.declared.moment.Moment.{Moment}
use Rattle.nfs_exports.specs.declared.addr.Addr.{Addr}
use Rattle.nfs_loop.specs.Peers.{IsAddrOf}
use Rattle.nfs_serving.specs.Service.{Change, joins, turns, leaves, passes, reloads, settles}

-- something is ready for the client of a key; connections may wait; nothing more is ready; a connection came from a peer, and its client has this key; it was asked for the moment, or how many milliseconds the service has run
pub data Report : Type 0 where
  ready : ℕ → Report
  listener_ready : Report
  nothing_ready : Report
  came : ℕ → IpAddr → Report
  at : Moment → Report
  since : ℕ → Report

-- where it is known what was reported, this was reported then
abbrev pub IsReported : Option (List Report) → Report → Option (List Report) → Type 0
IsReported old report new = (before : List Report) → old ≡ Some before → new ≡ Some (report ∷ before)

-- where it is known what was reported, this was reported next, and others may have been after it
abbrev pub IsReportedFirst : Option (List Report) → Report → Option (List Report) → Type 0
IsReportedFirst old report new = (before : List Report) → old ≡ Some before → (news : List Report) × (new ≡ Some (news ++ report ∷ before))

-- where it is known what was reported, more may have been since, and nothing else changed
abbrev pub ReportsMore : Option (List Report) → Option (List Report) → Type 0
ReportsMore old new = (before : List Report) → old ≡ Some before → (news : List Report) × (new ≡ Some (news ++ before))

-- where it is known what was reported, this was reported in between
abbrev pub IsReportedIn : Option (List Report) → Report → Option (List Report) → Type 0
IsReportedIn old report new = (before : List Report) → old ≡ Some before → (later earlier : List Report) × (new ≡ Some (later ++ report ∷ (earlier ++ before)))

-- a time that the clock reported in between, in seconds since the service began
abbrev pub IsTimeIn : Option (List Report) → ℕ → Option (List Report) → Type 0
IsTimeIn old seconds new = (millis : ℕ) × IsReportedIn old (since millis) new × (seconds ≡ millis / 1000)

-- a connection came from a peer of this address
pub record CameFrom (key : ℕ) (addr : Addr) (news after before : List Report) : Type 0 where
  pub peer : IpAddr
  pub addr_is : IsAddrOf peer (Some addr)
  pub reported : news ≡ after ++ came key peer ∷ before

-- each client that joined came so, and each turn was at a moment that was reported for it, in their order
abbrev pub AreBy : List Report → List Change → Type 0
AreBy news [] = Unit {0}
AreBy news (joins key number addr ∷ earlier) = (after before : List Report) × CameFrom key addr news after before × AreBy before earlier
AreBy news (turns key moment bytes ∷ earlier) = (after before : List Report) × (news ≡ after ++ at moment ∷ before) × AreBy before earlier
AreBy news (leaves key number calls end ∷ earlier) = AreBy news earlier
AreBy news (passes ∷ earlier) = AreBy news earlier
AreBy news (reloads exports ∷ earlier) = AreBy news earlier
AreBy news (settles notes ∷ earlier) = AreBy news earlier

-- where it is known what was reported, these are the changes by what was reported in between
abbrev pub ComeBy : Option (List Report) → List Change → Option (List Report) → Type 0
ComeBy old changes new = (before : List Report) → old ≡ Some before → (news : List Report) × (new ≡ Some (news ++ before)) × AreBy news changes

-- none of these changes puts other exports in force
abbrev pub KeepExports : List Change → Type 0
KeepExports [] = Unit {0}
KeepExports (reloads exports ∷ earlier) = ⊥
KeepExports (other ∷ earlier) = KeepExports earlier

-- and the exports in force stay
abbrev pub Accounts : Option (List Report) → List Change → Option (List Report) → Type 0
Accounts old changes new = KeepExports changes × ComeBy old changes new
