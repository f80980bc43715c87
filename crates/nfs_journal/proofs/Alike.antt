-- Servers that were asked and answered the same hold the same.
use Rattle.std.proofs.Common.{◌≡◌, ℕ, Bool, true, false, cond, not, ◌&&◌, List, [], ◌∷◌, length, Option, Some, None, suc, refl, sym, ap, subst, ◌∙◌, arith}
use Rattle.std.specs.Prelude.{Result, Ok, Err, if◌then◌else◌}
use Rattle.std.specs.List.{AllByRecursion}
use Rattle.std.proofs.lemmas.Bool.{false≢true}
use Rattle.nfs_args.specs.declared.mount_args.MountArgs.{MountArgs}
use Rattle.nfs_args.specs.declared.mount_args.MountArgs.TheVariants as asked
use Rattle.nfs_handles.proofs.Tags.{one_is_next}
use Rattle.nfs_handles.specs.Tags.{OneIsNext}
use Rattle.nfs_inodes.proofs.Lists.{same_some}
use Rattle.nfs_inodes.specs.Reading.{numbered_files}
use Rattle.nfs_inodes.specs.Tree.{Tree, File}
use Rattle.nfs_journal.specs.Alike.{AllAlike, AlikeHoldTheSame}
use Rattle.nfs_journal.specs.Noted.{IsServed}
use Rattle.nfs_mount.specs.MountRules.{mount_verdict}
use Rattle.nfs_procs.specs.Doing.{Doing}
use Rattle.nfs_procs.specs.Procedures.{doing_of}
use Rattle.nfs_procs.specs.Scenes.{Scene, verdict_in}
use Rattle.nfs_reply_cache.specs.Places.{Place, cached_reply, with_reply}
use Rattle.nfs_rpc.specs.Calls.{Call, head_at}
use Rattle.nfs_rpc.specs.declared.call.RpcFault.{RpcFault}
use Rattle.nfs_rules.specs.Subjects.{Subject}
use Rattle.nfs_rules.specs.declared.rule.Rule.{Rule}
use Rattle.nfs_server.specs.Events.{Event, Answer, Choice, Done}
use Rattle.nfs_server.specs.Requests.{Request, Nothing, OfNfs, OfMount, request_of}
use Rattle.nfs_server.specs.Retransmissions.{cached_after, first_reply, is_changing, is_refused, key_of, may_change, standing}
use Rattle.nfs_server.specs.RpcRules.{rpc_failure_of}
use Rattle.nfs_server.specs.Steps.{Setup, State, HasDone, Decided, Refusable, MountDecided, MountPerformed, scene_of, Requested, Judged, Called, Retransmitted, Step, IsRun}
use Rattle.nfs_server.specs.declared.rpc_rules.RpcRule.{RpcRule}

-- ---- where there is memory, an event leads from one state to one other

apart : {X : Type 0} (answer other : Answer) → is_refused answer.line ≡ false → answer ≡ other → is_refused other.line ≡ true → X
apart answer other s e r = absurd (false≢true (sym s ∙ ap (λ (x : Answer). is_refused x.line) e ∙ r))

abbrev pair : Subject → Subject → Subject × Subject
pair one two = (one, two)

module _ (c : Scene) (call : Call) (a b : Answer) (m n : Tree) (s : is_refused a.line ≡ false) (t : is_refused b.line ≡ false) where
  one_done : (doing : Doing) → HasDone c doing call a m → HasDone c doing call b n → m ≡ n
  one_done doing h g = h.new_is ∙ ap (doing.effect h.one h.two c.now) tags ∙ ap (λ (p : Subject × Subject). doing.effect p.0 p.1 c.now g.tag) subjects ∙ sym g.new_is
    where
      subjects : pair h.one h.two ≡ pair g.one g.two
      subjects = same_some (sym h.subjects ∙ g.subjects)

      tags : h.tag ≡ g.tag
      tags = let next : OneIsNext File = one_is_next in next.one (numbered_files c.tree) h.tag g.tag h.tag_is g.tag_is

  one_decided : (v : Option Rule) (doing : Doing) → Decided v c doing call a m → Decided v c doing call b n → m ≡ n
  one_decided (Some rule) doing h g = h.new_is ∙ sym g.new_is
  one_decided None doing h g = one_done doing h g

  one_effect : (x y : Bool) (o : Option Doing) → Refusable x o c call a m → Refusable y o c call b n → m ≡ n
  one_effect true y o h g = apart a _ s h.answer_is refl
  one_effect false true o h g = apart b _ t g.answer_is refl
  one_effect false false None h g = h.1 ∙ sym g.1
  one_effect false false (Some doing) h g = one_decided (verdict_in c) doing h g

module _ (setup : Setup) (old : State) (event : Event) (x y : Choice) (a b : Answer) (m n : State) (s : is_refused a.line ≡ false) (t : is_refused b.line ≡ false) where
  one_mount : (call : Call) (args : MountArgs) → MountPerformed args setup.exports old event.addr call x a m → MountPerformed args setup.exports old event.addr call y b n → m ≡ n
  one_mount call asked.Null h g = h.1 ∙ sym g.1
  one_mount call (asked.Mount path) h g = by (mount_verdict old.tree setup.exports event.addr path) x.has_memory y.has_memory h g
    where
      by : (v : Option Rule) (p q : Bool) → MountDecided v p old event.addr path call a m → MountDecided v q old event.addr path call b n → m ≡ n
      by (Some rule) p q h g = h.1 ∙ sym g.1
      by None true true h g = h.2.1 ∙ sym g.2.1
      by None false q h g = apart a _ s h.1 refl
      by None true false h g = apart b _ t g.1 refl
  one_mount call asked.Dump h g = h.1 ∙ sym g.1
  one_mount call (asked.Unmount path) h g = h.1 ∙ sym g.1
  one_mount call asked.UnmountAll h g = h.1 ∙ sym g.1
  one_mount call asked.Export h g = h.1 ∙ sym g.1

  both_parts : m.tree ≡ n.tree → m.mounts ≡ n.mounts → m ≡ n
  both_parts e f = λ i. record { tree = e i; mounts = f i }

  one_request : (call : Call) (q : Option Request) → Requested q setup old event call x a m → Requested q setup old event call y b n → m ≡ n
  one_request call None h g = absurd h
  one_request call (Some Nothing) h g = h.1 ∙ sym g.1
  one_request call (Some (OfNfs caller args)) h g = both_parts
      (one_effect (scene_of setup old event caller args) call a b m.tree n.tree s t (not x.has_memory && may_change args) (not y.has_memory && may_change args) (doing_of args) h.0 g.0)
      (h.1 ∙ sym g.1)
  one_request call (Some (OfMount args)) h g = one_mount call args h g

  one_judged : (call : Call) (v : Option RpcRule) (q : Option Request) → Judged v q setup old event call x a m → Judged v q setup old event call y b n → m ≡ n
  one_judged call (Some rule) q h g = h.1 ∙ sym g.1
  one_judged call None q h g = one_request call q h g

  one_call : (head : Result (Call × List ℕ) RpcFault) → Called head setup old event x a m → Called head setup old event y b n → m ≡ n
  one_call (Err fault) h g = h.1 ∙ sym g.1
  one_call (Ok head) h g = one_judged head.0 (rpc_failure_of head.0 head.1) (request_of event.addr head.0 head.1) h g

  one_step : (first : Option (List ℕ)) → Retransmitted first setup old event x a m → Retransmitted first setup old event y b n → m ≡ n
  one_step (Some reply) h g = h.1 ∙ sym g.1
  one_step None h g = one_call (head_at event.bytes) h g

-- ---- runs alike

same_standing : (a b : Answer) → is_refused a.line ≡ false → is_refused b.line ≡ false → a.reply ≡ b.reply → standing a ≡ standing b
same_standing a b s t e = ap (λ x. cond x None a.reply) s ∙ e ∙ sym (ap (λ x. cond x None b.reply) t)

alike_cached : (places : ℕ) (done other : List Done) → AllByRecursion IsServed done → AllByRecursion IsServed other → AllAlike done other → cached_after places done ≡ cached_after places other
alike_cached places [] [] s t e = refl
alike_cached places [] (b ∷ other) s t e = absurd e
alike_cached places (a ∷ done) [] s t e = absurd e
alike_cached places (a ∷ done) (b ∷ other) s t e =
    let cached = alike_cached places done other s.1 t.1 e.1 in
    ap (λ (ps : List Place). if is_changing a.event then with_reply places (key_of a.event) (standing a.answer) ps else ps) cached
    ∙ ap (λ o. if is_changing a.event then with_reply places (key_of a.event) o (cached_after places other) else cached_after places other) (same_standing a.answer b.answer s.0 t.0 e.0.reply_is)
    ∙ ap (λ (v : Event). if is_changing v then with_reply places (key_of v) (standing b.answer) (cached_after places other) else cached_after places other) e.0.event_is

pub alike_length : (done other : List Done) → AllAlike done other → length done ≡ length other
alike_length [] [] e = refl
alike_length [] (b ∷ other) e = absurd e
alike_length (a ∷ done) [] e = absurd e
alike_length (a ∷ done) (b ∷ other) e = ap suc (alike_length done other e.1)

module _ (setups others : ℕ → Setup) (opening start : State) (same_opening : opening ≡ start) (same : (n : ℕ) → setups n ≡ others n) where
  alike_state : (done other : List Done) (s t : State) → AllByRecursion IsServed done → AllByRecursion IsServed other → AllAlike done other
      → IsRun setups opening done s → IsRun others start other t → s ≡ t
  alike_state [] [] s t p q e h g = h ∙ same_opening ∙ sym g
  alike_state [] (b ∷ other) s t p q e h g = absurd e
  alike_state (a ∷ done) [] s t p q e h g = absurd e
  alike_state (a ∷ done) (b ∷ other) s t p q e h g =
      let before = alike_state done other h.0 g.0 p.1 q.1 e.1 h.1 g.1 in
      let setup = setups (length done) in
      let in_force : setups (length done) ≡ others (length other) = ap setups (alike_length done other e.1) ∙ same (length other) in
      let cached = alike_cached setup.places done other p.1 q.1 e.1 in
      let moved : Step setup done h.0 a.event b.choice b.answer t =
      subst (λ (v : Event). Step setup done h.0 v b.choice b.answer t) (sym e.0.event_is)
      (subst (λ old. Step setup done old b.event b.choice b.answer t) (sym before)
      (subst (λ ps. Retransmitted (if is_changing b.event then cached_reply (key_of b.event) ps else None) setup g.0 b.event b.choice b.answer t) (sym cached)
      (subst (λ (u : Setup). Step u other g.0 b.event b.choice b.answer t) (sym in_force) g.2))) in
      one_step setup h.0 a.event a.choice b.choice a.answer b.answer s t p.0 q.0 (first_reply setup.places done a.event) h.2 moved

pub alike_hold_the_same : AlikeHoldTheSame
alike_hold_the_same history other s t f g begin p q e =
    let setup : s.setup ≡ t.setup =
    sym (f.in_force (length history.done) (omega arith)) ∙ ap history.setups (alike_length history.done other.done e) ∙ begin.setup_is (length other.done)
    ∙ g.in_force (length other.done) (omega arith) in (
      setup,
      alike_state history.setups other.setups history.opening other.opening begin.opening_is begin.setup_is history.done other.done s.state t.state p q e f.run g.run,
      f.cached ∙ alike_cached s.setup.places history.done other.done p q e ∙ ap (λ (u : Setup). cached_after u.places other.done) setup ∙ sym g.cached,
    )
