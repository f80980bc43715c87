-- Each noted event has a reply.
use Rattle.std.proofs.Common.{◌≡◌, ℕ, Bool, true, false, not, ◌&&◌, List, [], ◌∷◌, Option, Some, None, IsSome, length, refl, sym, subst}
use Rattle.std.specs.Prelude.{Result, Ok, Err, if◌then◌else◌}
use Rattle.std.specs.List.{AllByRecursion}
use Rattle.std.proofs.lemmas.Bool.{false≢true}
use Rattle.nfs_args.specs.declared.mount_args.MountArgs.{MountArgs}
use Rattle.nfs_args.specs.declared.mount_args.MountArgs.TheVariants as asked
use Rattle.nfs_inodes.specs.Tree.{Tree}
use Rattle.nfs_journal.specs.Noted.{NotedAreAnswered, noted}
use Rattle.nfs_server.specs.Noted.{has_entry, is_noted, is_noted_call}
use Rattle.nfs_mount.specs.MountRules.{mount_verdict}
use Rattle.nfs_procs.specs.Doing.{Doing}
use Rattle.nfs_procs.specs.Procedures.{doing_of}
use Rattle.nfs_procs.specs.Scenes.{Scene, verdict_in}
use Rattle.nfs_rpc.specs.Calls.{Call, head_at}
use Rattle.nfs_rpc.specs.declared.call.RpcFault.{RpcFault}
use Rattle.nfs_rules.specs.declared.rule.Rule.{Rule}
use Rattle.nfs_server.specs.Events.{Event, Answer, Choice, Done}
use Rattle.nfs_server.specs.Requests.{Request, Nothing, OfNfs, OfMount, request_of}
use Rattle.nfs_server.specs.Retransmissions.{first_reply, is_refused, may_change}
use Rattle.nfs_server.specs.RpcRules.{rpc_failure_of}
use Rattle.nfs_server.specs.Steps.{Setup, State, Decided, Refusable, MountDecided, MountPerformed, scene_of, Requested, Judged, Called, Retransmitted, IsRun}
use Rattle.nfs_server.specs.declared.rpc_rules.RpcRule.{RpcRule}

abbrev HasReply : Answer → Type 0
HasReply answer = IsSome answer.reply

has_as : (answer other : Answer) → answer ≡ other → HasReply other → HasReply answer
has_as answer other e h = subst HasReply (sym e) h

module _ (c : Scene) (call : Call) (answer : Answer) (new : Tree) where
  decided : (v : Option Rule) (doing : Doing) → Decided v c doing call answer new → HasReply answer
  decided (Some rule) doing h = has_as answer _ h.answer_is refl
  decided None doing h = has_as answer _ h.answer_is refl

  refusable : (refused : Bool) (o : Option Doing) → Refusable refused o c call answer new → HasReply answer
  refusable true o h = has_as answer _ h.answer_is refl
  refusable false None h = has_as answer _ h.0 refl
  refusable false (Some doing) h = decided (verdict_in c) doing h

module _ (setup : Setup) (old : State) (event : Event) (call : Call) (choice : Choice) (answer : Answer) (new : State) where
  mount_performed : (args : MountArgs) → MountPerformed args setup.exports old event.addr call choice answer new → HasReply answer
  mount_performed asked.Null h = has_as answer _ h.0 refl
  mount_performed (asked.Mount path) h = by (mount_verdict old.tree setup.exports event.addr path) choice.has_memory h
    where
      by : (v : Option Rule) (has_memory : Bool) → MountDecided v has_memory old event.addr path call answer new → HasReply answer
      by (Some rule) has_memory h = has_as answer _ h.0 refl
      by None true h = has_as answer _ h.2.0 refl
      by None false h = has_as answer _ h.1 refl
  mount_performed asked.Dump h = has_as answer _ h.0 refl
  mount_performed (asked.Unmount path) h = has_as answer _ h.0 refl
  mount_performed asked.UnmountAll h = has_as answer _ h.0 refl
  mount_performed asked.Export h = has_as answer _ h.0 refl

  requested : (r : Option Request) → Requested r setup old event call choice answer new → HasReply answer
  requested None h = absurd h
  requested (Some Nothing) h = has_as answer _ h.0 refl
  requested (Some (OfNfs caller args)) h = refusable (scene_of setup old event caller args) call answer new.tree (not choice.has_memory && may_change args) (doing_of args) h.0
  requested (Some (OfMount args)) h = mount_performed args h

  judged : (v : Option RpcRule) (r : Option Request) → Judged v r setup old event call choice answer new → HasReply answer
  judged (Some rule) r h = has_as answer _ h.0 refl
  judged None r h = requested r h

module _ (setup : Setup) (old : State) (event : Event) (choice : Choice) (answer : Answer) (new : State) where
  called : (head : Result (Call × List ℕ) RpcFault) → is_noted_call event.addr head ≡ true → Called head setup old event choice answer new → HasReply answer
  called (Err fault) e h = absurd (false≢true e)
  called (Ok head) e h = judged setup old event head.0 choice answer new (rpc_failure_of head.0 head.1) (request_of event.addr head.0 head.1) h

  retransmitted : (first : Option (List ℕ)) → is_noted event ≡ true → Retransmitted first setup old event choice answer new → HasReply answer
  retransmitted (Some reply) e h = has_as answer _ h.0 refl
  retransmitted None e h = called (head_at event.bytes) e h

first_true : (n r : Bool) → n && not r ≡ true → n ≡ true
first_true true r e = refl
first_true false r e = e

run_answered : (setups : ℕ → Setup) (opening : State) (done : List Done) (state : State) → IsRun setups opening done state → AllByRecursion (λ d. IsSome d.answer.reply) (noted done)
run_answered setups opening [] state run = tt
run_answered setups opening (d ∷ before) state run = by (has_entry d) refl (run_answered setups opening before run.0 run.1)
  where
    by : (b : Bool) → has_entry d ≡ b → AllByRecursion (λ d. IsSome d.answer.reply) (noted before) → AllByRecursion (λ d. IsSome d.answer.reply) (if b then d ∷ noted before else noted before)
    by true e h = (
      retransmitted (setups (length before)) run.0 d.event d.choice d.answer state (first_reply (setups (length before)).places before d.event)
          (first_true (is_noted d.event) (is_refused d.answer.line) e) run.2,
      h,
    )
    by false e h = h

pub noted_are_answered : NotedAreAnswered
noted_are_answered history s fits = run_answered history.setups history.opening history.done s.state fits.run
