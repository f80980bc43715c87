-- A call that fails no rule has no line, but where memory was wanted.
use Rattle.std.proofs.Common.{◌≡◌, ℕ, Bool, true, false, not, ◌&&◌, List, Option, Some, None, is_some, refl, sym, ap, subst}
use Rattle.std.specs.Prelude.{Result, Ok, Err}
use Rattle.nfs_args.specs.declared.args.NfsArgs.{NfsArgs}
use Rattle.nfs_args.specs.declared.mount_args.MountArgs.{MountArgs}
use Rattle.nfs_args.specs.declared.mount_args.MountArgs.TheVariants as asked
use Rattle.nfs_exports.specs.declared.addr.Addr.{Addr}
use Rattle.nfs_inodes.specs.Tree.{Tree}
use Rattle.nfs_mount.specs.MountRules.{mount_verdict}
use Rattle.nfs_procs.specs.Doing.{Doing}
use Rattle.nfs_procs.specs.Procedures.{doing_of}
use Rattle.nfs_procs.specs.Scenes.{Scene, verdict_in}
use Rattle.nfs_reply_cache.specs.Places.{Place, cached_reply}
use Rattle.nfs_rpc.specs.Calls.{Call, head_at}
use Rattle.nfs_rpc.specs.declared.call.RpcFault.{RpcFault}
use Rattle.nfs_rules.specs.Subjects.{Caller}
use Rattle.nfs_rules.specs.declared.rule.Rule.{Rule}
use Rattle.nfs_server.specs.Denying.{IsSpared, fails_called, fails_judged, fails_rule}
use Rattle.nfs_server.specs.Events.{Event, Answer, Choice, granted}
use Rattle.nfs_server.specs.Fits.{Held}
use Rattle.nfs_server.specs.OneEvent.{AnswersCached, AnswersRecord}
use Rattle.nfs_server.specs.Requests.{Request, Nothing, OfNfs, OfMount, request_of}
use Rattle.nfs_server.specs.Retransmissions.{calls_change, is_change, key_of, may_change}
use Rattle.nfs_server.specs.RpcRules.{rpc_failure_of}
use Rattle.nfs_server.specs.Steps.{Called, Decided, Judged, MountDecided, MountPerformed, Refusable, Requested, State, scene_of}
use Rattle.nfs_server.specs.declared.audit_line.AuditLine.{AuditLine}
use Rattle.nfs_server.specs.declared.rpc_rules.RpcRule.{RpcRule}

none_line : (answer : Answer) (line : Option AuditLine) → answer.line ≡ line → IsSpared line → IsSpared answer.line
none_line answer line e spared = subst IsSpared (sym e) spared

-- a call that is granted
by_grant : (answer : Answer) (reply : List ℕ) → answer ≡ granted reply → IsSpared answer.line
by_grant answer reply e = none_line answer None (ap (λ (a : Answer). a.line) e) tt

-- ---- of NFS

decided : (verdict : Option Rule) (c : Scene) (doing : Doing) (call : Call) (answer : Answer) (new : Tree) → is_some verdict ≡ false → Decided verdict c doing call answer new → IsSpared answer.line
decided None c doing call answer new kept done = by_grant answer _ done.answer_is
decided (Some rule) c doing call answer new kept done = cc

refusable : (refused : Bool) (procedure : Option Doing) (c : Scene) (call : Call) (answer : Answer) (new : Tree) → is_some (verdict_in c) ≡ false → Refusable refused procedure c call answer new → IsSpared answer.line
refusable true procedure c call answer new kept none = none_line answer (Some _) (ap (λ (a : Answer). a.line) none.answer_is) refl
refusable false (Some doing) c call answer new kept done = decided (verdict_in c) c doing call answer new kept done
refusable false None c call answer new kept done = by_grant answer _ done.0

-- ---- of MOUNT

mount_decided : (verdict : Option Rule) (has_memory : Bool) (old : State) (addr : Addr) (path : List ℕ) (call : Call) (answer : Answer) (new : State) → is_some verdict ≡ false
    → MountDecided verdict has_memory old addr path call answer new → IsSpared answer.line
mount_decided (Some rule) has_memory old addr path call answer new kept done = cc
mount_decided None true old addr path call answer new kept done = by_grant answer _ done.2.0
mount_decided None false old addr path call answer new kept done = none_line answer (Some _) (ap (λ (a : Answer). a.line) done.1) refl

module _ (s : Held) (event : Event) (call : Call) (choice : Choice) (answer : Answer) (new : State) where
  mount_performed : (args : MountArgs) → fails_judged None (Some (OfMount args)) None s event ≡ false → MountPerformed args s.setup.exports s.state event.addr call choice answer new → IsSpared answer.line
  mount_performed asked.Null kept done = by_grant answer _ done.0
  mount_performed (asked.Mount path) kept done = mount_decided (mount_verdict s.state.tree s.setup.exports event.addr path) choice.has_memory s.state event.addr path call answer new kept done
  mount_performed asked.Dump kept done = by_grant answer _ done.0
  mount_performed (asked.Unmount path) kept done = by_grant answer _ done.0
  mount_performed asked.UnmountAll kept done = by_grant answer _ done.0
  mount_performed asked.Export kept done = by_grant answer _ done.0

  -- ---- what may be cached

  -- a call of NFS, by whether it may change the tree, and the reply that is cached
  nfs_cached : (changes : Bool) (reply : Option (List ℕ)) (caller : Caller) (args : NfsArgs) (kept : List Place) → not (changes && is_some reply) && is_some (verdict_in (scene_of s.setup s.state event caller args)) ≡ false
      → AnswersCached changes reply (Requested (Some (OfNfs caller args)) s.setup s.state event call choice answer new) s event answer new kept → IsSpared answer.line
  nfs_cached true (Some reply) caller args kept passes a = by_grant answer reply a.0
  nfs_cached true None caller args kept passes a = refusable (not choice.has_memory && may_change args) (doing_of args) (scene_of s.setup s.state event caller args) call answer new.tree passes a.0.0
  nfs_cached false reply caller args kept passes a = refusable (not choice.has_memory && may_change args) (doing_of args) (scene_of s.setup s.state event caller args) call answer new.tree passes a.0.0

  judged : (failure : Option RpcRule) (request : Option Request) (reply : Option (List ℕ)) (kept : List Place) → fails_judged failure request reply s event ≡ false
      → AnswersCached (is_change failure request) reply (Judged failure request s.setup s.state event call choice answer new) s event answer new kept → IsSpared answer.line
  judged (Some rule) request reply kept passes a = cc
  judged None None reply kept passes a = absurd a.0
  judged None (Some Nothing) reply kept passes a = by_grant answer _ a.0.0
  judged None (Some (OfNfs caller args)) reply kept passes a = nfs_cached (may_change args) reply caller args kept passes a
  judged None (Some (OfMount args)) reply kept passes a = mount_performed args passes a.0

-- ---- a record

called : (head : Result (Call × List ℕ) RpcFault) (s : Held) (event : Event) (choice : Choice) (answer : Answer) (new : State) (kept : List Place) → fails_called head s event ≡ false
    → AnswersCached (calls_change event.addr head) (cached_reply (key_of event) s.kept) (Called head s.setup s.state event choice answer new) s event answer new kept → IsSpared answer.line
called (Err fault) s event choice answer new kept passes a = none_line answer None (ap (λ (a : Answer). a.line) a.0.0) tt
called (Ok head) s event choice answer new kept passes a = judged s event head.0 choice answer new (rpc_failure_of head.0 head.1) (request_of event.addr head.0 head.1) (cached_reply (key_of event) s.kept) kept passes a

pub spared : (s : Held) (event : Event) (answer : Answer) (new : Held) → fails_rule s event ≡ false → AnswersRecord s event answer new → IsSpared answer.line
spared s event answer new passes a = called (head_at event.bytes) s event a.1.0 answer new.state new.kept passes a.1.1
