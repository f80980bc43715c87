-- An event leaves the tree, or it is a call of NFS that is granted.
use Rattle.std.proofs.Common.{inl, inr, ◌≡◌, ◌⊎◌, ℕ, Bool, true, false, List, Option, Some, None, refl, sym, ap}
use Rattle.std.specs.Prelude.{Result, Ok, Err, if◌then◌else◌, option_map, not, ◌&&◌}
use Rattle.nfs_args.specs.declared.args.NfsArgs.{NfsArgs}
use Rattle.nfs_args.specs.declared.mount_args.MountArgs.{MountArgs}
use Rattle.nfs_args.specs.declared.mount_args.MountArgs.TheVariants as asked
use Rattle.nfs_exports.specs.declared.addr.Addr.{Addr}
use Rattle.nfs_inodes.proofs.Lists.{same_some, not_both}
use Rattle.nfs_handles.specs.Tags.{IsNextTag}
use Rattle.nfs_inodes.specs.Reading.{numbered_files}
use Rattle.nfs_inodes.specs.Tree.{Tree}
use Rattle.nfs_mount.specs.MountRules.{mount_verdict}
use Rattle.nfs_procs.specs.Doing.{Doing}
use Rattle.nfs_procs.specs.Performing.{IsGranted}
use Rattle.nfs_procs.specs.Procedures.{doing_of}
use Rattle.nfs_procs.specs.Scenes.{Scene, verdict_in}
use Rattle.nfs_rpc.specs.AuthSys.{Credential, caller}
use Rattle.nfs_rpc.specs.Calls.{Call, head_at}
use Rattle.nfs_rpc.specs.declared.call.RpcFault.{RpcFault}
use Rattle.nfs_rules.specs.Subjects.{Caller, Subject}
use Rattle.nfs_rules.specs.declared.rule.Rule.{Rule}
use Rattle.nfs_server.specs.Events.{Event, Answer, Choice, Done}
use Rattle.nfs_server.specs.Requests.{Request, Nothing, OfNfs, OfMount, request_of, is_null, is_nfs, args_in, mount_args_in}
use Rattle.nfs_server.specs.Requests as requests
use Rattle.nfs_server.specs.RpcRules.{rpc_failure_of}
use Rattle.nfs_server.specs.Retransmissions.{first_reply, may_change}
use Rattle.nfs_server.specs.Steps.{Setup, State, Decided, Refusable, Performed, MountDecided, MountPerformed, scene_of, Requested, Judged, Called, Retransmitted, Step}
use Rattle.nfs_server.specs.declared.rpc_rules.RpcRule.{RpcRule}
use Rattle.nfs_policy.specs.Confining.{Asks}

-- the tree has the effect of a granted call
pub record IsEffect (c : Scene) (new : Tree) : Type 0 where
  pub doing : Doing
  pub doing_is : doing_of c.args ≡ Some doing
  pub one : Subject
  pub two : Subject
  pub tag : ℕ
  pub tag_is : IsNextTag (numbered_files c.tree) tag
  pub granted : IsGranted c one two
  pub new_is : new ≡ doing.effect one two c.now tag

module _ (c : Scene) (call : Call) (choice : Choice) (answer : Answer) (new : Tree) where
  abbrev LeavesOr : Type 0
  LeavesOr = (new ≡ c.tree) ⊎ IsEffect c new

  decided : (doing : Doing) → doing_of c.args ≡ Some doing → (v : Option Rule) → verdict_in c ≡ v → Decided v c doing call answer new → LeavesOr
  decided doing is (Some rule) v h = inl h.new_is
  decided doing is None v h = inr (record { doing = doing; doing_is = is; one = h.one; two = h.two; tag = h.tag; tag_is = h.tag_is; granted = record { subjects = h.subjects; verdict = v }; new_is = h.new_is })

  refusable : (refused : Bool) (o : Option Doing) → doing_of c.args ≡ o → Refusable refused o c call answer new → LeavesOr
  refusable true o is h = inl h.new_is
  refusable false None is h = inl h.1
  refusable false (Some doing) is h = decided doing is (verdict_in c) refl h

  performed : (o : Option Doing) → doing_of c.args ≡ o → Performed o c call choice answer new → LeavesOr
  performed o is h = refusable (not choice.has_memory && may_change c.args) o is h

-- who asks calls from the address of the event
asked_addr : (addr : Addr) (cred : Option Credential) (args : Option NfsArgs) (who : Caller) (a : NfsArgs) → requests.asked addr cred args ≡ Some (OfNfs who a) → who.addr ≡ addr
asked_addr addr (Some cred) (Some args) who a e = sym (ap addr_in (same_some e))
  where
    addr_in : Request → Addr
    addr_in Nothing = addr
    addr_in (OfNfs who args) = who.addr
    addr_in (OfMount args) = addr
asked_addr addr (Some cred) None who a e = absurd (not_both refl e)
asked_addr addr None args who a e = absurd (not_both refl e)

mount_apart : (o : Option MountArgs) (who : Caller) (a : NfsArgs) → option_map OfMount o ≡ Some (OfNfs who a) → ⊥
mount_apart None who a e = not_both refl e
mount_apart (Some args) who a e = cc

request_addr : (addr : Addr) (call : Call) (bytes : List ℕ) (who : Caller) (a : NfsArgs) → request_of addr call bytes ≡ Some (OfNfs who a) → who.addr ≡ addr
request_addr addr call bytes who a e = by (is_null call) (is_nfs call) e
  where
    by : (null nfs : Bool) → (if null then Some Nothing else if nfs then requests.asked addr (caller call.cred.body) (args_in call.proc bytes) else option_map OfMount (mount_args_in call.proc bytes)) ≡ Some (OfNfs who a) → who.addr ≡ addr
    by true nfs e = cc
    by false true e = asked_addr addr (caller call.cred.body) (args_in call.proc bytes) who a e
    by false false e = absurd (mount_apart (mount_args_in call.proc bytes) who a e)

-- the event asks something of NFS, and the tree has the effect
pub record IsChange (setup : Setup) (old : State) (event : Event) (new : State) : Type 0 where
  pub caller : Caller
  pub args : NfsArgs
  pub asks : Asks event caller args
  pub addr : caller.addr ≡ event.addr
  pub effect : IsEffect (scene_of setup old event caller args) new.tree

module _ (setup : Setup) (old : State) (event : Event) (choice : Choice) (answer : Answer) (new : State) where
  abbrev pub Changes : Type 0
  Changes = (new.tree ≡ old.tree) ⊎ IsChange setup old event new

  same : new ≡ old → Changes
  same e = inl (ap (λ (s : State). s.tree) e)

  mount_decided : (v : Option Rule) (has_memory : Bool) (path : List ℕ) (call : Call) → MountDecided v has_memory old event.addr path call answer new → Changes
  mount_decided (Some rule) has_memory path call h = same h.1
  mount_decided None true path call h = inl (ap (λ (s : State). s.tree) h.2.1)
  mount_decided None false path call h = same h.2

  mount_performed : (asks : MountArgs) (call : Call) → MountPerformed asks setup.exports old event.addr call choice answer new → Changes
  mount_performed asked.Null call h = inl (ap (λ (s : State). s.tree) h.1)
  mount_performed (asked.Mount path) call h = mount_decided (mount_verdict old.tree setup.exports event.addr path) choice.has_memory path call h
  mount_performed asked.Dump call h = inl (ap (λ (s : State). s.tree) h.1)
  mount_performed (asked.Unmount path) call h = inl (ap (λ (s : State). s.tree) h.1)
  mount_performed asked.UnmountAll call h = inl (ap (λ (s : State). s.tree) h.1)
  mount_performed asked.Export call h = inl (ap (λ (s : State). s.tree) h.1)

  requested : (call : Call) (rest : List ℕ) → head_at event.bytes ≡ Ok (call, rest) → rpc_failure_of call rest ≡ None → (r : Option Request) → request_of event.addr call rest ≡ r → Requested r setup old event call choice answer new → Changes
  requested call rest head kept None is h = absurd h
  requested call rest head kept (Some Nothing) is h = same h.1
  requested call rest head kept (Some (OfNfs caller args)) is h = elim (performed (scene_of setup old event caller args) call choice answer new.tree (doing_of args) refl h.0) as (λ x. Changes) [
    | inl e ↦ inl e
    | inr effect ↦ inr (record { caller = caller; args = args; asks = record { call = call; rest = rest; head = head; kept = kept; request = is }; addr = request_addr event.addr call rest caller args is; effect = effect })
  ]
  requested call rest head kept (Some (OfMount args)) is h = mount_performed args call h

  judged : (call : Call) (rest : List ℕ) → head_at event.bytes ≡ Ok (call, rest) → (v : Option RpcRule) → rpc_failure_of call rest ≡ v → Judged v (request_of event.addr call rest) setup old event call choice answer new → Changes
  judged call rest head (Some rule) kept h = same h.1
  judged call rest head None kept h = requested call rest head kept (request_of event.addr call rest) refl h

  called : (head : Result (Call × List ℕ) RpcFault) → head_at event.bytes ≡ head → Called head setup old event choice answer new → Changes
  called (Err fault) is h = same h.1
  called (Ok head) is h = judged head.0 head.1 is (rpc_failure_of head.0 head.1) refl h

  retransmitted : (reply : Option (List ℕ)) → Retransmitted reply setup old event choice answer new → Changes
  retransmitted (Some reply) h = same h.1
  retransmitted None h = called (head_at event.bytes) refl h

pub step_changes : (setup : Setup) (history : List Done) (old : State) (event : Event) (choice : Choice) (answer : Answer) (new : State) → Step setup history old event choice answer new → Changes setup old event choice answer new
step_changes setup history old event choice answer new step = retransmitted setup old event choice answer new (first_reply setup.places history event) step
