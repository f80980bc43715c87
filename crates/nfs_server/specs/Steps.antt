-- What one event may do, and runs of events.
use Rattle.std.specs.Prelude.{◌≡◌, ℕ, Bool, true, false, List, [], ◌∷◌, ◌++◌, length, Option, Some, None, option_map, Result, Ok, Err, not, ◌&&◌}
use Rattle.nfs_args.specs.Answers.{nfs_text}
use Rattle.nfs_args.specs.MountAnswers.{mount_text}
use Rattle.nfs_args.specs.declared.args.NfsArgs.{NfsArgs}
use Rattle.nfs_args.specs.declared.mount_answer.MountAnswer.{MountAnswer}
use Rattle.nfs_args.specs.declared.mount_answer.MountAnswer.TheVariants as result
use Rattle.nfs_args.specs.declared.mount_args.MountArgs.{MountArgs}
use Rattle.nfs_args.specs.declared.mount_args.MountArgs.TheVariants as asked
use Rattle.nfs_exports.specs.declared.addr.Addr.{Addr}
use Rattle.nfs_exports.specs.declared.export_table.Export.{Export}
use Rattle.nfs_handles.specs.Tags.{IsNextTag}
use Rattle.nfs_inodes.specs.Reading.{numbered_files}
use Rattle.nfs_inodes.specs.Tree.{Tree}
use Rattle.nfs_mount.specs.MountAnswers.{IsMountEncoded, denied_answer, dump_answer, export_answer, granted_answer, root_of}
use Rattle.nfs_mount.specs.MountRules.{mount_verdict}
use Rattle.nfs_mount.specs.Mounts.{after_mnt, after_umnt, is_mounted, without_addr}
use Rattle.nfs_mount.specs.declared.mount.Mount.{Mount}
use Rattle.nfs_procs.specs.Doing.{Doing}
use Rattle.nfs_procs.specs.Performing.{IsEncoded}
use Rattle.nfs_procs.specs.Procedures.{doing_of}
use Rattle.nfs_procs.specs.Scenes.{Scene, verdict_in, subjects_in, seen_in}
use Rattle.nfs_rpc.specs.Calls.{Call, head_at}
use Rattle.nfs_rpc.specs.Replies.{accepted_text}
use Rattle.nfs_rpc.specs.declared.call.RpcFault.{RpcFault}
use Rattle.nfs_rpc.specs.declared.reply.Accept.TheVariants.{Success, SystemErr}
use Rattle.nfs_rules.specs.Rules.{status_of}
use Rattle.nfs_rules.specs.Subjects.{Caller, Subject}
use Rattle.nfs_rules.specs.declared.rule.Rule.{Rule}
use Rattle.nfs_server.specs.AuditLines.{line_of}
use Rattle.nfs_server.specs.Events.{Event, Answer, Choice, Done, silence, granted, denied}
use Rattle.nfs_server.specs.Retransmissions.{first_reply, may_change}
use Rattle.nfs_server.specs.Requests.{Request, Nothing, OfNfs, OfMount, request_of}
use Rattle.nfs_server.specs.RpcRules.{rpc_failure_of, rpc_reply}
use Rattle.nfs_server.specs.declared.audit_line.DenialReason.TheVariants as reason
use Rattle.nfs_server.specs.declared.rpc_rules.RpcRule.{RpcRule}

-- what no event changes: how many replies a server keeps for retransmissions, and the exports in force, a list for each volume: what is exported to whom
pub record Setup : Type 0 where
  pub places : ℕ
  pub exports : List (List Export)

-- what events may change: the tree, and which clients mount which volumes
pub record State : Type 0 where
  pub tree : Tree
  pub mounts : List Mount

-- ---- a call of NFS

-- the reply to a call that keeps the rules of RPC, with its result
abbrev pub success : Call → List ℕ → List ℕ
success call result = accepted_text call.xid Success ++ result

-- The tree has the effect of the procedure, with the next tag for a new file, and the reply its result, as it is
-- encoded; both are of what the handles name.
pub record HasDone (c : Scene) (doing : Doing) (call : Call) (answer : Answer) (new : Tree) : Type 0 where
  pub one : Subject
  pub two : Subject
  pub subjects : subjects_in c ≡ Some (one, two)
  pub tag : ℕ
  pub tag_is : IsNextTag (numbered_files c.tree) tag
  pub new_is : new ≡ doing.effect one two c.now tag
  pub answer_is : answer ≡ granted (success call (nfs_text (doing.granted one two new)))
  pub encoded : IsEncoded (doing.granted one two new)

-- Without memory, for its place among the cached replies or for what it adds, a call is answered SYSTEM_ERR, and the tree stays.
pub record HasNone (c : Scene) (call : Call) (answer : Answer) (new : Tree) : Type 0 where
  pub new_is : new ≡ c.tree
  pub answer_is : answer ≡ denied (accepted_text call.xid SystemErr) (line_of c.caller.addr call reason.Memory)

-- The first rule that fails is answered by its status, and reported by its name with the uid of the caller, where
-- the rules of the handles are kept. The tree stays.
pub record IsDenied (c : Scene) (doing : Doing) (call : Call) (rule : Rule) (answer : Answer) (new : Tree) : Type 0 where
  pub new_is : new ≡ c.tree
  pub answer_is : answer ≡ denied (success call (nfs_text (doing.denied (status_of rule) (seen_in c)))) (line_of c.caller.addr call (reason.Rule rule (option_map (λ s. s.0.ids.uid) (subjects_in c))))
  pub encoded : IsEncoded (doing.denied (status_of rule) (seen_in c))

-- by the first rule that fails
abbrev pub Decided : Option Rule → Scene → Doing → Call → Answer → Tree → Type 0
Decided (Some rule) c doing call answer new = IsDenied c doing call rule answer new
Decided None c doing call answer new = HasDone c doing call answer new

-- By whether it is refused for memory. A procedure that does nothing has an empty result.
abbrev pub Refusable : Bool → Option Doing → Scene → Call → Answer → Tree → Type 0
Refusable true procedure c call answer new = HasNone c call answer new
Refusable false (Some doing) c call answer new = Decided (verdict_in c) c doing call answer new
Refusable false None c call answer new = (answer ≡ granted (success call [])) × (new ≡ c.tree)

-- only a call that may change the tree wants memory
abbrev pub Performed : Option Doing → Scene → Call → Choice → Answer → Tree → Type 0
Performed procedure c call choice answer new = Refusable (not choice.has_memory && may_change c.args) procedure c call answer new

-- ---- a call of MOUNT

-- The reply has this result, as it is encoded, and these are the mounts afterwards.
abbrev pub MountDone : Call → State → MountAnswer → List Mount → Answer → State → Type 0
MountDone call old result mounts answer new =
    (answer ≡ granted (success call (mount_text result))) × (new ≡ record { tree = old.tree; mounts = mounts }) × IsMountEncoded result

-- MNT, by the first rule that fails, and, where none does, by whether there is memory. A rule is reported without
-- a uid. Without memory nothing is done, which is only where the pair is new.
abbrev pub MountDecided : Option Rule → Bool → State → Addr → List ℕ → Call → Answer → State → Type 0
MountDecided (Some rule) has_memory old addr path call answer new =
    (answer ≡ denied (success call (mount_text (denied_answer rule))) (line_of addr call (reason.Rule rule None))) × (new ≡ old)
    × IsMountEncoded (denied_answer rule)
MountDecided None true old addr path call answer new = (handle : List ℕ) × (root_of old.tree path ≡ Some handle)
    × MountDone call old (granted_answer handle) (after_mnt old.tree addr path old.mounts) answer new
MountDecided None false old addr path call answer new = (is_mounted old.tree addr path old.mounts ≡ false)
    × (answer ≡ denied (accepted_text call.xid SystemErr) (line_of addr call reason.Memory)) × (new ≡ old)

-- each procedure by what it is asked for; none changes the tree
abbrev pub MountPerformed : MountArgs → List (List Export) → State → Addr → Call → Choice → Answer → State → Type 0
MountPerformed asked.Null exports old addr call choice answer new = MountDone call old result.Null old.mounts answer new
MountPerformed (asked.Mount path) exports old addr call choice answer new = MountDecided (mount_verdict old.tree exports addr path) choice.has_memory old addr path call answer new
MountPerformed asked.Dump exports old addr call choice answer new = MountDone call old (dump_answer old.tree old.mounts) old.mounts answer new
MountPerformed (asked.Unmount path) exports old addr call choice answer new = MountDone call old result.Unmount (after_umnt old.tree addr path old.mounts) answer new
MountPerformed asked.UnmountAll exports old addr call choice answer new = MountDone call old result.UnmountAll (without_addr addr old.mounts) answer new
MountPerformed asked.Export exports old addr call choice answer new = MountDone call old (export_answer old.tree exports) old.mounts answer new

-- ---- an event

abbrev pub scene_of : Setup → State → Event → Caller → NfsArgs → Scene
scene_of setup old event caller args = record { tree = old.tree; exports = setup.exports; caller = caller; now = event.moment; args = args }

-- NULL has an empty result; a call of NFS leaves the mount list. Where no rule of RPC fails, a call can be read.
abbrev pub Requested : Option Request → Setup → State → Event → Call → Choice → Answer → State → Type 0
Requested (Some Nothing) setup old event call choice answer new = (answer ≡ granted (success call [])) × (new ≡ old)
Requested (Some (OfNfs caller args)) setup old event call choice answer new = Performed (doing_of args) (scene_of setup old event caller args) call choice answer new.tree × (new.mounts ≡ old.mounts)
Requested (Some (OfMount args)) setup old event call choice answer new = MountPerformed args setup.exports old event.addr call choice answer new
Requested None setup old event call choice answer new = ⊥

-- A call that fails a rule of RPC has its reply and its line, and nothing changes.
abbrev pub Judged : Option RpcRule → Option Request → Setup → State → Event → Call → Choice → Answer → State → Type 0
Judged (Some rule) r setup old event call choice answer new =
    (answer ≡ denied (rpc_reply rule call.xid) (line_of event.addr call (reason.Rpc rule))) × (new ≡ old)
Judged None r setup old event call choice answer new = Requested r setup old event call choice answer new

-- a record that is no readable call has no reply, and nothing changes
abbrev pub Called : Result (Call × List ℕ) RpcFault → Setup → State → Event → Choice → Answer → State → Type 0
Called (Err fault) setup old event choice answer new = (answer ≡ silence) × (new ≡ old)
Called (Ok head) setup old event choice answer new = Judged (rpc_failure_of head.0 head.1) (request_of event.addr head.0 head.1) setup old event head.0 choice answer new

-- A retransmission has the first reply and no line, and nothing changes.
abbrev pub Retransmitted : Option (List ℕ) → Setup → State → Event → Choice → Answer → State → Type 0
Retransmitted (Some reply) setup old event choice answer new = (answer ≡ granted reply) × (new ≡ old)
Retransmitted None setup old event choice answer new = Called (head_at event.bytes) setup old event choice answer new

-- one event after a history, by the first case that applies
abbrev pub Step : Setup → List Done → State → Event → Choice → Answer → State → Type 0
Step setup history old event choice answer new = Retransmitted (first_reply setup.places history event) setup old event choice answer new

-- The history, the newest event first, is a run from the opening state to this one. Each event is judged by the exports in force when it came: the setups say which after so many events.
abbrev pub IsRun : (ℕ → Setup) → State → List Done → State → Type 0
IsRun setups opening [] state = state ≡ opening
IsRun setups opening (d ∷ before) state = (between : State) × IsRun setups opening before between
    × Step (setups (length before)) before between d.event d.choice d.answer state
