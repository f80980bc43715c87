-- What one event does to a server, said without a history and by some choice.
use Rattle.std.specs.Prelude.{◌≡◌, ℕ, Bool, true, false, List, Option, Some, None, Result}
use Rattle.std.specs.List.{find}
use Rattle.nfs_args.specs.MountAnswers.{mount_text}
use Rattle.nfs_args.specs.declared.mount_answer.MountAnswer.{MountAnswer}
use Rattle.nfs_args.specs.declared.mount_answer.MountAnswer.TheVariants as result
use Rattle.nfs_args.specs.declared.args.NfsArgs.{NfsArgs}
use Rattle.nfs_args.specs.declared.mount_args.MountArgs.{MountArgs}
use Rattle.nfs_args.specs.declared.mount_args.MountArgs.TheVariants as asked
use Rattle.nfs_exports.specs.declared.addr.Addr.{Addr}
use Rattle.nfs_exports.specs.declared.export_table.Export.{Export}
use Rattle.nfs_inodes.specs.Tree.{Tree}
use Rattle.nfs_reply_cache.specs.Places.{Place, cached_reply, with_reply}
use Rattle.nfs_mount.specs.MountAnswers.{IsMountEncoded, Mounts, dump_answer, export_answer}
use Rattle.nfs_mount.specs.Mounts.{after_umnt, without_addr}
use Rattle.nfs_mount.specs.declared.mount.Mount.{Mount}
use Rattle.nfs_mount.specs.declared.outcome.MountOutcome.{MountOutcome}
use Rattle.nfs_mount.specs.declared.outcome.MountOutcome.TheVariants.{Granted}
use Rattle.nfs_procs.specs.Procedures.{doing_of}
use Rattle.nfs_procs.specs.Scenes.{Scene}
use Rattle.nfs_rpc.specs.AuthSys.{credential_of}
use Rattle.nfs_rpc.specs.declared.auth_sys.Cred.{Cred}
use Rattle.nfs_rpc.specs.Calls.{Call, head_at}
use Rattle.nfs_rpc.specs.declared.call.RpcFault.{RpcFault}
use Rattle.nfs_server.specs.Events.{Event, Answer, Choice, granted}
use Rattle.nfs_server.specs.Fits.{Held}
use Rattle.nfs_server.specs.Retransmissions.{calls_change, is_change, key_of, standing}
use Rattle.nfs_server.specs.Requests.{Request, request_of}
use Rattle.nfs_server.specs.RpcRules.{fails_rpc}
use Rattle.nfs_server.specs.Steps.{Called, Judged, MountPerformed, Performed, State, scene_of}
use Rattle.nfs_server.specs.declared.rpc_rules.RpcRule.{RpcRule}
use Rattle.nfs_xdr.specs.Written.{Written, Appends}

-- By whether the call is a changing one, and the reply that is cached for it. `Anew` is what it may be answered where none is.
abbrev pub AnswersCached : Bool → Option (List ℕ) → Type 0 → Held → Event → Answer → State → List Place → Type 0
AnswersCached false reply Anew old event answer new kept = Anew × (kept ≡ old.kept)
AnswersCached true (Some reply) Anew old event answer new kept = (answer ≡ granted reply) × (new ≡ old.state)
    × (kept ≡ with_reply old.setup.places (key_of event) (Some reply) old.kept)
AnswersCached true None Anew old event answer new kept = Anew × (kept ≡ with_reply old.setup.places (key_of event) (standing answer) old.kept)

-- a call, by the first rule of RPC that fails, and what it asks for
abbrev pub AnswersJudged : Option RpcRule → Option Request → Held → Event → Call → Answer → Held → Type 0
AnswersJudged failure request old event call answer new = (choice : Choice)
    × AnswersCached (is_change failure request) (cached_reply (key_of event) old.kept) (Judged failure request old.setup old.state event call choice answer new.state) old event answer new.state new.kept

-- a record
abbrev pub AnswersCalled : Result (Call × List ℕ) RpcFault → Held → Event → Answer → Held → Type 0
AnswersCalled head old event answer new = (choice : Choice)
    × AnswersCached (calls_change event.addr head) (cached_reply (key_of event) old.kept) (Called head old.setup old.state event choice answer new.state) old event answer new.state new.kept

abbrev pub AnswersRecord : Held → Event → Answer → Held → Type 0
AnswersRecord old event answer new = (new.setup ≡ old.setup) × AnswersCalled (head_at event.bytes) old event answer new

-- the same of a call with its arguments, of which these rules of RPC are still to be looked at
abbrev pub AnswersBy : List RpcRule → Held → Event → Call → List ℕ → Answer → Held → Type 0
AnswersBy rules old event call bytes answer new = AnswersJudged (find (fails_rpc call bytes) rules) (request_of event.addr call bytes) old event call answer new

-- and of a call of NFS that keeps them all
abbrev pub AnswersCall : Scene → Call → Answer → Tree → Type 0
AnswersCall c call answer new = (choice : Choice) × Performed (doing_of c.args) c call choice answer new

-- and of one of MOUNT
abbrev pub AnswersMount : MountArgs → List (List Export) → State → Addr → Call → Answer → List Mount → Type 0
AnswersMount args exports old addr call answer mounts = (choice : Choice)
    × MountPerformed args exports old addr call choice answer (record { tree = old.tree; mounts = mounts })

-- the scene of a call to a server
abbrev pub scene_for : Held → Event → Cred → NfsArgs → Scene
scene_for old event cred args = scene_of old.setup old.state event (record { addr = event.addr; cred = credential_of cred }) args

-- what a call of NFS does to a server that answers it anew
abbrev pub PerformsAnew : Scene → Call → Answer → Held → Held → Type 0
PerformsAnew c call answer old new = AnswersCall c call answer new.state.tree × (new.state.mounts ≡ old.state.mounts)

-- and one that may change the tree, of which a reply may be kept
abbrev pub AnswersChange : Scene → Call → Held → Event → Answer → Held → Type 0
AnswersChange c call old event answer new = AnswersCached true (cached_reply (key_of event) old.kept) (PerformsAnew c call answer old new) old event answer new.state new.kept

-- this is written, as it is encoded, and these are the mounts afterwards
abbrev pub Leaves : MountAnswer → List Mount → MountOutcome → List Mount → Written → Written → Type 0
Leaves result mounts came new before after =
    (came ≡ Granted) × (new ≡ mounts) × Appends (mount_text result) before after × IsMountEncoded result

-- what becomes of a call of MOUNT, of the mounts, and of the room for its result
abbrev pub MountsAs : MountArgs → Tree → List (List Export) → Addr → MountOutcome → List Mount → List Mount → Written → Written → Type 0
MountsAs asked.Null t exports addr came old new before after = Leaves result.Null old came new before after
MountsAs (asked.Mount path) t exports addr came old new before after = Mounts t exports addr path came old new before after
MountsAs asked.Dump t exports addr came old new before after = Leaves (dump_answer t old) old came new before after
MountsAs (asked.Unmount path) t exports addr came old new before after = Leaves result.Unmount (after_umnt t addr path old) came new before after
MountsAs asked.UnmountAll t exports addr came old new before after = Leaves result.UnmountAll (without_addr addr old) came new before after
MountsAs asked.Export t exports addr came old new before after = Leaves (export_answer t exports) old came new before after
