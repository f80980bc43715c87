-- Whether a call fails a rule, as the server stands, said without answering it.
use Rattle.std.specs.Prelude.{◌≡◌, ℕ, Bool, true, false, not, ◌&&◌, List, Option, Some, None, Result, Ok, Err, is_some}
use Rattle.std.specs.List.{find}
use Rattle.nfs_args.specs.declared.mount_args.MountArgs.{MountArgs}
use Rattle.nfs_args.specs.declared.mount_args.MountArgs.TheVariants as asked
use Rattle.nfs_exports.specs.declared.addr.Addr.{Addr}
use Rattle.nfs_exports.specs.declared.export_table.Export.{Export}
use Rattle.nfs_inodes.specs.Tree.{Tree}
use Rattle.nfs_mount.specs.MountRules.{mount_verdict}
use Rattle.nfs_procs.specs.Scenes.{verdict_in}
use Rattle.nfs_reply_cache.specs.Places.{cached_reply}
use Rattle.nfs_rpc.specs.Calls.{Call, head_at}
use Rattle.nfs_rpc.specs.declared.call.RpcFault.{RpcFault}
use Rattle.nfs_server.specs.Events.{Event}
use Rattle.nfs_server.specs.Fits.{Held}
use Rattle.nfs_server.specs.Requests.{Request, Nothing, OfNfs, OfMount, request_of}
use Rattle.nfs_server.specs.Retransmissions.{key_of, requests_change, wants_memory}
use Rattle.nfs_server.specs.RpcRules.{fails_rpc, rpc_failure_of}
use Rattle.nfs_server.specs.Steps.{scene_of}
use Rattle.nfs_server.specs.declared.audit_line.AuditLine.{AuditLine}
use Rattle.nfs_server.specs.declared.rpc_rules.RpcRule.{RpcRule}

-- of MOUNT, MNT alone has rules
abbrev pub fails_mount : MountArgs → Tree → List (List Export) → Addr → Bool
fails_mount (asked.Mount path) t exports addr = is_some (mount_verdict t exports addr path)
fails_mount other t exports addr = false

-- by what is asked for
abbrev pub fails_request : Option Request → Held → Event → Bool
fails_request None s event = false
fails_request (Some Nothing) s event = false
fails_request (Some (OfNfs caller args)) s event = is_some (verdict_in (scene_of s.setup s.state event caller args))
fails_request (Some (OfMount args)) s event = fails_mount args s.state.tree s.setup.exports event.addr

-- By the first rule of RPC that fails, and what is asked for. A retransmission whose reply is cached is judged by no rule again.
abbrev pub fails_judged : Option RpcRule → Option Request → Option (List ℕ) → Held → Event → Bool
fails_judged (Some rule) request reply s event = true
fails_judged None request reply s event = not (requests_change request && is_some reply) && fails_request request s event

-- a call with its arguments, of which these rules of RPC are still to be looked at
abbrev pub fails_by : List RpcRule → Held → Event → Call → List ℕ → Bool
fails_by rules s event call bytes = fails_judged (find (fails_rpc call bytes) rules) (request_of event.addr call bytes) (cached_reply (key_of event) s.kept) s event

abbrev pub fails_called : Result (Call × List ℕ) RpcFault → Held → Event → Bool
fails_called (Err fault) s event = false
fails_called (Ok head) s event = fails_judged (rpc_failure_of head.0 head.1) (request_of event.addr head.0 head.1) (cached_reply (key_of event) s.kept) s event

-- whether the record is a call that fails a rule
abbrev pub fails_rule : Held → Event → Bool
fails_rule s event = fails_called (head_at event.bytes) s event

-- a call has no line, or one that says that memory was wanted
abbrev pub IsSpared : Option AuditLine → Type 0
IsSpared None = Unit {0}
IsSpared (Some line) = wants_memory line.reason ≡ true
