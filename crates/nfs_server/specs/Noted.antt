-- Which events are noted in a journal.
use Rattle.std.specs.Prelude.{ℕ, Bool, true, false, not, ◌&&◌, List, Option, Some, None, Result, Ok, Err, is_none}
use Rattle.std.specs.List.{find}
use Rattle.nfs_args.specs.declared.mount_args.MountArgs.{MountArgs}
use Rattle.nfs_args.specs.declared.mount_args.MountArgs.TheVariants as asked
use Rattle.nfs_exports.specs.declared.addr.Addr.{Addr}
use Rattle.nfs_rpc.specs.Calls.{Call, head_at}
use Rattle.nfs_rpc.specs.declared.call.RpcFault.{RpcFault}
use Rattle.nfs_server.specs.Events.{Event, Answer, Done}
use Rattle.nfs_server.specs.Requests.{Request, Nothing, OfNfs, OfMount, request_of}
use Rattle.nfs_server.specs.Retransmissions.{is_refused, may_change}
use Rattle.nfs_server.specs.RpcRules.{fails_rpc, rpc_failure_of}
use Rattle.nfs_server.specs.declared.rpc_rules.RpcRule.{RpcRule}

-- ---- calls that may change the tree or the mount list

-- whether these are arguments of a procedure that may change the mount list: MNT, UMNT or UMNTALL
abbrev pub may_change_mounts : MountArgs → Bool
may_change_mounts (asked.Mount path) = true
may_change_mounts (asked.Unmount path) = true
may_change_mounts asked.UnmountAll = true
may_change_mounts other = false

abbrev pub is_noted_request : Option Request → Bool
is_noted_request None = false
is_noted_request (Some Nothing) = false
is_noted_request (Some (OfNfs caller args)) = may_change args
is_noted_request (Some (OfMount args)) = may_change_mounts args

-- by the first rule of RPC that fails, and what is asked for
abbrev pub is_noted_judged : Option RpcRule → Option Request → Bool
is_noted_judged failure request = is_none failure && is_noted_request request

abbrev pub is_noted_call : Addr → Result (Call × List ℕ) RpcFault → Bool
is_noted_call addr (Err fault) = false
is_noted_call addr (Ok head) = is_noted_judged (rpc_failure_of head.0 head.1) (request_of addr head.0 head.1)

-- whether the record is a call that keeps the rules of RPC, of a procedure that may change the tree or the mount list
abbrev pub is_noted : Event → Bool
is_noted event = is_noted_call event.addr (head_at event.bytes)

-- the same of a call with its arguments, of which these rules of RPC are still to be looked at
abbrev pub is_noted_by : List RpcRule → Event → Call → List ℕ → Bool
is_noted_by rules event call bytes = is_noted_judged (find (fails_rpc call bytes) rules) (request_of event.addr call bytes)

-- ---- events that were answered

-- whether an event with this answer is noted: where it was refused for want of memory, nothing was done
abbrev pub is_noted_with : Event → Answer → Bool
is_noted_with event answer = is_noted event && not (is_refused answer.line)

-- whether the event is noted in the journal
abbrev pub has_entry : Done → Bool
has_entry d = is_noted_with d.event d.answer
