-- Retransmissions: how they are known, and by which reply they are answered.
use Rattle.std.specs.Prelude.{ℕ, Bool, true, false, ◌&&◌, List, [], ◌∷◌, Option, Some, None, Result, Ok, Err, is_none, if◌then◌else◌}
use Rattle.nfs_args.specs.declared.args.NfsArgs.{NfsArgs}
use Rattle.nfs_args.specs.Encoding.{procedure_of}
use Rattle.nfs_args.specs.Procedures as procedures
use Rattle.nfs_exports.specs.declared.addr.Addr.{Addr}
use Rattle.nfs_reply_cache.specs.Places.{Key, Place, cached_reply, with_reply}
use Rattle.nfs_rpc.specs.Calls.{Call, head_at}
use Rattle.nfs_rpc.specs.declared.call.RpcFault.{RpcFault}
use Rattle.nfs_server.specs.Events.{Event, Answer, Done}
use Rattle.nfs_server.specs.Requests.{Request, Nothing, OfNfs, OfMount, request_of}
use Rattle.nfs_server.specs.RpcRules.{rpc_failure_of}
use Rattle.nfs_server.specs.declared.audit_line.AuditLine.{AuditLine}
use Rattle.nfs_server.specs.declared.audit_line.DenialReason.{DenialReason}
use Rattle.nfs_server.specs.declared.audit_line.DenialReason.TheVariants.{Memory}
use Rattle.nfs_server.specs.declared.rpc_rules.RpcRule.{RpcRule}

-- ---- calls that may change the tree

-- whether these are arguments of a procedure that may change the tree
abbrev pub may_change : NfsArgs → Bool
may_change args = procedures.may_change (procedure_of args)

abbrev pub requests_change : Option Request → Bool
requests_change None = false
requests_change (Some Nothing) = false
requests_change (Some (OfNfs caller args)) = may_change args
requests_change (Some (OfMount args)) = false

-- by the first rule of RPC that fails
abbrev pub is_change : Option RpcRule → Option Request → Bool
is_change failure request = is_none failure && requests_change request

abbrev pub calls_change : Addr → Result (Call × List ℕ) RpcFault → Bool
calls_change addr (Err fault) = false
calls_change addr (Ok head) = is_change (rpc_failure_of head.0 head.1) (request_of addr head.0 head.1)

-- whether the record is a changing call: one of NFS that keeps the rules of RPC, of such a procedure
abbrev pub is_changing : Event → Bool
is_changing event = calls_change event.addr (head_at event.bytes)

-- ---- the reply cache

-- a retransmission is known by the address and the record
abbrev pub key_of : Event → Key
key_of event = (event.addr, event.bytes)

-- want of memory is reported by its line
abbrev pub wants_memory : DenialReason → Bool
wants_memory Memory = true
wants_memory other = false

abbrev pub is_refused : Option AuditLine → Bool
is_refused None = false
is_refused (Some line) = wants_memory line.reason

-- a reply other than SYSTEM_ERR
abbrev pub standing : Answer → Option (List ℕ)
standing answer = if is_refused answer.line then None else answer.reply

-- The reply cache after a history, the most recently used first: each changing call puts its reply at the front, a retransmission its first one once
-- more; the least recently used goes where there are too many; want of memory leaves all. The history has the newest event first.
abbrev pub cached_after : ℕ → List Done → List Place
cached_after places [] = []
cached_after places (d ∷ history) = if is_changing d.event
    then with_reply places (key_of d.event) (standing d.answer) (cached_after places history) else cached_after places history

-- the reply by which a retransmission is answered
abbrev pub first_reply : ℕ → List Done → Event → Option (List ℕ)
first_reply places history event = if is_changing event then cached_reply (key_of event) (cached_after places history) else None
