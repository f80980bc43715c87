-- The line that an auditor reads of a call that was denied.
use Rattle.std.specs.Prelude.{ℕ, List, ◌++◌, Some, None, codes, decimal}
use Rattle.nfs_exports.specs.Addresses.{addr_text}
use Rattle.nfs_exports.specs.declared.addr.Addr.{Addr}
use Rattle.nfs_rpc.specs.Calls.{Call}
use Rattle.nfs_rules.specs.Rules.{name_of, status_of}
use Rattle.nfs_rules.specs.declared.rule.Rule.{Rule as FileRule}
use Rattle.nfs_server.specs.RpcRules.{rpc_name, rpc_status}
use Rattle.nfs_server.specs.declared.audit_line.AuditLine.{AuditLine}
use Rattle.nfs_server.specs.declared.audit_line.DenialReason.{DenialReason}
use Rattle.nfs_server.specs.declared.audit_line.DenialReason.TheVariants.{Rpc, Rule, Memory}

-- the line of a call
abbrev pub line_of : Addr → Call → DenialReason → AuditLine
line_of addr call reason = record { addr = addr; xid = call.xid; program = call.prog; procedure = call.proc; reason = reason }

-- a rule of a procedure has its status as a number
abbrev pub rule_text : FileRule → List ℕ
rule_text rule = codes " rule=" ++ name_of rule ++ codes " status=" ++ decimal (status_of rule)

-- what is denied without a look at who calls has it by name
abbrev pub words_text : List ℕ → List ℕ → List ℕ
words_text rule status = codes " uid=- rule=" ++ rule ++ codes " status=" ++ status

abbrev pub reason_text : DenialReason → List ℕ
reason_text (Rpc rule) = words_text (rpc_name rule) (rpc_status rule)
reason_text (Rule rule (Some uid)) = codes " uid=" ++ decimal uid ++ rule_text rule
reason_text (Rule rule None) = codes " uid=-" ++ rule_text rule
reason_text Memory = words_text (codes "memory") (codes "system-err")

abbrev pub line_text : AuditLine → List ℕ
line_text a = codes "deny addr=" ++ addr_text a.addr ++ codes " xid=" ++ decimal a.xid ++ codes " prog=" ++ decimal a.program
    ++ codes " proc=" ++ decimal a.procedure ++ reason_text a.reason ++ codes "\n"
