use Rattle.nfs_rpc.specs.Calls.{call_of}
use Rattle.nfs_server.specs.RpcRules.{caller_rules}
use Rattle.nfs_server.specs.declared.rpc_rules.RpcRule.TheVariants.{Arguments}
use Rattle.nfs_server.specs.InMemory.{event_of}
use Rattle.std.proofs.Common.{[], ◌∷◌}
use Rattle.nfs_server.specs.Noted.{is_noted_judged}
use Rattle.nfs_server.proofs.ByRules.{by_failure}
use Rattle.nfs_server.proofs.Judged.{denied_by}
use Rattle.nfs_server.proofs.server.Server.answer_nfs.Goals as goal

pub returns-in-Err-clause-judged : goal.returns-in-Err-clause-judged
returns-in-Err-clause-judged c = denied_by c.args.self.now (event_of c.args.event) (call_of c.args.head.now) c.args.head.now.args caller_rules (Arguments ∷ []) c.in-Err.rule _ _ c.in-Err.ensures c.deny.ensures.reply c.deny.ensures.line

pub returns-in-Err-clause-noted : goal.returns-in-Err-clause-noted
returns-in-Err-clause-noted c = by_failure is_noted_judged (event_of c.args.event) (call_of c.args.head.now) c.args.head.now.args caller_rules (Arguments ∷ []) c.in-Err.rule c.in-Err.ensures
