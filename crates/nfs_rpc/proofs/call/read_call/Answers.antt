use Rattle.std.proofs.Common.{arith}
use Rattle.nfs_rpc.specs.declared.call.RpcFault.TheVariants.{Unreadable}
use Rattle.nfs_rpc.proofs.Calls.{head_read, head_unreadable, head_not_call}
use Rattle.nfs_rpc.proofs.call.read_call.Goals as goal

pub returns-clause-read : goal.returns-clause-read
returns-clause-read c = head_read c.args.message.now c.head_of.result (λ i. omega (arith, c.type_inv.message i)) c.head_of.ensures

pub returns-clause-not_call : goal.returns-clause-not_call
returns-clause-not_call c = head_not_call c.args.message.now c.head_of.result (λ i. omega (arith, c.type_inv.message i)) c.head_of.ensures

pub returns-clause-unreadable : goal.returns-clause-unreadable
returns-clause-unreadable c = head_unreadable c.args.message.now c.head_of.result Unreadable c.head_of.ensures
