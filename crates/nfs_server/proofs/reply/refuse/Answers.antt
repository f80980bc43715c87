use Rattle.std.proofs.Common.{ap, sym, ◌∙◌}
use Rattle.nfs_server.specs.RpcRules.{rpc_reply}
use Rattle.nfs_server.proofs.Room.{after_is}
use Rattle.nfs_server.proofs.reply.refuse.Goals as goal

pub returns-in-Version-clause-reply : goal.returns-in-Version-clause-reply
returns-in-Version-clause-reply c = after_is c.args.out.now c.write_refused.new.out _ c.write_refused.ensures.bytes ∙ ap (λ rule. rpc_reply rule c.args.xid) (sym c.in-Version.is)

pub returns-in-Program-clause-reply : goal.returns-in-Program-clause-reply
returns-in-Program-clause-reply c = after_is c.args.out.now c.write_accepted.new.out _ c.write_accepted.ensures.bytes ∙ ap (λ rule. rpc_reply rule c.args.xid) (sym c.in-Program.is)

pub returns-in-ProgramVersion-clause-reply : goal.returns-in-ProgramVersion-clause-reply
returns-in-ProgramVersion-clause-reply c = after_is c.args.out.now c.write_accepted-in-ProgramVersion.new.out _ c.write_accepted-in-ProgramVersion.ensures.bytes ∙ ap (λ rule. rpc_reply rule c.args.xid) (sym c.in-ProgramVersion.is)

pub returns-in-Procedure-clause-reply : goal.returns-in-Procedure-clause-reply
returns-in-Procedure-clause-reply c = after_is c.args.out.now c.write_accepted-in-Procedure.new.out _ c.write_accepted-in-Procedure.ensures.bytes ∙ ap (λ rule. rpc_reply rule c.args.xid) (sym c.in-Procedure.is)

pub returns-in-Flavor-clause-reply : goal.returns-in-Flavor-clause-reply
returns-in-Flavor-clause-reply c = after_is c.args.out.now c.write_refused-in-Flavor.new.out _ c.write_refused-in-Flavor.ensures.bytes ∙ ap (λ rule. rpc_reply rule c.args.xid) (sym c.in-Flavor.is)

pub returns-in-Credential-clause-reply : goal.returns-in-Credential-clause-reply
returns-in-Credential-clause-reply c = after_is c.args.out.now c.write_refused-in-Credential.new.out _ c.write_refused-in-Credential.ensures.bytes ∙ ap (λ rule. rpc_reply rule c.args.xid) (sym c.in-Credential.is)

pub returns-in-WeakCredential-clause-reply : goal.returns-in-WeakCredential-clause-reply
returns-in-WeakCredential-clause-reply c = after_is c.args.out.now c.write_refused-in-WeakCredential.new.out _ c.write_refused-in-WeakCredential.ensures.bytes ∙ ap (λ rule. rpc_reply rule c.args.xid) (sym c.in-WeakCredential.is)

pub returns-in-Arguments-clause-reply : goal.returns-in-Arguments-clause-reply
returns-in-Arguments-clause-reply c = after_is c.args.out.now c.write_accepted-in-Arguments.new.out _ c.write_accepted-in-Arguments.ensures.bytes ∙ ap (λ rule. rpc_reply rule c.args.xid) (sym c.in-Arguments.is)
