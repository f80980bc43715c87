use Rattle.std.proofs.Common.{ap}
use Rattle.nfs_server.specs.InMemory.{answer_of}
use Rattle.nfs_replay.specs.Printed.{next_names}
use Rattle.nfs_replay.specs.declared.shown.Shown.{Shown}
use Rattle.nfs_replay.proofs.Outcomes.{printed, printed_in_part}
use Rattle.nfs_replay.proofs.printing.Replies.print.Goals as goal

pub returns-in_err-audit-clause-prints : goal.returns-in_err-audit-clause-prints
returns-in_err-audit-clause-prints g c =
    printed_in_part (g.W.ByteOut.contents c.args.self.now.out.now) (g.W.ByteOut.contents c.args.self.now.out.now) (g.W.ByteOut.contents c.audit.new.self.out.now)
    c.args.self.now.shown.is_decoded c.args.self.now.shown.is_decoded
    (next_names c.args.self.now.calls.now) c.next_of.result.1.now (answer_of c.args.outcome.now) c.from_residual.result c.next_of.ensures c.from_residual.ensures.0 c.in_err-audit.ensures.prints

pub returns-clause-prints : goal.returns-clause-prints
returns-clause-prints g c =
    printed (g.W.ByteOut.contents c.args.self.now.out.now) (g.W.ByteOut.contents c.audit.new.self.out.now) (g.W.ByteOut.contents c.reply.new.self.out.now)
    c.args.self.now.shown.is_decoded c.audit.new.self.shown.is_decoded
    (next_names c.args.self.now.calls.now) c.next_of.result.1.now (answer_of c.args.outcome.now) c.reply.result c.next_of.ensures
    (ap (λ (s : Shown). s.is_decoded) c.audit.ensures.shown) c.in_ok-audit.ensures.prints c.reply.ensures.prints
