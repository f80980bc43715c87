use Rattle.nfs_lines.proofs.Putting.{put_in, puts_all}
use Rattle.nfs_lines.proofs.line_queue.LineQueue.report.Goals as goal

pub returns-in-Ok-clause-puts : goal.returns-in-Ok-clause-puts
returns-in-Ok-clause-puts g c = puts_all g.D.LineOut.taken c.args.as_it_is c.args.line.now _ c.args.self.now c.pass_on.new.self
    (λ plain. put_in g.D.LineOut.taken c.args.self.now c.put_line.new.self c.pass_on.new.self c.args.line.now (c.in-Ok.ensures.pending plain) c.in-Ok.ensures.device c.pass_on.ensures.grows)
