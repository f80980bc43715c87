use Rattle.nfs_lines.proofs.Putting.{put_in, whole_part, on_ok, on_err}
use Rattle.nfs_lines.proofs.denied_lines.DeniedLines.put_plain.Goals as goal

pub returns-in-Ok-clause-part : goal.returns-in-Ok-clause-part
returns-in-Ok-clause-part g c = on_err c.pass_on_denied.result
    (whole_part _ _ _ (put_in g.A.LineOut.taken c.args.self.now.queue c.put.new.self c.pass_on_denied.new.self.queue c.args.line.now c.in-Ok.ensures.pending c.in-Ok.ensures.device c.pass_on_denied.ensures.put))

pub returns-in-Ok-clause-ok : goal.returns-in-Ok-clause-ok
returns-in-Ok-clause-ok g c = on_ok c.pass_on_denied.result
    (put_in g.A.LineOut.taken c.args.self.now.queue c.put.new.self c.pass_on_denied.new.self.queue c.args.line.now c.in-Ok.ensures.pending c.in-Ok.ensures.device c.pass_on_denied.ensures.put)
