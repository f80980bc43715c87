use Rattle.std.proofs.Common.{◌+◌, [], drop, sym, subst}
use Rattle.nfs_xdr.specs.Known.{Grows}
use Rattle.nfs_lines.specs.Queued.{Queued, put}
use Rattle.nfs_lines.proofs.Putting.{passed_on, to_end}
use Rattle.nfs_lines.proofs.line_queue.LineQueue.pass_on.Goals as goal

pub returns-in-Ok-clause-grows : goal.returns-in-Ok-clause-grows
returns-in-Ok-clause-grows g c =
    let all = c.self.inside.lines.items in
    let from = c.self.inside.sent in
    let was : Queued g.row.D.Denot = record { device = c.self.inside.device; pending = drop from all; failed = c.self.inside.ended } in
    let now : Queued g.row.D.Denot = record { device = c.send.new.self; pending = drop (from + c.in-Ok.n) all; failed = c.self.inside.ended } in
    subst (λ q. Grows (put g.D.LineOut.taken q) [] (put g.D.LineOut.taken c.tidy.new.self)) c.self.view_is
    (subst (λ q. Grows (put g.D.LineOut.taken was) [] (put g.D.LineOut.taken q)) (sym c.tidy.ensures)
    (passed_on (g.D.LineOut.taken c.self.inside.device) (g.D.LineOut.taken c.send.new.self) c.in-Ok.n from all _ (to_end from all c.deref.result.now c.deref.ensures.value) c.in-Ok.ensures.sent))
