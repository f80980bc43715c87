use Rattle.std.proofs.Common.{subst, sym, ◌∙◌, true, OnErr}
use Rattle.nfs_server.specs.AuditLines.{line_text}
use Rattle.nfs_xdr.specs.Known.{GrowsByPart}
use Rattle.nfs_lines.specs.Queued.{put_plainly}
use Rattle.nfs_lines.proofs.denied_lines.DeniedLines.put.Goals as goal

pub returns-then-self-clause-part : goal.returns-then-self-clause-part
returns-then-self-clause-part g c =
    let old = c.args.self.now.queue in
    let new = c.put_plain.new.self.queue in
    let taken = g.A.LineOut.taken in
    let text = line_text c.args.denied.now in
    let line = c.as_slice.ensures.value ∙ c.put.ensures in
    let plain = sym c.if-self.true in
    let part = subst (λ x. OnErr c.put_plain.result (GrowsByPart (put_plainly taken true old) x (put_plainly taken true new))) line c.put_plain.ensures.part in
    let then = subst (λ b. OnErr c.put_plain.result (GrowsByPart (put_plainly taken true old) text (put_plainly taken b new))) (plain ∙ sym c.put_plain.ensures.plain) part in
    subst (λ b. OnErr c.put_plain.result (GrowsByPart (put_plainly taken b old) text (put_plainly taken c.put_plain.new.self.is_plain new))) plain then
