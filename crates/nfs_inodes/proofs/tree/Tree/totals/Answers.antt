use Rattle.std.proofs.Common.{ap, sym, ◌∙◌}
use Rattle.std.specs.Prelude.{slice_get}
use Rattle.nfs_inodes.proofs.Readers.{totals_there, totals_none}
use Rattle.nfs_inodes.proofs.tree.Tree.totals.Goals as goal

pub returns-in-Some : goal.returns-in-Some
returns-in-Some c = totals_there c.self.inside.files c.self.inside.volumes.items c.args.self.now c.self.view_is c.self.invariant c.args.index c.in-Some.stored_volume.now (ap (λ vs. slice_get vs c.args.index) (sym c.as_slice.ensures.value) ∙ sym c.in-Some.ensures)

pub returns-in-None : goal.returns-in-None
returns-in-None c = totals_none c.self.inside.files c.self.inside.volumes.items c.args.self.now c.self.view_is c.args.index (ap (λ vs. slice_get vs c.args.index) (sym c.as_slice.ensures.value) ∙ sym c.in-None.ensures)
