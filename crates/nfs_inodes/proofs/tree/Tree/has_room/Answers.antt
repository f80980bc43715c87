use Rattle.std.proofs.Common.{ap, sym, ◌∙◌}
use Rattle.std.specs.Prelude.{slice_get}
use Rattle.nfs_inodes.proofs.Tests.{never, room_there, full, no_room}
use Rattle.nfs_inodes.proofs.tree.Tree.has_room.Goals as goal

pub returns-then-stored_volume : goal.returns-then-stored_volume
returns-then-stored_volume c = never (full c.self.inside.files c.self.inside.volumes.items c.args.self.now c.self.view_is c.self.invariant c.args.index c.args.size c.in-Some.stored_volume.now (ap (λ vs. slice_get vs c.args.index) (sym c.as_slice.ensures.value) ∙ sym c.in-Some.ensures) c.if-stored_volume.true)

pub returns-else-stored_volume : goal.returns-else-stored_volume
returns-else-stored_volume c = room_there c.self.inside.files c.self.inside.volumes.items c.args.self.now c.self.view_is c.self.invariant c.args.index c.args.size c.in-Some.stored_volume.now c.takes_size.result (ap (λ vs. slice_get vs c.args.index) (sym c.as_slice.ensures.value) ∙ sym c.in-Some.ensures) c.if-stored_volume.false c.takes_size.ensures

pub returns-in-None : goal.returns-in-None
returns-in-None c = never (no_room c.self.inside.files c.self.inside.volumes.items c.args.self.now c.self.view_is c.args.index c.args.size (ap (λ vs. slice_get vs c.args.index) (sym c.as_slice.ensures.value) ∙ sym c.in-None.ensures))
