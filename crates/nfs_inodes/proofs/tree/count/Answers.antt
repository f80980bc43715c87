use Rattle.std.proofs.Common.{length, refl}
use Rattle.std.proofs.lemmas.Option.{slice_get_read}
use Rattle.nfs_inodes.proofs.Views.{set_totals}
use Rattle.nfs_inodes.proofs.tree.count.Goals as goal

pub returns : goal.returns
returns c = set_totals c.args.volumes.now.items c.args.index c.args.bytes c.args.files c.in-Some.stored_volume.now (slice_get_read c.args.volumes.now.items (length c.args.volumes.now.items) c.args.index c.in-Some.stored_volume.now refl c.in-Some.ensures.item.3.0 c.in-Some.ensures.value)
