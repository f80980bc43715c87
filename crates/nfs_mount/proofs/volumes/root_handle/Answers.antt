use Rattle.std.proofs.Common.{sym, ap, ◌∙◌}
use Rattle.std.specs.Prelude.{option_map}
use Rattle.nfs_inodes.specs.Views.{volume_seen}
use Rattle.nfs_mount.proofs.Places.{root_lives}
use Rattle.nfs_mount.proofs.volumes.root_handle.Goals as goal

pub unreachable-requires-in-None-view : goal.unreachable-requires-in-None-view
unreachable-requires-in-None-view c = root_lives c.args.tree.now c.args.volume (volume_seen c.in-Some.volume) c.law.ensures (sym c.volume.ensures ∙ ap (option_map volume_seen) c.in-Some.is) c.in-None-view.ensures.none
