use Rattle.std.proofs.Common.{ap, ◌∙◌}
use Rattle.nfs_mount.specs.Mounts.{without_mount}
use Rattle.nfs_mount.proofs.Pairs.{removed}
use Rattle.nfs_mount.proofs.mount_list.MountList.remove.Goals as goal

pub returns : goal.returns
returns c = c.shift_remove.ensures.keys ∙ removed c.args.mount c.self.inside.mounts.keys c.len.ensures.unique ∙ ap (without_mount c.args.mount) c.self.view_is
