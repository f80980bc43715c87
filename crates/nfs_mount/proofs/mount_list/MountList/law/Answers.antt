use Rattle.std.proofs.Common.{subst}
use Rattle.nfs_mount.specs.Mounts.{IsMountList}
use Rattle.nfs_mount.proofs.Pairs.{list_of}
use Rattle.nfs_mount.proofs.mount_list.MountList.law.Goals as goal

pub returns : goal.returns
returns c = subst IsMountList c.self.view_is (list_of c.self.inside.mounts.keys c.self.invariant c.len.ensures.unique)
