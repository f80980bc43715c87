use Rattle.nfs_mount.proofs.Kept.{are_mounted}
use Rattle.nfs_mount.proofs.laws.volumes_are_mounted.Goals as goal

pub returns : goal.returns
returns c = are_mounted
