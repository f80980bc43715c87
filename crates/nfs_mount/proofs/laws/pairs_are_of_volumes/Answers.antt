use Rattle.nfs_mount.proofs.Kept.{volumes_kept}
use Rattle.nfs_mount.proofs.laws.pairs_are_of_volumes.Goals as goal

pub returns : goal.returns
returns c = volumes_kept
