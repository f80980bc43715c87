use Rattle.nfs_inodes.proofs.Follows.{handles_are_for_good}
use Rattle.nfs_inodes.proofs.laws.handles_are_for_good.Goals as goal

pub returns : goal.returns
returns c = handles_are_for_good
