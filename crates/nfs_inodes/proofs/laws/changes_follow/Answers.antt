use Rattle.nfs_inodes.proofs.Follows.{changes_follow}
use Rattle.nfs_inodes.proofs.laws.changes_follow.Goals as goal

pub returns : goal.returns
returns c = changes_follow
