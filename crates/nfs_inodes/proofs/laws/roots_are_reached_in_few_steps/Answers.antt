use Rattle.nfs_inodes.proofs.law.Ancestors.{reached_in_few}
use Rattle.nfs_inodes.proofs.laws.roots_are_reached_in_few_steps.Goals as goal

pub returns : goal.returns
returns c = reached_in_few
