use Rattle.nfs_policy.proofs.Confined.{handles_name_for_good}
use Rattle.nfs_policy.proofs.laws.handles_name_for_good.Goals as goal

pub returns : goal.returns
returns c = handles_name_for_good
