use Rattle.nfs_policy.proofs.Confined.{change_is_confined}
use Rattle.nfs_policy.proofs.laws.change_is_confined.Goals as goal

pub returns : goal.returns
returns c = change_is_confined
