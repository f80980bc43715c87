use Rattle.nfs_policy.proofs.Confined.{runs_are_confined}
use Rattle.nfs_policy.proofs.laws.runs_are_confined.Goals as goal

pub returns : goal.returns
returns c = runs_are_confined
