use Rattle.nfs_policy.proofs.Rules.{verdicts_are_of_shape}
use Rattle.nfs_policy.proofs.laws.verdicts_are_of_shape.Goals as goal

pub returns : goal.returns
returns c = verdicts_are_of_shape
