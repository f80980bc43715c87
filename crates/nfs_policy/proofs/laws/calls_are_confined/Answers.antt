use Rattle.nfs_policy.proofs.Calls.{calls_are_confined}
use Rattle.nfs_policy.proofs.laws.calls_are_confined.Goals as goal

pub returns : goal.returns
returns c = calls_are_confined
