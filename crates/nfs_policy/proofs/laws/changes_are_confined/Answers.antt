use Rattle.nfs_policy.proofs.Policies.{changes_are_confined}
use Rattle.nfs_policy.proofs.laws.changes_are_confined.Goals as goal

pub returns : goal.returns
returns c = changes_are_confined
