use Rattle.nfs_policy.proofs.Runs.{reading_is_confined}
use Rattle.nfs_policy.proofs.laws.reading_is_confined.Goals as goal

pub returns : goal.returns
returns c = reading_is_confined
