use Rattle.nfs_handles.proofs.Runs.{numbers_are_for_good}
use Rattle.nfs_handles.proofs.laws.numbers_are_for_good.Goals as goal

pub returns : goal.returns
returns g c = numbers_are_for_good
