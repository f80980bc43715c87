use Rattle.nfs_handles.proofs.Runs.{runs_keep}
use Rattle.nfs_handles.proofs.laws.runs_keep.Goals as goal

pub returns : goal.returns
returns g c = runs_keep
