use Rattle.nfs_handles.proofs.Runs.{calls_go}
use Rattle.nfs_handles.proofs.laws.calls_are_changes.Goals as goal

pub returns : goal.returns
returns g c = calls_go
