use Rattle.nfs_handles.proofs.Lookups.{files_are}
use Rattle.nfs_handles.proofs.laws.files_are_reported.Goals as goal

pub returns : goal.returns
returns g c = files_are
