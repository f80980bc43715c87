use Rattle.nfs_handles.proofs.Handles.{handles_name_one}
use Rattle.nfs_handles.proofs.laws.handles_name_one_file.Goals as goal

pub returns : goal.returns
returns g c = handles_name_one
