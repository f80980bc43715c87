use Rattle.nfs_restarts.proofs.Across.{handles_of_others_are_stale}
use Rattle.nfs_restarts.proofs.laws.handles_of_others_are_stale.Goals as goal

pub returns : goal.returns
returns c = handles_of_others_are_stale
