use Rattle.nfs_restarts.proofs.Across.{handles_live_on}
use Rattle.nfs_restarts.proofs.laws.handles_live_on.Goals as goal

pub returns : goal.returns
returns c = handles_live_on
