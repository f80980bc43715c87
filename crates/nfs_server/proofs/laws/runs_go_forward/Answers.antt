use Rattle.nfs_server.proofs.Forward.{runs_forward}
use Rattle.nfs_server.proofs.laws.runs_go_forward.Goals as goal

pub returns : goal.returns
returns c = runs_forward
