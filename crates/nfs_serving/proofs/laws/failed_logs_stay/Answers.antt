use Rattle.nfs_serving.proofs.Failed.{failed_logs_stay}
use Rattle.nfs_serving.proofs.laws.failed_logs_stay.Goals as goal

pub returns : goal.returns
returns g c = failed_logs_stay g.L.Link.outgoing g.L.Link.incoming
