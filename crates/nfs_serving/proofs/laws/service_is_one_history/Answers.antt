use Rattle.nfs_serving.proofs.Service.{service_is_one_history}
use Rattle.nfs_serving.proofs.laws.service_is_one_history.Goals as goal

pub returns : goal.returns
returns g c = service_is_one_history g.L.Link.outgoing g.L.Link.incoming
