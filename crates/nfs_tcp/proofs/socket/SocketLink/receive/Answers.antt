use Rattle.nfs_tcp.proofs.Coming.{receives_unknown}
use Rattle.nfs_tcp.proofs.socket.SocketLink.receive.Goals as goal

pub returns-in-Ok-clause-came : goal.returns-in-Ok-clause-came
returns-in-Ok-clause-came c = receives_unknown _ c.in-Ok.came c.in-Ok.ensures.fits
