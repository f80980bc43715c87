use Rattle.nfs_server.proofs.Mounted.{arguments_read}
use Rattle.nfs_server.proofs.mount.read_mount_args.Goals as goal

pub returns : goal.returns
returns c = λ number is. arguments_read number c.args.procedure c.args.input c.read_mount.result is c.read_mount.ensures.exact
