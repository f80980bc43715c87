use Rattle.nfs_loop.specs.Attending.{MayReload}
use Rattle.nfs_control.proofs.socket.ControlSocket.attend.Given as goal

abbrev pub invariant-loop-visit : goal.invariant-loop-visit
invariant-loop-visit g l = MayReload l.fn.server l.server
