use Rattle.std.proofs.Common.{refl, inl}
use Rattle.nfs_control.proofs.Together.{reload_then}
use Rattle.nfs_control.proofs.socket.ControlSocket.attend.Goals as goal

pub loop-visit-init : goal.loop-visit-init
loop-visit-init g c = inl refl

pub loop-visit-preserved : goal.loop-visit-preserved
loop-visit-preserved g c = reload_then c.args.server.now c.loop-visit.server c.attend_visit-stops.new.server c.loop-visit.invariant c.attend_visit-stops.ensures
