use Rattle.std.proofs.Common.{◌≡◌}
use Rattle.nfs_lines.specs.Written.{PassedOn, written}
use Rattle.nfs_loop.proofs.service.Service.finish.Given as goal

abbrev pub invariant-loop-left : goal.invariant-loop-left
invariant-loop-left g l = record {
  reported : g.N.Network.reported l.net ≡ g.N.Network.reported l.fn.net;
  lines : PassedOn (written g.A.LineOut.taken g.C.LineOut.taken l.fn.lines) (written g.A.LineOut.taken g.C.LineOut.taken l.lines);
}

abbrev pub decreases-loop-left : goal.decreases-loop-left
decreases-loop-left g l = l.left
