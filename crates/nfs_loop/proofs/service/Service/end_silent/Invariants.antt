use Rattle.std.specs.Prelude.{◌≡◌, ◌/◌}
use Rattle.nfs_lines.specs.Written.{written}
use Rattle.nfs_loop.specs.Reports.{since, IsReportedFirst}
use Rattle.nfs_loop.specs.Stages.{looked_after, stage, Goes, WithoutTurns}
use Rattle.nfs_loop.specs.Watching.{AreWatched}
use Rattle.nfs_server.specs.Fits.{Held}
use Rattle.nfs_loop.proofs.Leaving.{AreGoneFrom, LeftIfSilent}
use Rattle.nfs_loop.proofs.service.Service.end_silent.Given as goal

abbrev pub invariant-loop-left : goal.invariant-loop-left
invariant-loop-left g l = record {
  goes : (server : Held) → Goes g.L.Link.outgoing g.L.Link.incoming (λ changes. WithoutTurns (g.N.Network.reported l.fn.net) changes (g.N.Network.reported l.net))
      (stage server l.fn.self.clients.0 l.fn.self.joined (written g.A.LineOut.taken g.C.LineOut.taken l.fn.lines))
      (stage server l.self.clients.0 l.self.joined (written g.A.LineOut.taken g.C.LineOut.taken l.lines));
  watches : l.self.housekeeping.watches ≡ l.fn.self.housekeeping.watches;
  silent : LeftIfSilent l.fn.self.housekeeping.watches l.fn.self.clients.1.0 l.since l.fn.self.clients.0 l.self.clients.0;
  gone : AreGoneFrom l.fn.self.housekeeping.watches l.fn.self.clients.1.0 l.since l.left l.self.clients.0;
  looked : l.self.housekeeping.looked ≡ looked_after l.fn.self.housekeeping.limits.idle (l.millis / 1000) l.fn.self.housekeeping.looked;
  watched : AreWatched l.self.clients.0 l.self.housekeeping.watches;
  queue : l.self.clients.1.0 ≡ l.fn.self.clients.1.0;
  limits : l.self.housekeeping.limits ≡ l.fn.self.housekeeping.limits;
  clock : IsReportedFirst (g.N.Network.reported l.fn.net) (since l.millis) (g.N.Network.reported l.net);
}

abbrev pub decreases-loop-left : goal.decreases-loop-left
decreases-loop-left g l = l.left
