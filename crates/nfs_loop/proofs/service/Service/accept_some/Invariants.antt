use Rattle.std.proofs.Common.{◌≡◌}
use Rattle.nfs_lines.specs.Written.{Written}
use Rattle.nfs_loop.specs.Reports.{ReportsMore}
use Rattle.nfs_loop.specs.Stages.{stage, Goes, WithoutTurns}
use Rattle.nfs_loop.specs.Watching.{AllBegin, AllStay, AreWatched}
use Rattle.nfs_server.specs.Fits.{Held}
use Rattle.nfs_loop.proofs.service.Service.accept_some.Given as goal

abbrev pub invariant-loop-left : goal.invariant-loop-left
invariant-loop-left g l = record {
  goes : (server : Held) → (lines : Written) → Goes g.L.Link.outgoing g.L.Link.incoming (λ changes. WithoutTurns (g.N.Network.reported l.fn.net) changes (g.N.Network.reported l.net))
      (stage server l.fn.self.clients.0 l.fn.self.joined lines) (stage server l.self.clients.0 l.self.joined lines);
  queue : l.self.clients.1.0 ≡ l.fn.self.clients.1.0;
  watched : AreWatched l.self.clients.0 l.self.housekeeping.watches;
  stay : AllStay l.fn.self.clients.0 l.fn.self.housekeeping.watches l.self.clients.0 l.self.housekeeping.watches;
  begin : AllBegin l.fn.self.clients.0 (g.N.Network.reported l.fn.net) (g.N.Network.reported l.net) l.self.clients.0 l.self.housekeeping.watches;
  more : ReportsMore (g.N.Network.reported l.fn.net) (g.N.Network.reported l.net);
  looked : l.self.housekeeping.looked ≡ l.fn.self.housekeeping.looked;
  limits : l.self.housekeeping.limits ≡ l.fn.self.housekeeping.limits;
}

abbrev pub decreases-loop-left : goal.decreases-loop-left
decreases-loop-left g l = l.left
