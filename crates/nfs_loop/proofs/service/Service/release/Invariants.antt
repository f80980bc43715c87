use Rattle.std.proofs.Common.{◌≡◌}
use Rattle.nfs_loop.specs.Watching.{AreWatched}
use Rattle.nfs_loop.proofs.Releasing.{Releasing}
use Rattle.nfs_loop.proofs.service.Service.release.Given as goal

abbrev pub invariant-loop-left : goal.invariant-loop-left
invariant-loop-left g l = record {
  members : l.self.clients.0 ≡ l.fn.self.clients.0;
  joined : l.self.joined ≡ l.fn.self.joined;
  watched : AreWatched l.self.clients.0 l.self.housekeeping.watches;
  releasing : Releasing l.fn.self.clients.0 l.is_full l.now l.fn.self.housekeeping.watches l.self.housekeeping.watches l.fn.self.clients.1.0 l.self.clients.1.0 l.left;
  looked : l.self.housekeeping.looked ≡ l.fn.self.housekeeping.looked;
  limits : l.self.housekeeping.limits ≡ l.fn.self.housekeeping.limits;
}

abbrev pub decreases-loop-left : goal.decreases-loop-left
decreases-loop-left g l = l.left
