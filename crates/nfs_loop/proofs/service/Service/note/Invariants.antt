use Rattle.std.proofs.Common.{◌≡◌, ℕ}
use Rattle.nfs_loop.specs.Stages.{Notes}
use Rattle.nfs_loop.specs.Watching.{AreWatched, heard_at, hold_at}
use Rattle.nfs_loop.proofs.Asking.{AsksSome}
use Rattle.nfs_loop.proofs.service.Service.note.Given as goal

abbrev pub invariant-loop-left : goal.invariant-loop-left
invariant-loop-left g l = record {
  members : l.self.clients.0 ≡ l.fn.self.clients.0;
  joined : l.self.joined ≡ l.fn.self.joined;
  holds : (k : ℕ) → hold_at l.self.housekeeping.watches k ≡ hold_at l.fn.self.housekeeping.watches k;
  heard : (k : ℕ) → heard_at l.self.housekeeping.watches k ≡ heard_at l.fn.self.housekeeping.watches k;
  watched : AreWatched l.self.clients.0 l.self.housekeeping.watches;
  notes : Notes l.fn.self.clients.0 l.fn.self.housekeeping.watches l.fn.self.clients.1.0 l.self.clients.1.0 (g.N.Network.reported l.fn.net) (g.N.Network.reported l.net);
  asked : AsksSome 1024 l.left (g.N.Network.reported l.fn.net) (g.N.Network.reported l.net);
  looked : l.self.housekeeping.looked ≡ l.fn.self.housekeeping.looked;
  limits : l.self.housekeeping.limits ≡ l.fn.self.housekeeping.limits;
}

abbrev pub decreases-loop-left : goal.decreases-loop-left
decreases-loop-left g l = l.left
