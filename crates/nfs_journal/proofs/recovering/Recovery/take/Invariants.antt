use Rattle.std.proofs.Common.{◌≡◌, ◌-◌, ◌≤◌, None, length, take}
use Rattle.nfs_journal.specs.Recovering.{Advances}
use Rattle.nfs_journal.proofs.recovering.Recovery.take.Given as goal

abbrev pub invariant-loop-used : goal.invariant-loop-used
invariant-loop-used l = record {
  within : l.used ≤ length l.chunk;
  unbroken : l.self.broken ≡ None;
  advances : Advances (take l.used l.chunk) l.fn.self l.self l.fn.server l.server;
}

abbrev pub decreases-loop-used : goal.decreases-loop-used
decreases-loop-used l = length l.chunk - l.used
