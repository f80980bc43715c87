use Rattle.std.proofs.Common.{◌≡◌, ◌-◌, ◌≤◌, None, length, take}
use Rattle.nfs_journal.specs.Scanning.{Scans}
use Rattle.nfs_journal.proofs.scan.Scan.take.Given as goal

abbrev pub invariant-loop-used : goal.invariant-loop-used
invariant-loop-used l = record {
  within : l.used ≤ length l.chunk;
  unbroken : l.self.broken ≡ None;
  scans : Scans (take l.used l.chunk) l.fn.self l.self;
}

abbrev pub decreases-loop-used : goal.decreases-loop-used
decreases-loop-used l = length l.chunk - l.used
