use Rattle.std.proofs.Common.{◌≤◌, ◌-◌, length, take}
use Rattle.nfs_xdr.specs.Known.{Grows}
use Rattle.nfs_journal.proofs.file_journal.write_all.Given as goal

abbrev pub invariant-loop-at : goal.invariant-loop-at
invariant-loop-at g l = record {
  within : l.at ≤ length l.bytes;
  wrote : Grows (g.F.Write.contents l.fn.file) (take l.at l.bytes) (g.F.Write.contents l.file);
}

abbrev pub decreases-loop-at : goal.decreases-loop-at
decreases-loop-at g l = length l.bytes - l.at
