use Rattle.std.proofs.Common.{◌≡◌, ◌≤◌, ◌-◌, length, take}
use Rattle.nfs_xdr.specs.Known.{Shrinks}
use Rattle.nfs_journal.proofs.next_block.fill.Given as goal

abbrev pub invariant-loop-len : goal.invariant-loop-len
invariant-loop-len g l = record {
  within : l.len ≤ length l.bytes;
  read : Shrinks (g.F.Read.remaining l.fn.file) (take l.len l.bytes) (g.F.Read.remaining l.file);
  len : length l.bytes ≡ length l.fn.bytes;
}

abbrev pub decreases-loop-len : goal.decreases-loop-len
decreases-loop-len g l = length l.bytes - l.len
