use Rattle.std.proofs.Common.{◌<◌, length}
use Rattle.nfs_journal.proofs.NextBlocks.{PassesZeros}
use Rattle.nfs_journal.proofs.next_block.are_zeros_on.Given as goal

abbrev pub invariant-loop : goal.invariant-loop
invariant-loop g l = record {
  some : 0 < length l.chunk;
  passed : PassesZeros (g.F.Read.remaining l.fn.file) (g.F.Read.remaining l.file);
}
