use Rattle.std.proofs.Common.{take}
use Rattle.nfs_journal.specs.NextBlock.{AreZeros}
use Rattle.nfs_journal.proofs.next_block.are_zeros.Given as goal

abbrev pub invariant-loop-byte : goal.invariant-loop-byte
invariant-loop-byte l = AreZeros (take l.byte-index l.bytes)
