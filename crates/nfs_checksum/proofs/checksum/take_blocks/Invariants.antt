use Rattle.std.proofs.Common.{◌≡◌, take}
use Rattle.nfs_checksum.specs.Checksums.{after_blocks}
use Rattle.nfs_checksum.proofs.checksum.take_blocks.Given as goal

abbrev pub invariant-loop-block : goal.invariant-loop-block
invariant-loop-block l = l.crc ≡ after_blocks l.fn.crc (take l.block-index l.blocks)
