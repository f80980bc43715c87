use Rattle.std.proofs.Common.{arith}
use Rattle.nfs_checksum.proofs.Checksums.{by_rows}
use Rattle.nfs_checksum.proofs.checksum.take_block.Goals as goal

pub returns : goal.returns
returns c = by_rows c.args.crc c.args.block.now c.told-block (omega (arith, c.ranges.crc)) _ _ _ _ _ _ _ _ _ c.to_le_bytes-before.ensures c.remainder_of.ensures c.remainder_of-2.ensures c.remainder_of-3.ensures c.remainder_of-4.ensures
    c.remainder_of-5.ensures c.remainder_of-6.ensures c.remainder_of-7.ensures c.remainder_of-8.ensures
