use Rattle.nfs_checksum.proofs.Checksums.{in_blocks}
use Rattle.nfs_checksum.proofs.checksum.crc32c.Goals as goal

pub returns : goal.returns
returns c = in_blocks c.args.bytes.now _ _ _ _ c.take_blocks.ensures c.take_bytes.ensures c.as_chunks.ensures.front c.as_chunks.ensures.back
