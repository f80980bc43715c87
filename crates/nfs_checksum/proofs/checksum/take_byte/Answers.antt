use Rattle.nfs_checksum.proofs.Checksums.{byte_by_byte}
use Rattle.nfs_checksum.proofs.checksum.take_byte.Goals as goal

pub returns : goal.returns
returns c = byte_by_byte c.args.crc c.args.byte _ c.remainder_of.ensures
