use Rattle.std.proofs.Common.{◌≡◌, take}
use Rattle.nfs_checksum.specs.Checksums.{after_bytes}
use Rattle.nfs_checksum.proofs.checksum.take_bytes.Given as goal

abbrev pub invariant-loop-byte : goal.invariant-loop-byte
invariant-loop-byte l = l.crc ≡ after_bytes l.fn.crc (take l.byte-index l.bytes)
