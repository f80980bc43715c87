use Rattle.std.proofs.Common.{arith}
use Rattle.nfs_checksum.specs.Checksums.{after_bit, after_eight, after_eights}
use Rattle.nfs_checksum.proofs.Checksums.{of_rows}
use Rattle.nfs_checksum.proofs.checksum.remainder_of.Goals as goal

pub returns : goal.returns
unfolding after_bit after_eight after_eights
returns c = of_rows c.args.zeros c.args.byte _ c.requires (omega (arith, c.ranges.byte))
