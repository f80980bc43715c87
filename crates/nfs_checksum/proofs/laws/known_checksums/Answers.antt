use Rattle.nfs_checksum.proofs.Checksums.{knows_examples}
use Rattle.nfs_checksum.proofs.laws.known_checksums.Goals as goal

pub returns : goal.returns
returns c = knows_examples
