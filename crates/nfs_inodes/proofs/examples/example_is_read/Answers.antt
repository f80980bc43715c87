use Rattle.nfs_inodes.proofs.Example.{reads_of_e}
use Rattle.nfs_inodes.proofs.examples.example_is_read.Goals as goal

pub returns : goal.returns
returns c = reads_of_e
