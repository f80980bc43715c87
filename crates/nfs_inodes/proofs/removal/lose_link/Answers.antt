use Rattle.nfs_inodes.proofs.KeptRemovals.{loses}
use Rattle.nfs_inodes.proofs.removal.lose_link.Goals as goal

pub returns : goal.returns
returns c = loses c.args.files.now c.args.number.0 c.requires.0 c.in-Some.stored_file.now c.args.now c.requires.1 c.requires.2 c.in-Some.ensures.value
