use Rattle.nfs_inodes.proofs.KeptRemovals.{goes}
use Rattle.nfs_inodes.proofs.removal.free.Goals as goal

pub returns : goal.returns
returns c = goes c.args.files.now c.take.new.self c.args.number.0 c.in-Some.stored_file c.size.result c.requires c.in-Some.ensures c.size.ensures
