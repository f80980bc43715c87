use Rattle.nfs_inodes.proofs.Tests.{never}
use Rattle.nfs_conditions.proofs.Files.{none_lives}
use Rattle.nfs_conditions.proofs.Renames.{near_there}
use Rattle.nfs_conditions.proofs.moves.is_near.Goals as goal

pub returns-in-Some : goal.returns-in-Some
returns-in-Some c = near_there c.args.tree.now c.args.number.0 c.in-Some.file c.in-Some.ensures c.args.dir.0 c.is_directory_in.result c.is_directory_in.ensures

pub returns-in-None : goal.returns-in-None
returns-in-None c = never (λ near. none_lives c.args.tree.now c.args.number.0 c.in-None.ensures near.file near.at_file)
