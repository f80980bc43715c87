use Rattle.std.proofs.Common.{◌∙◌}
use Rattle.nfs_conditions.proofs.Files.{directory_at, no_directory}
use Rattle.nfs_conditions.proofs.moves.lives_as_directory.Goals as goal

pub returns-in-Some : goal.returns-in-Some
returns-in-Some c = c.is_directory.ensures ∙ directory_at c.args.tree.now c.args.number.0 c.in-Some.file c.in-Some.ensures

pub returns-in-None : goal.returns-in-None
returns-in-None c = no_directory c.args.tree.now c.args.number.0 c.in-None.ensures
