use Rattle.std.proofs.Common.{sym, subst, ◌∙◌}
use Rattle.std.specs.Bool.{Decides}
use Rattle.nfs_conditions.specs.Parts.{IsDirectoryIn}
use Rattle.nfs_inodes.proofs.Tests.{never}
use Rattle.nfs_conditions.proofs.Files.{none_lives}
use Rattle.nfs_conditions.proofs.Renames.{directory_there, no_directory_there}
use Rattle.nfs_conditions.proofs.moves.is_directory_in.Goals as goal

pub returns-then-is_directory : goal.returns-then-is_directory
returns-then-is_directory c = directory_there c.args.tree.now c.args.number.0 c.in-Some.file c.in-Some.ensures c.args.fsid (sym c.is_directory.ensures ∙ c.if-is_directory.true)

pub returns-else-is_directory : goal.returns-else-is_directory
returns-else-is_directory c = subst (λ b. Decides b (IsDirectoryIn c.args.tree.now c.args.number.0 c.args.fsid)) (sym c.if-is_directory.false)
    (never (no_directory_there c.args.tree.now c.args.number.0 c.in-Some.file c.in-Some.ensures c.args.fsid (sym c.is_directory.ensures ∙ c.if-is_directory.false)))

pub returns-in-None : goal.returns-in-None
returns-in-None c = never (λ there. none_lives c.args.tree.now c.args.number.0 c.in-None.ensures there.dir there.at_dir.0)
