use Rattle.std.proofs.Common.{sym, ◌∙◌}
use Rattle.nfs_inodes.proofs.Tests.{never}
use Rattle.nfs_conditions.proofs.Renames.{replaces_there, other_kind, none_replaced, same_truth, other_truth}
use Rattle.nfs_conditions.proofs.moves.may_replace.Goals as goal

pub returns-then-is_directory-lives_as_directory : goal.returns-then-is_directory-lives_as_directory
returns-then-is_directory-lives_as_directory c = never (other_kind c.args.tree.now c.args.old.0 c.in-Some.file c.in-Some.ensures c.args.number.0 (λ s. other_truth c.is_directory.result c.lives_as_directory.result c.if-is_directory-lives_as_directory.true (c.is_directory.ensures ∙ s ∙ sym c.lives_as_directory.ensures)) c.requires)

pub returns-else-is_directory-lives_as_directory : goal.returns-else-is_directory-lives_as_directory
returns-else-is_directory-lives_as_directory c = replaces_there c.args.tree.now c.args.old.0 c.in-Some.file c.in-Some.ensures c.args.number.0 c.is_empty.result (sym c.is_directory.ensures ∙ same_truth c.is_directory.result c.lives_as_directory.result c.if-is_directory-lives_as_directory.false ∙ c.lives_as_directory.ensures) c.is_empty.ensures c.requires

pub returns-in-None : goal.returns-in-None
returns-in-None c = never (none_replaced c.args.tree.now c.args.old.0 c.args.number.0 c.in-None.ensures c.requires)
