use Rattle.std.proofs.Common.{sym, subst}
use Rattle.std.specs.Bool.{Decides}
use Rattle.std.specs.Prelude.{nat_lt}
use Rattle.nfs_inodes.specs.declared.limits.Limits.{Limits}
use Rattle.nfs_conditions.specs.Parts.{MayHaveLink}
use Rattle.nfs_conditions.proofs.Files.{always}
use Rattle.nfs_conditions.proofs.Renames.{link_there, none_linked}
use Rattle.nfs_conditions.proofs.moves.may_have_link.Goals as goal

pub returns-in-Some : goal.returns-in-Some
returns-in-Some c = subst (λ (l : Limits). Decides (nat_lt c.in-Some.file.nlink l.links) (MayHaveLink c.args.tree.now c.args.dir.0)) (sym c.limits.ensures)
    (link_there c.args.tree.now c.args.dir.0 c.in-Some.file c.in-Some.ensures)

pub returns-in-None : goal.returns-in-None
returns-in-None c = always (none_linked c.args.tree.now c.args.dir.0 c.in-None.ensures)
