use Rattle.nfs_conditions.proofs.Renames.{renames}
use Rattle.nfs_conditions.proofs.moves.may_rename.Goals as goal

pub returns-in-Some : goal.returns-in-Some
returns-in-Some c = renames c.args.tree.now c.args.from.0 c.args.to.0 c.in-Some.number.0 c.args.name.now c.args.new_name.now c.may_go.result c.law.ensures c.in-Some.ensures c.may_go.ensures
