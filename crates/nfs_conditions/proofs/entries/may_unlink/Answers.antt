use Rattle.nfs_conditions.proofs.Names.{unlinks}
use Rattle.nfs_conditions.proofs.entries.may_unlink.Goals as goal

pub returns-in-Some : goal.returns-in-Some
returns-in-Some c = unlinks c.args.tree.now c.args.dir.0 c.in-Some.number.0 c.args.name.now c.is_empty.result c.law.ensures c.in-Some.ensures c.is_empty.ensures
