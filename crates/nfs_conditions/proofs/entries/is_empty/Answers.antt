use Rattle.nfs_inodes.specs.Views.{entry_seen}
use Rattle.nfs_conditions.proofs.Names.{empty_reports}
use Rattle.nfs_conditions.proofs.entries.is_empty.Goals as goal

pub returns : goal.returns
returns c = empty_reports entry_seen c.args.tree.now c.law.ensures c.args.number.0 c.entry_after.result c.is_none.result c.entry_after.ensures c.is_none.ensures
