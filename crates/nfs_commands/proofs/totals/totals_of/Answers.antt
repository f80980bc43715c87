use Rattle.nfs_commands.proofs.Totalling.{one_more}
use Rattle.nfs_commands.proofs.totals.totals_of.Goals as goal

pub loop-index-preserved : goal.loop-index-preserved
loop-index-preserved c = one_more c.args.tree.now c.loop-index.index c.loop-index.all c.with_volume-all.result c.loop-index.invariant c.with_volume-all.ensures.bytes c.with_volume-all.ensures.files
