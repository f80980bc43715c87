use Rattle.std.proofs.Common.{◌∙◌}
use Rattle.nfs_client.proofs.Ways.{way_more}
use Rattle.nfs_client.proofs.resolved_path.find_way.Goals as goal

pub loop-index-preserved : goal.loop-index-preserved
loop-index-preserved c = c.loop-index.invariant
    ∙ way_more c.args.tree.now.volumes c.loop-index.index _ _ _ _ c.args.path.now c.volumes-index-end.ensures c.loop-index-test.true c.way_in.ensures c.nearest-found.ensures
