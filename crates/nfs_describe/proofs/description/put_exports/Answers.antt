use Rattle.nfs_describe.proofs.Exports.{export_more}
use Rattle.nfs_describe.proofs.description.put_exports.Goals as goal

pub loop-export-preserved : goal.loop-export-preserved
loop-export-preserved g c = λ before has.
    let so = c.loop-export.invariant before has in
    (_, c.in_ok-put_export.ensures so.0 so.1, export_more c.args.exports.now c.loop-export.export-index _ so.0 _ c.loop-export-test.true so.2)
