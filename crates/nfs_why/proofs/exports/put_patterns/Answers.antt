use Rattle.std.proofs.Common.{arith}
use Rattle.std.proofs.lemmas.List.{drop_all, drop_more}
use Rattle.nfs_why.specs.Exports.{export_line}
use Rattle.nfs_why.proofs.Putting.{all_put, next_put}
use Rattle.nfs_why.proofs.exports.put_patterns.Goals as goal

pub loop-export-preserved : goal.loop-export-preserved
loop-export-preserved c =
    next_put (export_line c.args.path.now) c.args.exports.now _ _ _ c.args.out.now c.loop-export.out c.put_export.new.out c.loop-export.invariant
    (drop_more c.args.exports.now c.loop-export.export-index _ c.loop-export-test.true) c.put_export.ensures

pub returns : goal.returns
returns c = all_put (export_line c.args.path.now) c.args.exports.now _ c.args.out.now c.loop-export.out c.loop-export.invariant
    (drop_all c.loop-export.export-index c.args.exports.now (omega (arith, c.loop-export-test.false)))
