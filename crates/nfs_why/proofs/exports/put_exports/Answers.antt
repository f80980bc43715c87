use Rattle.nfs_why.proofs.Putting.{one_more, puts_none}
use Rattle.nfs_why.proofs.exports.put_exports.Goals as goal

pub loop-place-init : goal.loop-place-init
loop-place-init c = puts_none c.args.out.now

pub loop-place-preserved : goal.loop-place-preserved
loop-place-preserved c = one_more c.args.loaded.now.tree c.args.loaded.now.table c.loop-place.place c.args.out.now c.loop-place.out c.put_volume.new.out c.loop-place.invariant c.put_volume.ensures
