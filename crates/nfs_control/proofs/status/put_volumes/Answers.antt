use Rattle.nfs_control.proofs.Putting.{one_more, puts_none}
use Rattle.nfs_control.proofs.status.put_volumes.Goals as goal

pub loop-place-init : goal.loop-place-init
loop-place-init c = puts_none c.args.out.now

pub loop-place-preserved : goal.loop-place-preserved
loop-place-preserved c = one_more c.args.tree.now c.loop-place.place c.args.out.now c.loop-place.out c.put_volume_at.new.out c.loop-place.invariant c.put_volume_at.ensures
