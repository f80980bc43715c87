use Rattle.nfs_args.specs.declared.mounted.Mounted.{Mounted}
use Rattle.nfs_args.specs.MountAnswers.{IsMounted, mounted_text, MountedFits}
use Rattle.nfs_args.proofs.Chains.{item_fits, item_room, items_appended, items_each}
use Rattle.nfs_args.proofs.mounted.write_all_mounted.Goals as goal

pub write_mounted-requires-clause-fits : goal.write_mounted-requires-clause-fits
write_mounted-requires-clause-fits c = item_fits MountedFits c.args.clients.now c.loop-mounted.mounted-index c.mounted-item.result c.loop-mounted-test.true c.mounted-item.is c.requires.fits

pub write_mounted-requires-clause-room : goal.write_mounted-requires-clause-room
write_mounted-requires-clause-room c = item_room mounted_text c.args.clients.now c.loop-mounted.mounted-index c.mounted-item.result c.args.out.now c.loop-mounted.out c.loop-mounted-test.true c.mounted-item.is c.requires.room c.loop-mounted.invariant.text

pub loop-mounted-preserved : goal.loop-mounted-preserved
loop-mounted-preserved c = record {
  text = items_appended mounted_text c.args.clients.now c.loop-mounted.mounted-index c.mounted-item.result c.args.out.now c.loop-mounted.out c.write_mounted.new.out c.loop-mounted-test.true c.mounted-item.is c.loop-mounted.invariant.text c.write_mounted.ensures.text;
  encoded = items_each (λ (e : Mounted). IsMounted e (mounted_text e)) c.args.clients.now c.loop-mounted.mounted-index c.mounted-item.result c.loop-mounted-test.true c.mounted-item.is c.loop-mounted.invariant.encoded c.write_mounted.ensures.encoded;
}
