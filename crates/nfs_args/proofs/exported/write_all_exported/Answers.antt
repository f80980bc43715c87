use Rattle.nfs_args.specs.declared.exported.Exported.{Exported}
use Rattle.nfs_args.specs.MountAnswers.{IsExported, exported_text, ExportedFits}
use Rattle.nfs_args.proofs.Chains.{item_fits, item_room, items_appended, items_each}
use Rattle.nfs_args.proofs.exported.write_all_exported.Goals as goal

pub write_exported-requires-clause-fits : goal.write_exported-requires-clause-fits
write_exported-requires-clause-fits c = item_fits ExportedFits c.args.volumes.now c.loop-exported.exported-index c.exported-item.result c.loop-exported-test.true c.exported-item.is c.requires.fits

pub write_exported-requires-clause-room : goal.write_exported-requires-clause-room
write_exported-requires-clause-room c = item_room exported_text c.args.volumes.now c.loop-exported.exported-index c.exported-item.result c.args.out.now c.loop-exported.out c.loop-exported-test.true c.exported-item.is c.requires.room c.loop-exported.invariant.text

pub loop-exported-preserved : goal.loop-exported-preserved
loop-exported-preserved c = record {
  text = items_appended exported_text c.args.volumes.now c.loop-exported.exported-index c.exported-item.result c.args.out.now c.loop-exported.out c.write_exported.new.out c.loop-exported-test.true c.exported-item.is c.loop-exported.invariant.text c.write_exported.ensures.text;
  encoded = items_each (λ (e : Exported). IsExported e (exported_text e)) c.args.volumes.now c.loop-exported.exported-index c.exported-item.result c.loop-exported-test.true c.exported-item.is c.loop-exported.invariant.encoded c.write_exported.ensures.encoded;
}
