use Rattle.nfs_args.specs.declared.entry.Entry.{Entry}
use Rattle.nfs_args.specs.Pages.{IsEntry, entry_text, EntryFits}
use Rattle.nfs_args.proofs.Chains.{item_fits, item_room, items_appended, items_each}
use Rattle.nfs_args.proofs.entry.write_entries.Goals as goal

pub write_entry-requires-clause-fits : goal.write_entry-requires-clause-fits
write_entry-requires-clause-fits c = item_fits EntryFits c.args.entries.now c.loop-entry.entry-index c.entry-item.result c.loop-entry-test.true c.entry-item.is c.requires.fits

pub write_entry-requires-clause-room : goal.write_entry-requires-clause-room
write_entry-requires-clause-room c = item_room entry_text c.args.entries.now c.loop-entry.entry-index c.entry-item.result c.args.out.now c.loop-entry.out c.loop-entry-test.true c.entry-item.is c.requires.room c.loop-entry.invariant.text

pub loop-entry-preserved : goal.loop-entry-preserved
loop-entry-preserved c = record {
  text = items_appended entry_text c.args.entries.now c.loop-entry.entry-index c.entry-item.result c.args.out.now c.loop-entry.out c.write_entry.new.out c.loop-entry-test.true c.entry-item.is c.loop-entry.invariant.text c.write_entry.ensures.text;
  encoded = items_each (λ (e : Entry). IsEntry e (entry_text e)) c.args.entries.now c.loop-entry.entry-index c.entry-item.result c.loop-entry-test.true c.entry-item.is c.loop-entry.invariant.encoded c.write_entry.ensures.encoded;
}
