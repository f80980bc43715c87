use Rattle.nfs_args.specs.declared.entry_plus.EntryPlus.{EntryPlus}
use Rattle.nfs_args.specs.Pages.{IsEntryPlus, entry_plus_text, EntryPlusFits}
use Rattle.nfs_args.proofs.Chains.{item_fits, item_room, items_appended, items_each}
use Rattle.nfs_args.proofs.entry_plus.write_entries_plus.Goals as goal

pub write_entry_plus-requires-clause-fits : goal.write_entry_plus-requires-clause-fits
write_entry_plus-requires-clause-fits c = item_fits EntryPlusFits c.args.entries.now c.loop-entry.entry-index c.entry-item.result c.loop-entry-test.true c.entry-item.is c.requires.fits

pub write_entry_plus-requires-clause-room : goal.write_entry_plus-requires-clause-room
write_entry_plus-requires-clause-room c = item_room entry_plus_text c.args.entries.now c.loop-entry.entry-index c.entry-item.result c.args.out.now c.loop-entry.out c.loop-entry-test.true c.entry-item.is c.requires.room c.loop-entry.invariant.text

pub loop-entry-preserved : goal.loop-entry-preserved
loop-entry-preserved c = record {
  text = items_appended entry_plus_text c.args.entries.now c.loop-entry.entry-index c.entry-item.result c.args.out.now c.loop-entry.out c.write_entry_plus.new.out c.loop-entry-test.true c.entry-item.is c.loop-entry.invariant.text c.write_entry_plus.ensures.text;
  encoded = items_each (λ (e : EntryPlus). IsEntryPlus e (entry_plus_text e)) c.args.entries.now c.loop-entry.entry-index c.entry-item.result c.loop-entry-test.true c.entry-item.is c.loop-entry.invariant.encoded c.write_entry_plus.ensures.encoded;
}
