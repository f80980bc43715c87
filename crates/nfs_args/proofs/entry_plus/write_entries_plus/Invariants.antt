use Rattle.std.proofs.Common.{take}
use Rattle.nfs_xdr.specs.Written.{Appends}
use Rattle.nfs_args.specs.Chains.{AreEncoded, links_text}
use Rattle.nfs_args.specs.Pages.{IsEntryPlus, entry_plus_text}
use Rattle.nfs_args.proofs.entry_plus.write_entries_plus.Given as goal

abbrev pub invariant-loop-entry : goal.invariant-loop-entry
invariant-loop-entry l = record {
  text : Appends (links_text entry_plus_text (take l.entry-index l.entries)) l.fn.out l.out;
  encoded : AreEncoded IsEntryPlus entry_plus_text (take l.entry-index l.entries);
}
