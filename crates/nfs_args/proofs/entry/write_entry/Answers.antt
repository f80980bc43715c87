use Rattle.nfs_args.proofs.Entries.{entry_parts, entry_written}
use Rattle.nfs_args.proofs.entry.write_entry.Goals as goal

pub returns-clause-text : goal.returns-clause-text
returns-clause-text c = entry_parts c.args.entry.now c.bytes-name.result.now _ _ _ _ _ _ c.bytes-name.ensures c.halves-fileid_high.ensures.text c.numbers.ensures.text c.fixed.ensures c.u64.ensures.text

pub returns-clause-encoded : goal.returns-clause-encoded
returns-clause-encoded c = entry_written c.args.entry.now c.requires.fits c.halves-fileid_high.ensures.encoded c.u64.ensures.encoded
