use Rattle.nfs_journal.proofs.Blocking.{fields_written}
use Rattle.nfs_journal.specs.Blocks.{kind_number}
use Rattle.nfs_journal.proofs.block.encode_fields.Goals as goal

pub returns-clause-text : goal.returns-clause-text
returns-clause-text c =
    fields_written _ (kind_number c.args.header.kind) c.args.header.number c.args.header.len _ _ _ _ c.number.ensures c.u32.ensures.text c.u64.ensures.text c.u32-2.ensures.text
