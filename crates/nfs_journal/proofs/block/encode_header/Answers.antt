use Rattle.nfs_journal.proofs.Blocking.{checked_written}
use Rattle.nfs_journal.specs.Blocks.{fields_text}
use Rattle.nfs_journal.proofs.block.encode_header.Goals as goal

pub returns : goal.returns
returns c =
    checked_written (fields_text c.args.header) _ _ _ _ _ _ c.bytes-start.ensures c.bytes.ensures
    c.crc32c-checksum.ensures c.encode_fields.ensures.text c.u32.ensures.text
