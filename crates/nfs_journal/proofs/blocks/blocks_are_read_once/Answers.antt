use Rattle.nfs_journal.proofs.BlocksRead.{part_is_none, read, there}
use Rattle.nfs_journal.proofs.blocks.blocks_are_read_once.Goals as goal

pub returns : goal.returns
returns c = record { read = read; part = part_is_none; there = there }
