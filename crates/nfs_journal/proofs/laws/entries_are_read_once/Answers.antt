use Rattle.nfs_journal.proofs.Decoding.{entries_once}
use Rattle.nfs_journal.proofs.laws.entries_are_read_once.Goals as goal

pub returns : goal.returns
returns c = entries_once
