use Rattle.nfs_journal.proofs.Heading.{heads_once}
use Rattle.nfs_journal.proofs.laws.heads_are_read_once.Goals as goal

pub returns : goal.returns
returns c = heads_once
