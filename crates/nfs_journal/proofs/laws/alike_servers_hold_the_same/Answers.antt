use Rattle.nfs_journal.proofs.Alike.{alike_hold_the_same}
use Rattle.nfs_journal.proofs.laws.alike_servers_hold_the_same.Goals as goal

pub returns : goal.returns
returns c = alike_hold_the_same
