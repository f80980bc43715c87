use Rattle.nfs_journal.proofs.Recovered.{front_is_earlier, recovery_is_exact}
use Rattle.nfs_journal.proofs.laws.recovery_is_exact.Goals as goal

pub returns-clause-whole : goal.returns-clause-whole
returns-clause-whole c = recovery_is_exact

pub returns-clause-front : goal.returns-clause-front
returns-clause-front c = front_is_earlier
