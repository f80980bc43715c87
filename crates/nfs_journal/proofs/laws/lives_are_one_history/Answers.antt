use Rattle.nfs_journal.proofs.Lives.{lives_are_one_history, next_holds_earlier, next_holds_the_same}
use Rattle.nfs_journal.proofs.laws.lives_are_one_history.Goals as goal

pub returns-clause-history : goal.returns-clause-history
returns-clause-history c = lives_are_one_history

pub returns-clause-next : goal.returns-clause-next
returns-clause-next c = next_holds_the_same

pub returns-clause-earlier : goal.returns-clause-earlier
returns-clause-earlier c = next_holds_earlier
