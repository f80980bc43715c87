use Rattle.nfs_journal.proofs.Answered.{noted_are_answered}
use Rattle.nfs_journal.proofs.Noted.{noted_is_history, noted_are_served, journal_is_of_noted}
use Rattle.nfs_journal.proofs.laws.noted_events_are_a_history.Goals as goal

pub returns-clause-history : goal.returns-clause-history
returns-clause-history c = noted_is_history

pub returns-clause-served : goal.returns-clause-served
returns-clause-served c = noted_are_served

pub returns-clause-journal : goal.returns-clause-journal
returns-clause-journal c = journal_is_of_noted

pub returns-clause-answered : goal.returns-clause-answered
returns-clause-answered c = noted_are_answered
