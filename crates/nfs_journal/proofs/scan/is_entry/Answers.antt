use Rattle.nfs_server.specs.InMemory.{event_of}
use Rattle.nfs_journal.proofs.scan.is_entry.Goals as goal

pub returns-in-Some-clause-entry : goal.returns-in-Some-clause-entry
returns-in-Some-clause-entry c = λ is. record { event = event_of c.in-Some.field-0.event; reply = c.in-Some.field-0.reply.now; words = c.in-Some.ensures.words; text_is = c.in-Some.ensures.found }
