use Rattle.nfs_server.specs.InMemory.{event_of}
use Rattle.nfs_journal.proofs.Rerunning.{both_ok, fails, fails_silent, of_fault, reruns}
use Rattle.nfs_journal.proofs.recovery.rerun_entry.Goals as goal

pub returns-in-Answered-clause-reruns : goal.returns-in-Answered-clause-reruns
returns-in-Answered-clause-reruns c = both_ok _ _ _ c.check.result c.check.ensures.same c.check.ensures.served
    (λ same served. reruns (event_of c.in-Some.entry.event) c.in-Some.entry.reply.now c.handle.new.reply.reply c.args.bytes.now c.handle.new.self.line c.args.server.now c.handle.new.self c.in-Answered.ensures.step same c.in-Some.ensures.found c.in-Some.ensures.words served)

pub returns-in-Answered-clause-fails : goal.returns-in-Answered-clause-fails
returns-in-Answered-clause-fails c = of_fault _ _ c.check.result c.check.ensures.fails
    (λ fault. fails (event_of c.in-Some.entry.event) c.in-Some.entry.reply.now c.handle.new.reply.reply c.args.bytes.now c.handle.new.self.line c.args.server.now c.handle.new.self c.in-Some.ensures.found fault c.in-Answered.ensures.step)

pub returns-in-NoReply-clause-fails : goal.returns-in-NoReply-clause-fails
returns-in-NoReply-clause-fails c =
    fails_silent (event_of c.in-Some.entry.event) c.in-Some.entry.reply.now c.handle.new.reply.reply c.args.bytes.now c.handle.new.self.line c.args.server.now c.handle.new.self c.in-Some.ensures.found c.in-NoReply.ensures.step
