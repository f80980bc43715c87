use Rattle.nfs_server.specs.InMemory.{event_of, answered}
use Rattle.nfs_server.proofs.Keep.{answers_go, noted_record}
use Rattle.nfs_server.proofs.Spared.{spared}
use Rattle.nfs_server.proofs.server.Server.handle.Goals as goal

pub returns-clause-step : goal.returns-clause-step
returns-clause-step c = λ history fits.
    let noted = noted_record c.args.self.now c.answer-handled.new.self c.note.new.self (event_of c.args.event) c.answer-handled.result.0 c.answer-handled.new.reply.reply c.answer-handled.result.1
    c.answer-handled.ensures.answers c.answer-handled.ensures.notes c.answer-handled.ensures.noted c.answer-handled.ensures.silent c.note.ensures in
    answers_go history c.args.self.now (event_of c.args.event) (answered c.answer-handled.result.0 c.answer-handled.new.reply.reply c.note.new.self.line) c.note.new.self fits noted.0 noted.1

pub returns-clause-spared : goal.returns-clause-spared
returns-clause-spared c = λ passes.
    let noted = noted_record c.args.self.now c.answer-handled.new.self c.note.new.self (event_of c.args.event) c.answer-handled.result.0 c.answer-handled.new.reply.reply c.answer-handled.result.1
    c.answer-handled.ensures.answers c.answer-handled.ensures.notes c.answer-handled.ensures.noted c.answer-handled.ensures.silent c.note.ensures in
    spared c.args.self.now (event_of c.args.event) (answered c.answer-handled.result.0 c.answer-handled.new.reply.reply c.note.new.self.line) c.note.new.self passes noted.0

pub returns-clause-notes : goal.returns-clause-notes
returns-clause-notes c =
    let noted = noted_record c.args.self.now c.answer-handled.new.self c.note.new.self (event_of c.args.event) c.answer-handled.result.0 c.answer-handled.new.reply.reply c.answer-handled.result.1
    c.answer-handled.ensures.answers c.answer-handled.ensures.notes c.answer-handled.ensures.noted c.answer-handled.ensures.silent c.note.ensures in
    noted.1
