use Rattle.std.proofs.Common.{Ok, refl, sym, subst}
use Rattle.nfs_server.specs.Feeding.{device}
use Rattle.nfs_server.specs.InMemory.{event_of, reported}
use Rattle.nfs_server.specs.Taking.{AnswersEvent, Writes}
use Rattle.nfs_server.proofs.OneRecord.{answers_by, answers_none}
use Rattle.nfs_server.proofs.taking.answer_event.Goals as goal

pub returns-in-Answered-clause-answers : goal.returns-in-Answered-clause-answers
returns-in-Answered-clause-answers g c = answers_by _ _ _ _ _ _ _ _ c.in-Answered.ensures.step refl
    (subst (λ earlier. Writes (reported c.handle.new.reply.reply c.handle.new.self.line) c.write_answer.result (device (g.A.AuditOut.contents c.args.audit.now) (g.A.AuditOut.contents c.write_answer.new.audit))
    (device (g.R.ReplyOut.contents c.args.replies.now earlier) (g.R.ReplyOut.contents c.write_answer.new.replies c.write_answer.new.reply.earlier))) c.in-Answered.ensures.earlier c.write_answer.ensures.writes)

pub returns-in-NoReply-clause-answers : goal.returns-in-NoReply-clause-answers
returns-in-NoReply-clause-answers g c =
    let audit = device (g.A.AuditOut.contents c.args.audit.now) (g.A.AuditOut.contents c.args.audit.now) in
    let before = g.R.ReplyOut.contents c.args.replies.now c.args.reply.now.earlier in
    subst (λ earlier. AnswersEvent (event_of c.args.event) (Ok 0) c.args.server.now c.handle.new.self audit (device before (g.R.ReplyOut.contents c.args.replies.now earlier))) (sym c.in-NoReply.ensures.earlier)
    (answers_none _ _ _ _ before c.in-NoReply.ensures.step)
