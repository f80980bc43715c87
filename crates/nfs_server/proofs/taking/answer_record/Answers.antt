use Rattle.std.proofs.Common.{subst}
use Rattle.nfs_server.specs.Feeding.{event_at, device}
use Rattle.nfs_server.specs.Taking.{AnswersEvent}
use Rattle.nfs_server.proofs.taking.answer_record.Goals as goal

pub returns-clause-answers : goal.returns-clause-answers
returns-clause-answers g c = subst (λ bytes. AnswersEvent (event_at c.args.origin bytes) c.answer_event-replied.result c.args.server.now c.answer_event-replied.new.server
    (device (g.A.AuditOut.contents c.args.audit.now) (g.A.AuditOut.contents c.answer_event-replied.new.audit))
    (device (g.R.ReplyOut.contents c.args.replies.now c.args.reply.now.earlier) (g.R.ReplyOut.contents c.answer_event-replied.new.replies c.answer_event-replied.new.reply.earlier))) c.whole.ensures c.answer_event-replied.ensures.answers
