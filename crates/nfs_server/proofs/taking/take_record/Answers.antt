use Rattle.std.proofs.Common.{◌+◌, length, refl, sym, ◌∙◌}
use Rattle.nfs_rpc.specs.Progress.{Progress}
use Rattle.nfs_rpc.specs.declared.framer.Stage.TheVariants.{Ready}
use Rattle.nfs_server.specs.Feeding.{device}
use Rattle.nfs_server.specs.Taking.{FeedsOne}
use Rattle.nfs_server.specs.declared.taking.Stop.TheVariants.{Denied}
use Rattle.nfs_server.proofs.OneRecord.{passed_on, feeds_whole, feeds_broken}
use Rattle.nfs_server.proofs.Waiting.{feeds_held, held_so, waits_at}
use Rattle.nfs_server.proofs.taking.take_record.Goals as goal

pub returns-in_err-replied-clause-feeds : goal.returns-in_err-replied-clause-feeds
returns-in_err-replied-clause-feeds g c =
    let content = c.in-Some.content.now in
    let lent = c.in-Some.ensures.lent in
    let mid : Progress = record { limit = c.args.framer.now.limit; stage = Ready; content = content } in
    let audit = device (g.A.AuditOut.contents c.args.audit.now) (g.A.AuditOut.contents c.answer_event.new.audit) in
    let replies = device (g.R.ReplyOut.contents c.args.replies.now c.args.reply.now.earlier) (g.R.ReplyOut.contents c.answer_event.new.replies c.answer_event.new.reply.earlier) in
    passed_on (λ r. FeedsOne c.args.origin c.args.chunk.now r c.args.server.now c.answer_event.new.server c.args.framer.now c.args.framer.now audit replies) _ _ c.from_residual.ensures.1
    (feeds_broken c.args.origin c.args.server.now c.answer_event.new.server c.args.framer.now mid c.args.framer.now audit replies refl refl _ (λ d. (tt, tt)) c.args.chunk.now (4 + length content) c.in_err-replied.field-0.0 lent.moves c.in_err-replied.ensures.answers)

pub returns-clause-feeds : goal.returns-clause-feeds
returns-clause-feeds g c =
    let content = c.in-Some.content.now in
    let lent = c.in-Some.ensures.lent in
    let mid : Progress = record { limit = c.args.framer.now.limit; stage = Ready; content = content } in
    let audit = device (g.A.AuditOut.contents c.args.audit.now) (g.A.AuditOut.contents c.answer_event.new.audit) in
    let replies = device (g.R.ReplyOut.contents c.args.replies.now c.args.reply.now.earlier) (g.R.ReplyOut.contents c.answer_event.new.replies c.answer_event.new.reply.earlier) in
    feeds_whole c.args.origin c.args.server.now c.answer_event.new.server c.args.framer.now mid c.args.framer.now audit replies refl refl _ _ lent.moves (c.requires, lent.begins) c.in_ok-replied.ensures.answers

pub returns-then-would_deny-clause-feeds : goal.returns-then-would_deny-clause-feeds
returns-then-would_deny-clause-feeds g c = feeds_held c.args.origin c.args.server.now c.args.framer.now c.args.framer.now _ _ Denied c.held.result c.args.chunk.now c.held.ensures refl c.requires

pub returns-then-would_deny-clause-waits : goal.returns-then-would_deny-clause-waits
returns-then-would_deny-clause-waits g c =
    let content = c.in-Some.content.now in
    let mid : Progress = record { limit = c.args.framer.now.limit; stage = Ready; content = content } in
    held_so c.args.origin c.args.server.now c.args.framer.now c.args.framer.now _ Denied c.held.result c.args.chunk.now c.held.ensures refl refl
    (waits_at c.args.origin c.args.server.now c.args.framer.now mid _ c.args.chunk.now (4 + length content) refl c.in-Some.ensures.lent.moves (sym c.is_full.ensures ∙ c.if-is_full.true) (sym c.would_deny.ensures ∙ c.if-would_deny.true))
