use Rattle.std.proofs.Common.{◌≡◌, ap, subst, sym, ◌∙◌, true, IfSome, Err, refl, rules}
use Rattle.nfs_rpc.specs.declared.framer.Stage.TheVariants.{Ready}
use Rattle.nfs_server.specs.Connections.{IsBetween}
use Rattle.nfs_server.specs.Denying.{fails_rule}
use Rattle.nfs_server.specs.Feeding.{device, event_at}
use Rattle.nfs_server.specs.Taking.{FeedsOne}
use Rattle.nfs_server.specs.declared.taking.Stop.TheVariants.{Denied, Memory as NoMemory}
use Rattle.nfs_server.proofs.OneRecord.{passed_on, feeds_none, feeds_frame_fault, feeds_whole, feeds_broken}
use Rattle.nfs_server.proofs.Waiting.{feeds_held, held_so, waits_at}
use Rattle.nfs_server.proofs.taking.take_fed.Goals as goal

pub returns-in_err-fed-clause-feeds : goal.returns-in_err-fed-clause-feeds
returns-in_err-fed-clause-feeds g c = passed_on (λ r. FeedsOne c.args.origin c.args.chunk.now r c.args.server.now c.args.server.now c.args.framer.now c.feed.new.self
    (device (g.A.AuditOut.contents c.args.audit.now) (g.A.AuditOut.contents c.args.audit.now))
    (device (g.R.ReplyOut.contents c.args.replies.now c.args.reply.now.earlier) (g.R.ReplyOut.contents c.args.replies.now c.args.reply.now.earlier))) _ _ c.from_residual.ensures.1
    (feeds_frame_fault c.args.origin c.args.server.now c.args.framer.now c.feed.new.self _ _ _ (tt, tt) c.in_err-fed.field-0.0 c.args.chunk.now c.in_err-fed.ensures.limit (λ e. c.in_err-fed.ensures.too_long (ap Err e)) (λ e. c.in_err-fed.ensures.memory (ap Err e)) (λ e. c.requires.between.1 (c.in_err-fed.ensures.failed.0 (ap Err e))))

pub returns-then-not-fed-clause-feeds : goal.returns-then-not-fed-clause-feeds
returns-then-not-fed-clause-feeds g c =
    let between : IsBetween c.feed.new.self = search rules in
    feeds_none _ c.args.origin c.args.server.now c.args.framer.now c.feed.new.self _ _ (tt, refl) _ between c.in_ok-fed.ensures.moves

pub returns-in_err-replied-clause-feeds : goal.returns-in_err-replied-clause-feeds
returns-in_err-replied-clause-feeds g c =
    let ready : c.feed.new.self.stage ≡ Ready = search rules in
    passed_on (λ r. FeedsOne c.args.origin c.args.chunk.now r c.args.server.now c.answer_record.new.server c.args.framer.now c.answer_record.new.framer
    (device (g.A.AuditOut.contents c.args.audit.now) (g.A.AuditOut.contents c.answer_record.new.audit))
    (device (g.R.ReplyOut.contents c.args.replies.now c.args.reply.now.earlier) (g.R.ReplyOut.contents c.answer_record.new.replies c.answer_record.new.reply.earlier))) _ _ c.from_residual-in_err-replied.ensures.1
    (feeds_broken c.args.origin c.args.server.now c.answer_record.new.server c.args.framer.now c.feed.new.self c.answer_record.new.framer _ _ ready c.answer_record.ensures.limit _ (λ d. (tt, tt)) c.args.chunk.now c.in_ok-fed.fed.used c.in_err-replied.field-0.0 c.in_ok-fed.ensures.moves c.in_err-replied.ensures.answers)

pub returns-clause-feeds : goal.returns-clause-feeds
returns-clause-feeds g c =
    let ready : c.feed.new.self.stage ≡ Ready = search rules in
    feeds_whole c.args.origin c.args.server.now c.answer_record.new.server c.args.framer.now c.feed.new.self c.answer_record.new.framer _ _ ready c.answer_record.ensures.limit _ _ c.in_ok-fed.ensures.moves c.answer_record.ensures.next c.in_ok-replied.ensures.answers

pub returns-in-Err-clause-feeds : goal.returns-in-Err-clause-feeds
returns-in-Err-clause-feeds g c = feeds_held c.args.origin c.args.server.now c.args.framer.now c.args.framer.now _ _ NoMemory c.held.result c.args.chunk.now c.held.ensures refl c.requires.between

pub returns-then-would_deny-clause-feeds : goal.returns-then-would_deny-clause-feeds
returns-then-would_deny-clause-feeds g c =
    let before : (c.in-Some.before ≡ c.args.framer.now) × (c.is_full.result ≡ true) = subst (λ o. IfSome o (λ p. (p ≡ c.args.framer.now) × (c.is_full.result ≡ true))) c.in-Some.is c.in-Ok.ensures.some in
    feeds_held c.args.origin c.args.server.now c.args.framer.now c.in-Some.before _ _ Denied c.held-then-would_deny.result c.args.chunk.now c.held-then-would_deny.ensures before.0 c.requires.between

pub returns-then-would_deny-clause-waits : goal.returns-then-would_deny-clause-waits
returns-then-would_deny-clause-waits g c =
    let before : (c.in-Some.before ≡ c.args.framer.now) × (c.is_full.result ≡ true) = subst (λ o. IfSome o (λ p. (p ≡ c.args.framer.now) × (c.is_full.result ≡ true))) c.in-Some.is c.in-Ok.ensures.some in
    let ready : c.feed.new.self.stage ≡ Ready = search rules in
    let fails : fails_rule c.args.server.now (event_at c.args.origin c.feed.new.self.content) ≡ true =
    ap (λ bytes. fails_rule c.args.server.now (event_at c.args.origin bytes)) (sym c.whole.ensures) ∙ sym c.would_deny.ensures ∙ c.if-would_deny.true in
    held_so c.args.origin c.args.server.now c.args.framer.now c.in-Some.before _ Denied c.held-then-would_deny.result c.args.chunk.now c.held-then-would_deny.ensures refl before.0
    (waits_at c.args.origin c.args.server.now c.args.framer.now c.feed.new.self _ c.args.chunk.now c.in_ok-fed.fed.used ready c.in_ok-fed.ensures.moves (sym c.is_full.ensures ∙ before.1) fails)
