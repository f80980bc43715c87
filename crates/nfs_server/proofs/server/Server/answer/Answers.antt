use Rattle.std.proofs.Common.{◌≡◌, None, refl, ap, sym, subst, ◌∙◌}
use Rattle.nfs_rpc.specs.Calls.{head_at}
use Rattle.nfs_server.specs.Events.{Answer, silence}
use Rattle.nfs_server.specs.Fits.{Held}
use Rattle.nfs_server.specs.Noted.{is_noted_call}
use Rattle.nfs_server.specs.OneEvent.{AnswersRecord, AnswersCalled}
use Rattle.nfs_server.specs.ReplyRoom.{after, reply_at}
use Rattle.nfs_server.specs.InMemory.{event_of, held, reported}
use Rattle.nfs_server.proofs.Judged.{whatever_line}
use Rattle.nfs_server.proofs.Performed.{with_memory}
use Rattle.nfs_server.proofs.Room.{reply_is}
use Rattle.nfs_server.proofs.server.Server.answer.Goals as goal

pub returns-in_default-clause-answers : goal.returns-in_default-clause-answers
returns-in_default-clause-answers c =
    let inside = c.self.inside in let event = event_of c.args.event in
    let old : Held = held inside.kept inside.table inside.tree inside.mounts inside.line inside.notes in
    let new : Held = held inside.kept inside.table inside.tree inside.mounts None inside.notes in
    subst (λ (h : Held). AnswersRecord h event silence new) c.self.view_is
    (refl, subst (λ head. AnswersCalled head old event silence new) (sym c.in_default.ensures.exact) (with_memory, ((refl, refl), refl)))

pub returns-clause-answers : goal.returns-clause-answers
returns-clause-answers c =
    let inside = c.self.inside in let event = event_of c.args.event in let new = c.respond-is_noted.new.self in
    let old : Held = held inside.kept inside.table inside.tree inside.mounts inside.line inside.notes in
    let answer = reported (after c.begin.new.out c.respond-is_noted.new.out) new.line in
    let shown = reply_at _ c.frame.new.out in
    let reported_is : answer ≡ reported shown new.line = ap (λ r. reported r new.line) (reply_is _ c.begin.new.out c.respond-is_noted.new.out c.begin.ensures.mark ∙ sym c.frame.ensures.same) in
    let called : AnswersCalled (head_at c.args.event.bytes.now) old event answer new =
    whatever_line (head_at c.args.event.bytes.now) old c.forget.new.line event answer new (subst (λ head. AnswersCalled head (record old { line = c.forget.new.line }) event answer new) (sym c.in-Ok.ensures.exact) c.respond-is_noted.ensures.judged) in
    subst (λ (h : Held). AnswersRecord h event (reported shown new.line) new) c.self.view_is
    (c.respond-is_noted.ensures.setup, subst (λ (a : Answer). AnswersCalled (head_at c.args.event.bytes.now) old event a new) reported_is called)

pub returns-in_default-clause-noted : goal.returns-in_default-clause-noted
returns-in_default-clause-noted c = ap (is_noted_call c.args.event.addr) (sym c.in_default.ensures.exact)

pub returns-clause-noted : goal.returns-clause-noted
returns-clause-noted c = c.respond-is_noted.ensures.noted ∙ ap (is_noted_call c.args.event.addr) (sym c.in-Ok.ensures.exact)
