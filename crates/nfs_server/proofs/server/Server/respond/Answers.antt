use Rattle.std.specs.Prelude.{Ok}
use Rattle.std.proofs.Common.{Some, ap, subst, sym, ◌∙◌}
use Rattle.nfs_rpc.specs.Calls.{call_of}
use Rattle.nfs_server.specs.AuditLines.{line_of}
use Rattle.nfs_server.specs.RpcAnswers.{Admits}
use Rattle.nfs_server.specs.Fits.{Held}
use Rattle.nfs_server.specs.Noted.{is_noted_by, is_noted_judged}
use Rattle.nfs_server.specs.OneEvent.{AnswersBy}
use Rattle.nfs_server.specs.ReplyRoom.{after}
use Rattle.nfs_server.specs.RpcRules.{head_rules, rpc_reply, rpc_rules}
use Rattle.nfs_server.specs.InMemory.{event_of, reported}
use Rattle.nfs_server.specs.declared.audit_line.DenialReason.TheVariants.{Rpc}
use Rattle.nfs_server.specs.declared.rpc_rules.Admitted.TheVariants.{Null, Nfs, Mount}
use Rattle.nfs_server.proofs.ByRules.{by_failure, by_later, by_null}
use Rattle.nfs_server.proofs.Judged.{admitted, call_rules, denied_by, null_done, of_copy}
use Rattle.nfs_server.proofs.server.Server.respond.Goals as goal

pub returns-in-Err-clause-judged : goal.returns-in-Err-clause-judged
returns-in-Err-clause-judged c =
    let old = c.args.self.now in
    denied_by old (event_of c.args.event) (call_of c.args.head.now) c.args.head.now.args head_rules call_rules c.in-Err.rule _ c.deny.new.self c.in-Err.ensures
    (c.deny.ensures.reply ∙ ap (λ k. rpc_reply c.in-Err.rule k.xid) c.copied.ensures.call)
    (c.deny.ensures.line ∙ ap (λ k. record old { line = Some (line_of c.args.event.addr k (Rpc c.in-Err.rule)) }) c.copied.ensures.call)

pub returns-in-Ok-Null-clause-judged : goal.returns-in-Ok-Null-clause-judged
returns-in-Ok-Null-clause-judged c =
    let admits : Admits (call_of c.args.head.now) c.args.head.now.args (Ok Null) = subst (Admits (call_of c.args.head.now) c.args.head.now.args) (c.in-Ok-Null.is ∙ ap Ok c.in-Ok-Null.field-0-is) c.admit.ensures in
    let old = c.args.self.now in
    let reply = after c.args.out.now c.succeed.new.out in
    subst (λ (h : Held). AnswersBy rpc_rules old (event_of c.args.event) (call_of c.args.head.now) c.args.head.now.args (reported reply h.line) h) (sym c.count.ensures)
    (null_done old (event_of c.args.event) (call_of c.args.head.now) c.args.head.now.args reply old.line c.requires.line admits.0 admits.1 c.succeed.ensures.reply)

pub returns-in-Ok-Nfs-clause-judged : goal.returns-in-Ok-Nfs-clause-judged
returns-in-Ok-Nfs-clause-judged c =
    let admits : Admits (call_of c.args.head.now) c.args.head.now.args (Ok (Nfs c.in-Ok-Nfs.procedure)) = subst (Admits (call_of c.args.head.now) c.args.head.now.args) (c.in-Ok-Nfs.is ∙ ap Ok c.in-Ok-Nfs.field-0-is) c.admit.ensures in
    let answer = reported (after c.args.out.now c.answer_nfs.new.out) c.answer_nfs.new.self.line in
    let between = c.count-in-Ok-Nfs.new.self in
    subst (λ (h : Held). AnswersBy rpc_rules h (event_of c.args.event) (call_of c.args.head.now) c.args.head.now.args answer c.answer_nfs.new.self) c.count-in-Ok-Nfs.ensures
    (admitted between (event_of c.args.event) (call_of c.args.head.now) c.args.head.now.args answer c.answer_nfs.new.self admits.0
    (of_copy call_rules between (event_of c.args.event) (call_of c.copied-in-Ok-Nfs.result) (call_of c.args.head.now) _ _ answer c.answer_nfs.new.self c.copied-in-Ok-Nfs.ensures.call c.copied-in-Ok-Nfs.ensures.args c.answer_nfs.ensures.judged))

pub returns-in-Ok-Mount-clause-judged : goal.returns-in-Ok-Mount-clause-judged
returns-in-Ok-Mount-clause-judged c =
    let admits : Admits (call_of c.args.head.now) c.args.head.now.args (Ok (Mount c.in-Ok-Mount.procedure)) = subst (Admits (call_of c.args.head.now) c.args.head.now.args) (c.in-Ok-Mount.is ∙ ap Ok c.in-Ok-Mount.field-0-is) c.admit.ensures in
    let answer = reported (after c.args.out.now c.answer_mount.new.out) c.answer_mount.new.self.line in
    let between = c.count-in-Ok-Mount.new.self in
    subst (λ (h : Held). AnswersBy rpc_rules h (event_of c.args.event) (call_of c.args.head.now) c.args.head.now.args answer c.answer_mount.new.self) c.count-in-Ok-Mount.ensures
    (admitted between (event_of c.args.event) (call_of c.args.head.now) c.args.head.now.args answer c.answer_mount.new.self admits.0
    (of_copy call_rules between (event_of c.args.event) (call_of c.copied-in-Ok-Mount.result) (call_of c.args.head.now) _ _ answer c.answer_mount.new.self c.copied-in-Ok-Mount.ensures.call c.copied-in-Ok-Mount.ensures.args c.answer_mount.ensures.judged))

pub returns-in-Err-clause-noted : goal.returns-in-Err-clause-noted
returns-in-Err-clause-noted c = by_failure is_noted_judged (event_of c.args.event) (call_of c.args.head.now) c.args.head.now.args head_rules call_rules c.in-Err.rule c.in-Err.ensures

pub returns-in-Ok-Null-clause-noted : goal.returns-in-Ok-Null-clause-noted
returns-in-Ok-Null-clause-noted c =
    let admits : Admits (call_of c.args.head.now) c.args.head.now.args (Ok Null) = subst (Admits (call_of c.args.head.now) c.args.head.now.args) (c.in-Ok-Null.is ∙ ap Ok c.in-Ok-Null.field-0-is) c.admit.ensures in
    by_null is_noted_judged (event_of c.args.event) (call_of c.args.head.now) c.args.head.now.args c.args.self.now admits.0 admits.1

pub returns-in-Ok-Nfs-clause-noted : goal.returns-in-Ok-Nfs-clause-noted
returns-in-Ok-Nfs-clause-noted c =
    let admits : Admits (call_of c.args.head.now) c.args.head.now.args (Ok (Nfs c.in-Ok-Nfs.procedure)) = subst (Admits (call_of c.args.head.now) c.args.head.now.args) (c.in-Ok-Nfs.is ∙ ap Ok c.in-Ok-Nfs.field-0-is) c.admit.ensures in
    let event = event_of c.args.event in
    c.answer_nfs.ensures.noted ∙ ap (λ k. is_noted_by call_rules event k c.copied-in-Ok-Nfs.result.args) c.copied-in-Ok-Nfs.ensures.call ∙ ap (is_noted_by call_rules event (call_of c.args.head.now)) c.copied-in-Ok-Nfs.ensures.args
    ∙ by_later is_noted_judged event (call_of c.args.head.now) c.args.head.now.args head_rules call_rules admits.0

pub returns-in-Ok-Mount-clause-noted : goal.returns-in-Ok-Mount-clause-noted
returns-in-Ok-Mount-clause-noted c =
    let admits : Admits (call_of c.args.head.now) c.args.head.now.args (Ok (Mount c.in-Ok-Mount.procedure)) = subst (Admits (call_of c.args.head.now) c.args.head.now.args) (c.in-Ok-Mount.is ∙ ap Ok c.in-Ok-Mount.field-0-is) c.admit.ensures in
    let event = event_of c.args.event in
    c.answer_mount.ensures.noted ∙ ap (λ k. is_noted_by call_rules event k c.copied-in-Ok-Mount.result.args) c.copied-in-Ok-Mount.ensures.call ∙ ap (is_noted_by call_rules event (call_of c.args.head.now)) c.copied-in-Ok-Mount.ensures.args
    ∙ by_later is_noted_judged event (call_of c.args.head.now) c.args.head.now.args head_rules call_rules admits.0
