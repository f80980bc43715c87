use Rattle.std.proofs.Common.{◌++◌, is_none, refl, ap, sym, subst, ◌∙◌}
use Rattle.std.specs.Result.{result_ok}
use Rattle.nfs_rpc.specs.Calls.{call_of}
use Rattle.nfs_server.specs.Requests.{mount_args_in}
use Rattle.nfs_server.specs.RpcRules.{caller_rules}
use Rattle.nfs_server.specs.Fits.{Held}
use Rattle.nfs_server.specs.Noted.{is_noted_judged}
use Rattle.nfs_server.specs.OneEvent.{AnswersBy}
use Rattle.nfs_server.specs.ReplyRoom.{after}
use Rattle.nfs_server.specs.InMemory.{event_of, held, reported}
use Rattle.nfs_server.specs.declared.rpc_rules.RpcRule.TheVariants.{Arguments}
use Rattle.std.proofs.Common.{[], ◌∷◌}
use Rattle.nfs_server.proofs.ByRules.{by_failure, by_mount, by_unread}
use Rattle.nfs_server.proofs.Judged.{denied_by, denied_unread, mount_lacks, mount_requested}
use Rattle.nfs_server.proofs.server.Server.answer_mount.Goals as goal

pub returns-in-Some-clause-judged : goal.returns-in-Some-clause-judged
returns-in-Some-clause-judged c = denied_by c.args.self.now (event_of c.args.event) (call_of c.args.head.now) c.args.head.now.args caller_rules (Arguments ∷ []) c.in-Some.rule _ _
    (sym c.caller_failure.ensures ∙ c.in-Some.is) c.deny.ensures.reply c.deny.ensures.line

pub returns-in_default-read_mount_args-clause-judged : goal.returns-in_default-read_mount_args-clause-judged
returns-in_default-read_mount_args-clause-judged c = denied_unread c.args.self.now (event_of c.args.event) (call_of c.args.head.now) c.args.head.now.args _ _ c.requires.null (sym c.caller_failure.ensures ∙ c.in_default.is)
    (mount_lacks (call_of c.args.head.now) c.args.head.now.args c.requires.mount ∙ ap is_none (sym (c.read_mount_args.ensures c.args.head.now.proc c.requires.procedure ∙ ap (mount_args_in c.args.head.now.proc) (c.new.ensures ∙ c.rest.ensures.all)) ∙ ap result_ok c.in_default-read_mount_args.is))
    c.deny-in_default-read_mount_args.ensures.reply c.deny-in_default-read_mount_args.ensures.line

pub returns-clause-judged : goal.returns-clause-judged
returns-clause-judged c =
    let inside = c.self.inside in
    let new : Held = held inside.kept inside.table inside.tree c.answer_mount.new.mounts c.answer_mount.new.line inside.notes in
    let bytes = c.args.head.now.args in
    subst (λ (h : Held). AnswersBy (caller_rules ++ Arguments ∷ []) h (event_of c.args.event) (call_of c.args.head.now) bytes (reported (after c.args.out.now c.answer_mount.new.out) c.answer_mount.new.line) new) c.self.view_is
    (mount_requested (held inside.kept inside.table inside.tree inside.mounts inside.line inside.notes) (event_of c.args.event) (call_of c.args.head.now) bytes c.in-Ok.args _ new c.requires.mount c.requires.null (sym c.caller_failure.ensures ∙ c.in_default.is)
    (sym (c.read_mount_args.ensures c.args.head.now.proc c.requires.procedure ∙ ap (mount_args_in c.args.head.now.proc) (c.new.ensures ∙ c.rest.ensures.all)) ∙ ap result_ok c.in-Ok.is) refl refl c.answer_mount.ensures.answers)

pub returns-in-Some-clause-noted : goal.returns-in-Some-clause-noted
returns-in-Some-clause-noted c = by_failure is_noted_judged (event_of c.args.event) (call_of c.args.head.now) c.args.head.now.args caller_rules (Arguments ∷ []) c.in-Some.rule (sym c.caller_failure.ensures ∙ c.in-Some.is)

pub returns-in_default-read_mount_args-clause-noted : goal.returns-in_default-read_mount_args-clause-noted
returns-in_default-read_mount_args-clause-noted c = by_unread is_noted_judged (event_of c.args.event) (call_of c.args.head.now) c.args.head.now.args c.requires.null (sym c.caller_failure.ensures ∙ c.in_default.is)
    (mount_lacks (call_of c.args.head.now) c.args.head.now.args c.requires.mount ∙ ap is_none (sym (c.read_mount_args.ensures c.args.head.now.proc c.requires.procedure ∙ ap (mount_args_in c.args.head.now.proc) (c.new.ensures ∙ c.rest.ensures.all)) ∙ ap result_ok c.in_default-read_mount_args.is))

pub returns-clause-noted : goal.returns-clause-noted
returns-clause-noted c =
    c.may_change_mounts.ensures
    ∙ by_mount is_noted_judged (event_of c.args.event) (call_of c.args.head.now) c.args.head.now.args c.in-Ok.args c.requires.mount c.requires.null (sym c.caller_failure.ensures ∙ c.in_default.is)
    (sym (c.read_mount_args.ensures c.args.head.now.proc c.requires.procedure ∙ ap (mount_args_in c.args.head.now.proc) (c.new.ensures ∙ c.rest.ensures.all)) ∙ ap result_ok c.in-Ok.is)
