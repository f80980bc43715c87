use Rattle.std.proofs.Common.{is_none, ap, sym, ◌∙◌}
use Rattle.nfs_rpc.specs.AuthSys.{credential_of}
use Rattle.nfs_rpc.specs.Calls.{call_of}
use Rattle.nfs_server.specs.Requests.{args_in, args_read}
use Rattle.nfs_server.specs.InMemory.{event_of}
use Rattle.nfs_server.specs.Noted.{is_noted_judged}
use Rattle.nfs_server.proofs.ByRules.{by_nfs, by_unread}
use Rattle.nfs_server.proofs.Judged.{anew_requested, change_requested, denied_unread, nfs_lacks}
use Rattle.nfs_server.proofs.server.Server.answer_caller.Goals as goal

pub returns-in-Err-clause-judged : goal.returns-in-Err-clause-judged
returns-in-Err-clause-judged c = denied_unread c.args.self.now (event_of c.args.event) (call_of c.args.head.now) c.args.head.now.args _ _ c.requires.null c.requires.known
    (nfs_lacks (call_of c.args.head.now) c.args.head.now.args c.requires.nfs ∙ ap is_none (sym (c.read_args.ensures.read c.args.head.now.proc c.requires.procedure ∙ ap (args_in c.args.head.now.proc) (c.new.ensures ∙ c.rest.ensures.all)) ∙ ap (λ r. args_read r c.read_args.new.args) c.in-Err.is)) c.deny.ensures.reply c.deny.ensures.line

pub returns-in-Ok-clause-judged : goal.returns-in-Ok-clause-judged
returns-in-Ok-clause-judged c =
    change_requested c.args.self.now (event_of c.args.event) (call_of c.args.head.now) c.args.head.now.args c.args.cred.now c.read_args.new.args _ c.answer_change.new.self c.requires.nfs c.requires.null c.requires.known c.requires.cred
    (sym (c.read_args.ensures.read c.args.head.now.proc c.requires.procedure ∙ ap (args_in c.args.head.now.proc) (c.new.ensures ∙ c.rest.ensures.all)) ∙ ap (λ r. args_read r c.read_args.new.args) c.in-Ok.is)
    (sym c.may_change.ensures ∙ c.if-may_change.true) c.answer_change.ensures.answers

pub returns-in-Ok-2-clause-judged : goal.returns-in-Ok-2-clause-judged
returns-in-Ok-2-clause-judged c =
    anew_requested c.args.self.now (event_of c.args.event) (call_of c.args.head.now) c.args.head.now.args c.args.cred.now c.read_args.new.args _ c.answer_anew.new.self c.requires.nfs c.requires.null c.requires.known c.requires.cred
    (sym (c.read_args.ensures.read c.args.head.now.proc c.requires.procedure ∙ ap (args_in c.args.head.now.proc) (c.new.ensures ∙ c.rest.ensures.all)) ∙ ap (λ r. args_read r c.read_args.new.args) c.in-Ok-2.is)
    (sym c.may_change.ensures ∙ c.if-may_change.false) c.answer_anew.ensures.answers c.answer_anew.ensures.kept

pub returns-in-Err-clause-noted : goal.returns-in-Err-clause-noted
returns-in-Err-clause-noted c = by_unread is_noted_judged (event_of c.args.event) (call_of c.args.head.now) c.args.head.now.args c.requires.null c.requires.known
    (nfs_lacks (call_of c.args.head.now) c.args.head.now.args c.requires.nfs ∙ ap is_none (sym (c.read_args.ensures.read c.args.head.now.proc c.requires.procedure ∙ ap (args_in c.args.head.now.proc) (c.new.ensures ∙ c.rest.ensures.all)) ∙ ap (λ r. args_read r c.read_args.new.args) c.in-Err.is))

pub returns-in-Ok-clause-noted : goal.returns-in-Ok-clause-noted
returns-in-Ok-clause-noted c =
    sym c.if-may_change.true ∙ c.may_change.ensures
    ∙ by_nfs is_noted_judged (event_of c.args.event) (call_of c.args.head.now) c.args.head.now.args (credential_of c.args.cred.now) c.read_args.new.args c.requires.nfs c.requires.null c.requires.known c.requires.cred
    (sym (c.read_args.ensures.read c.args.head.now.proc c.requires.procedure ∙ ap (args_in c.args.head.now.proc) (c.new.ensures ∙ c.rest.ensures.all)) ∙ ap (λ r. args_read r c.read_args.new.args) c.in-Ok.is)

pub returns-in-Ok-2-clause-noted : goal.returns-in-Ok-2-clause-noted
returns-in-Ok-2-clause-noted c =
    sym c.if-may_change.false ∙ c.may_change.ensures
    ∙ by_nfs is_noted_judged (event_of c.args.event) (call_of c.args.head.now) c.args.head.now.args (credential_of c.args.cred.now) c.read_args.new.args c.requires.nfs c.requires.null c.requires.known c.requires.cred
    (sym (c.read_args.ensures.read c.args.head.now.proc c.requires.procedure ∙ ap (args_in c.args.head.now.proc) (c.new.ensures ∙ c.rest.ensures.all)) ∙ ap (λ r. args_read r c.read_args.new.args) c.in-Ok-2.is)
