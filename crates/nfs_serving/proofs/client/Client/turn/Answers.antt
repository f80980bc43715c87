use Rattle.std.proofs.Common.{sym, ap, ◌∙◌}
use Rattle.std.proofs.lemmas.Bool.{true≢false}
use Rattle.nfs_serving.specs.Turns.{Standing}
use Rattle.nfs_serving.proofs.Turning.{left_was_pending, rests_then_turns}
use Rattle.nfs_serving.proofs.client.Client.turn.Goals as goal

pub returns-clause-turns : goal.returns-clause-turns
returns-clause-turns g c = rests_then_turns g.L.Link.outgoing g.L.Link.incoming c.args.moment c.args.server.now c.take.new.server _ c.args.self.now c.pass_on.new.self c.take.new.self c.pass_on.ensures.rests c.take.ensures.turns

pub returns-then-not-is_settled-clause-since : goal.returns-then-not-is_settled-clause-since
returns-then-not-is_settled-clause-since g c = λ held. left_was_pending _ _ _ _ c.pass_on.ensures.rests.passes (λ none. true≢false (sym (c.if-not-is_settled.ensures.1 (ap (λ (s : Standing g.row.L.Denot). s.channel.pending) c.self.view_is ∙ none))))
