use Rattle.std.proofs.Common.{ℕ, List, sym, ap, subst, ◌∙◌}
use Rattle.nfs_server.specs.Feeding.{device}
use Rattle.nfs_serving.specs.Turns.{Standing, Turns}
use Rattle.nfs_serving.proofs.client.Client.take.Goals as goal

pub returns-clause-turns : goal.returns-clause-turns
returns-clause-turns g c =
    let with_chunk : List ℕ → Standing g.row.L.Denot = λ chunk. record { connection = c.self.inside.connection; channel = c.self.inside.channel; chunk = chunk; end = c.self.inside.end; calls = c.self.inside.calls } in
    subst (λ (s : Standing g.row.L.Denot). Turns g.L.Link.outgoing g.L.Link.incoming c.args.moment c.args.self.now s c.args.server.now c.take_some-turn.new.server (device (g.A.AuditOut.contents c.args.audit.now) (g.A.AuditOut.contents c.take_some-turn.new.audit)))
    (sym (ap with_chunk c.give_back.ensures.bytes ∙ c.self.view_is)) c.take_some-turn.ensures.turns
