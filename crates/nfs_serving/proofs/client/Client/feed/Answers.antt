use Rattle.std.proofs.Common.{ap, subst, ◌∙◌}
use Rattle.nfs_server.specs.Feeding.{device}
use Rattle.nfs_serving.specs.Outgoing.{Outgoing, Passes}
use Rattle.nfs_serving.specs.Turns.{Standing}
use Rattle.nfs_serving.proofs.Turning.{gathers_then_sent, takes_as}
use Rattle.nfs_serving.proofs.client.Client.feed.Goals as goal

pub returns-clause-takes : goal.returns-clause-takes
returns-clause-takes g c =
    let audit = device (g.A.AuditOut.contents c.args.audit.now) (g.A.AuditOut.contents c.answer-stop.new.audit) in
    let sent : Standing g.row.L.Denot = record { connection = c.self.inside.connection; channel = c.send-sent.new.self; chunk = c.self.inside.chunk.bytes; end = c.self.inside.end; calls = c.self.inside.calls } in
    let channel = ap (λ (s : Standing g.row.L.Denot). s.channel) c.self.view_is in
    let passes = subst (λ bytes. Passes (g.L.Link.outgoing c.self.inside.channel.link) bytes (g.L.Link.outgoing c.send-sent.new.self.link) c.send-sent.new.self.pending) c.gathered.ensures.all c.send-sent.ensures.passes in
    takes_as g.L.Link.outgoing g.L.Link.incoming c.args.moment c.args.server.now c.answer-stop.new.server audit c.args.self.now sent c.outcome.new.self
    c.outcome.ensures.connection c.outcome.ensures.channel c.outcome.ensures.chunk c.outcome.ensures.calls c.outcome.ensures.ends
    (gathers_then_sent g.L.Link.outgoing g.L.Link.incoming c.args.moment c.args.server.now c.answer-stop.new.server audit c.args.self.now c.answer-stop.new.self sent c.answer-stop.new.reply c.answer-stop.ensures.gathers c.requires.pending
    (ap (λ (s : Standing g.row.L.Denot). s.connection) c.self.view_is) (ap (λ (s : Standing g.row.L.Denot). s.chunk) c.self.view_is) (ap (λ (s : Standing g.row.L.Denot). s.calls) c.self.view_is) (ap (λ (s : Standing g.row.L.Denot). s.end) c.self.view_is)
    (c.send-sent.ensures.incoming ∙ ap (λ (o : Outgoing g.row.L.Denot). g.L.Link.incoming o.link) channel)
    (subst (λ (o : Outgoing g.row.L.Denot). Passes (g.L.Link.outgoing o.link) c.answer-stop.new.reply.earlier (g.L.Link.outgoing c.send-sent.new.self.link) c.send-sent.new.self.pending) channel passes))
