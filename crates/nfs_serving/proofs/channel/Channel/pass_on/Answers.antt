use Rattle.std.proofs.Common.{subst, ◌∙◌}
use Rattle.nfs_serving.specs.Outgoing.{Outgoing, Passes}
use Rattle.nfs_serving.proofs.Turning.{passes_some}
use Rattle.nfs_serving.proofs.channel.Channel.pass_on.Goals as goal

pub returns-clause-passes : goal.returns-clause-passes
returns-clause-passes g c = subst (λ (o : Outgoing g.row.L.Denot). Passes (g.L.Link.outgoing o.link) o.pending (g.L.Link.outgoing c.send_some.new.link) c.let_go.new.self.bytes) c.self.view_is
    (passes_some (g.L.Link.outgoing c.self.inside.link) (g.L.Link.outgoing c.send_some.new.link) c.self.inside.pending.bytes c.let_go.new.self.bytes c.bytes.result.now c.in_ok-n.n c.bytes.ensures (c.let_go.ensures.bytes ∙ c.take.ensures.bytes) c.in_ok-n.ensures.sent)
