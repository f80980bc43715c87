use Rattle.std.proofs.Common.{drop, refl, subst, ◌∙◌, length-drop, arith}
use Rattle.std.proofs.lemmas.List.{take_all}
use Rattle.nfs_serving.specs.Outgoing.{Outgoing, Passes}
use Rattle.nfs_serving.proofs.Turning.{passes_some}
use Rattle.nfs_serving.proofs.channel.Channel.send.Goals as goal

pub returns-in-Ok-clause-passes : goal.returns-in-Ok-clause-passes
returns-in-Ok-clause-passes g c = subst (λ (o : Outgoing g.row.L.Denot). Passes (g.L.Link.outgoing o.link) c.args.bytes.now (g.L.Link.outgoing c.send_some.new.link) c.hold-in-Ok.new.self.bytes) c.self.view_is
    (passes_some (g.L.Link.outgoing c.self.inside.link) (g.L.Link.outgoing c.send_some.new.link) c.args.bytes.now c.hold-in-Ok.new.self.bytes c.args.bytes.now c.in-Ok.n refl (c.hold-in-Ok.ensures.bytes ∙ take_all _ (drop c.in-Ok.n c.args.bytes.now) (omega (arith, length-drop c.in-Ok.n c.args.bytes.now))) c.in-Ok.ensures.sent)
