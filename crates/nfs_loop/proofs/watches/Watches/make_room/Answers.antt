use Rattle.std.proofs.Common.{ap, ◌∙◌}
use Rattle.nfs_loop.specs.Watching.{watch_at}
use Rattle.nfs_loop.proofs.watches.Watches.make_room.Goals as goal

pub returns-clause-stay : goal.returns-clause-stay
returns-clause-stay c = λ k. c.lengthen.ensures.stay k ∙ ap (λ ws. watch_at ws k) c.self.view_is

pub invariant_of-self : goal.invariant_of-self
invariant_of-self c = c.lengthen.ensures.count ∙ c.self.invariant
