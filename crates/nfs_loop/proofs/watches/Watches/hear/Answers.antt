use Rattle.std.proofs.Common.{ap, ◌∙◌}
use Rattle.nfs_loop.specs.Watching.{hold_at}
use Rattle.nfs_loop.specs.declared.watches.Watch.{Watch}
use Rattle.nfs_loop.proofs.Watching.{holds_stay}
use Rattle.nfs_loop.proofs.watches.Watches.hear.Goals as goal

pub returns-then-is_heard-clause-holds : goal.returns-then-is_heard-clause-holds
returns-then-is_heard-clause-holds c = λ k. ap (λ ws. hold_at ws k) c.set.ensures ∙ holds_stay c.args.self.now c.args.key k _ (ap (λ (w : Watch). w.hold) c.at-watch.ensures)
