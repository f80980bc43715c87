use Rattle.std.proofs.Common.{ap, ◌∙◌}
use Rattle.nfs_loop.specs.Watching.{heard_at, hold_at}
use Rattle.nfs_loop.specs.declared.watches.Watch.{Watch}
use Rattle.nfs_loop.proofs.Watching.{heard_stays, holds_stay}
use Rattle.nfs_loop.proofs.watches.Watches.set_closing.Goals as goal

pub returns-clause-holds : goal.returns-clause-holds
returns-clause-holds c = λ k. ap (λ ws. hold_at ws k) c.set.ensures ∙ holds_stay c.args.self.now c.args.key k _ (ap (λ (w : Watch). w.hold) c.at-watch.ensures)

pub returns-clause-heard : goal.returns-clause-heard
returns-clause-heard c = λ k. ap (λ ws. heard_at ws k) c.set.ensures ∙ heard_stays c.args.self.now c.args.key k _ (ap (λ (w : Watch). w.heard) c.at-watch.ensures)
