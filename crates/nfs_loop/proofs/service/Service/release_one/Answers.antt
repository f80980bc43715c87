use Rattle.std.proofs.Common.{refl, sym, ap, ◌∙◌}
use Rattle.slab.specs.Slab.{get}
use Rattle.nfs_loop.specs.Watching.{is_over}
use Rattle.nfs_loop.proofs.Releasing.{keeps_it, releases_it}
use Rattle.nfs_loop.proofs.Watched.{length_after, no_fewer, watched_same}
use Rattle.nfs_loop.proofs.service.Service.release_one.Goals as goal

pub returns-then-is_over-clause-releases : goal.returns-then-is_over-clause-releases
returns-then-is_over-clause-releases g c = releases_it c.args.self.now.clients.0 c.args.is_full c.args.now c.args.key c.args.self.now.housekeeping.watches c.set_hold.new.self c.args.self.now.clients.1.0 c.make_ready.new.self.1.0 _ refl refl
    (ap (is_over c.args.is_full c.args.now) (sym c.hold.ensures) ∙ sym c.if-is_over.ensures) c.set_hold.ensures c.make_ready.ensures.queue

pub returns-then-is_over-clause-watched : goal.returns-then-is_over-clause-watched
returns-then-is_over-clause-watched g c = watched_same c.args.self.now.clients.0 c.make_ready.new.self.0 c.args.self.now.housekeeping.watches c.set_hold.new.self (λ key. ap (λ m. get m key) c.make_ready.ensures.members)
    (no_fewer (length_after c.args.self.now.housekeeping.watches c.set_hold.new.self c.args.key _ c.set_hold.ensures)) c.requires.watched

pub returns-else-is_over-clause-releases : goal.returns-else-is_over-clause-releases
returns-else-is_over-clause-releases g c = keeps_it c.args.self.now.clients.0 c.args.is_full c.args.now c.args.key c.args.self.now.housekeeping.watches c.args.self.now.housekeeping.watches c.args.self.now.clients.1.0 c.args.self.now.clients.1.0
    (ap (is_over c.args.is_full c.args.now) (sym c.hold.ensures) ∙ sym c.if-is_over.ensures) refl refl
