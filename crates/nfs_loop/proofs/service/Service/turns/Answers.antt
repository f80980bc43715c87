use Rattle.std.proofs.Common.{inl, refl, ◌∙◌}
use Rattle.nfs_loop.specs.Stages.{seats}
use Rattle.nfs_loop.proofs.Rounding.{round_on, round_starts, settled_on}
use Rattle.nfs_loop.proofs.Staying.{some_held_on}
use Rattle.nfs_loop.proofs.service.Service.turns.Goals as goal

pub loop-left-init : goal.loop-left-init
loop-left-init g c = record { goes = round_starts g.L.Link.outgoing g.L.Link.incoming g.L.Link.reports _ c.args.self.now.housekeeping.watches (seats c.args.self.now.clients.0) _ _ c.args.self.now.clients.1.0 c.waiting-left.result c.waiting-left.ensures.len; watched = c.requires.watched; looked = refl; limits = refl; holds = λ key. inl refl }

pub loop-left-preserved : goal.loop-left-preserved
loop-left-preserved g c = record {
  goes = round_on g.L.Link.outgoing g.L.Link.incoming g.L.Link.reports c.args.self.now.housekeeping.watches c.loop-left.self.housekeeping.watches (seats c.args.self.now.clients.0) (seats c.loop-left.self.clients.0) c.args.self.now.clients.1.0 c.loop-left.self.clients.1.0 c.loop-left.left _ _ _ _ _ _
      (settled_on g.L.Link.outgoing g.L.Link.incoming g.L.Link.reports c.args.self.now.housekeeping.watches c.loop-left.self.housekeeping.watches (seats c.args.self.now.clients.0) (seats c.loop-left.self.clients.0) c.args.self.now.clients.1.0 c.loop-left.self.clients.1.0 c.loop-left.left _ _ _ _ _ _ c.loop-left.invariant.goes _ _
      c.settle_where_much.ensures.goes refl)
      c.turn.new.self.housekeeping.watches (seats c.turn.new.self.clients.0) c.turn.new.self.clients.1.0 _ _ c.waiting-left.ensures.apart c.loop-left-test.true c.turn.ensures.holds c.turn.ensures.heard c.settle_where_much.ensures.room c.turn.ensures.goes;
  watched = c.turn.ensures.watched;
  looked = c.turn.ensures.looked ∙ c.loop-left.invariant.looked;
  limits = c.turn.ensures.limits ∙ c.loop-left.invariant.limits;
  holds = some_held_on c.args.self.now.clients.1.0 c.loop-left.self.clients.1.0 _ _ _ c.loop-left.left c.args.self.now.housekeeping.watches c.loop-left.self.housekeeping.watches c.turn.new.self.housekeeping.watches
      c.loop-left.invariant.goes.such.0.first_is c.loop-left.invariant.goes.such.0.queue_is c.loop-left.invariant.goes.such.0.left_is c.loop-left-test.true c.loop-left.invariant.holds c.turn.ensures.holds;
}
