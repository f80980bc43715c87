use Rattle.std.proofs.Common.{◌+◌, true, false, sym, ap, subst, ◌∙◌, arith}
use Rattle.std.proofs.lemmas.Bool.{false≢true}
use Rattle.nfs_server.specs.InMemory.{answered}
use Rattle.nfs_server.specs.Runs.{events_of, Hands}
use Rattle.nfs_server.proofs.Going.{hands_on}
use Rattle.nfs_server.proofs.server.Server.run.Goals as goal

pub loop-event-preserved : goal.loop-event-preserved
loop-event-preserved g c = record {
  count = omega (arith, c.loop-event.invariant.count);
  setup = c.handle-handled.ensures.setup ∙ c.loop-event.invariant.setup;
  hands = λ history fits.
      hands_on g.S.Sink.takes history c.args.events.now _ c.loop-event.event-index _ _ _ true _ _ _ _ _ c.loop-event-test.true (c.loop-event.invariant.hands history fits) c.handle-handled.ensures.step c.take.ensures (c.outcome_of.ensures ∙ ap (answered c.handle-handled.result c.handle-handled.new.reply.reply) c.last_audit.ensures) c.if-not-take.false;
}

pub returns-then-not-take-clause-run : goal.returns-then-not-take-clause-run
returns-then-not-take-clause-run g c = λ history fits. (
  false,
  subst (λ n. Hands g.S.Sink.takes history (events_of c.args.events.now) (n + 1) false c.args.sink.now c.take.new.self c.handle-handled.new.self) (sym c.loop-event.invariant.count)
      (hands_on g.S.Sink.takes history c.args.events.now _ c.loop-event.event-index _ _ _ false _ _ _ _ _ c.loop-event-test.true (c.loop-event.invariant.hands history fits) c.handle-handled.ensures.step c.take.ensures (c.outcome_of.ensures ∙ ap (answered c.handle-handled.result c.handle-handled.new.reply.reply) c.last_audit.ensures)
      c.if-not-take.true),
  λ ended. absurd (false≢true ended),
  λ stopped. omega arith,
)
