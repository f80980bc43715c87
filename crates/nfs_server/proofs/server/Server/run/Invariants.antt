use Rattle.std.proofs.Common.{◌≡◌, true}
use Rattle.nfs_server.specs.Fits.{History, Fits}
use Rattle.nfs_server.specs.Runs.{events_of, Hands}
use Rattle.nfs_server.proofs.server.Server.run.Given as goal

abbrev pub invariant-loop-event : goal.invariant-loop-event
invariant-loop-event g l = record {
  count : l.done ≡ l.event-index;
  setup : l.self.setup ≡ l.fn.self.setup;
  hands : (history : History) → Fits history l.fn.self → Hands g.S.Sink.takes history (events_of l.events) l.event-index true l.fn.sink l.sink l.self;
}
