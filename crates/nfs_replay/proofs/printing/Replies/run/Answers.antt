use Rattle.std.proofs.Common.{ap}
use Rattle.nfs_server.specs.InMemory.{event_of}
use Rattle.nfs_server.specs.Runs.{events_of}
use Rattle.nfs_replay.specs.declared.shown.Shown.{Shown}
use Rattle.nfs_replay.proofs.Runs.{runs_printed, within_map}
use Rattle.nfs_replay.proofs.printing.Replies.run.Goals as goal

pub returns-clause-printed : goal.returns-clause-printed
returns-clause-printed g c history fits =
    runs_printed _ (λ s. s.shown.is_decoded) (λ s. s.calls.now) (λ s. s.fault) (λ s. g.W.ByteOut.contents s.out.now)
    (λ old a said new t. (t.0, t.2, ap (λ (s : Shown). s.is_decoded) t.3)) history (events_of c.args.events.now) c.run.result c.args.self.now c.run.new.sink c.run.new.self.server
    (within_map event_of c.args.events.now c.run.result c.run.ensures.bound) (c.run.ensures.run history fits)
