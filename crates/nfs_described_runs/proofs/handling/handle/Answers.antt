use Rattle.std.proofs.Common.{subst}
use Rattle.nfs_described_runs.proofs.Kept.{handled_stays}
use Rattle.nfs_described_runs.proofs.handling.handle.Goals as goal
use Rattle.nfs_server.specs.InMemory.{answered, event_of}
use Rattle.nfs_load.specs.Moments.{IsTime}
use Rattle.nfs_xdr.specs.Reading.{AreBytes}

pub returns : goal.returns
returns c = record {
  described = λ history fits. let g = c.handle.ensures.step history fits in
      handled_stays history c.args.server.now (event_of c.args.event) g.0 (answered c.handle.result c.handle.new.reply.reply c.handle.new.self.line) c.handle.new.self
      (record { bytes = subst AreBytes c.lent.ensures.all c.lent.ensures.bytes; moment = subst IsTime c.now.ensures.all c.now.ensures.time }) g.1;
}
