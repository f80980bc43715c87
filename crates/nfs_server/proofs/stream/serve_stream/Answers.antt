use Rattle.nfs_server.proofs.Streaming.{streams_refused}
use Rattle.nfs_server.proofs.stream.serve_stream.Goals as goal

pub returns-in_default-clause-streams : goal.returns-in_default-clause-streams
returns-in_default-clause-streams g c = streams_refused g.R.ByteIn.gives g.R.ByteIn.breaks g.C.Moments.reports c.args.addr c.args.turns c.args.server.now c.args.reader.now c.args.clock.now _ _
