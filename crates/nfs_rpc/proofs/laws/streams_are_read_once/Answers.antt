use Rattle.nfs_rpc.proofs.Streams.{record_once, streams_once}
use Rattle.nfs_rpc.proofs.laws.streams_are_read_once.Goals as goal

pub returns : goal.returns
returns c = record { records = record_once; streams = streams_once }
