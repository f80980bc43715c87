use Rattle.nfs_rpc.proofs.Streams.{records_grow, records_close, readers_keep}
use Rattle.nfs_rpc.proofs.laws.chunks_make_no_difference.Goals as goal

pub returns : goal.returns
returns c = record { grow = records_grow; close = records_close; readers = readers_keep }
