use Rattle.nfs_rpc.proofs.Streams.{unfinished_reports}
use Rattle.nfs_rpc.proofs.laws.unfinished_bytes_are_reported.Goals as goal

pub returns : goal.returns
returns c = unfinished_reports
