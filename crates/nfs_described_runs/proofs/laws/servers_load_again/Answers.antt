use Rattle.nfs_described_runs.proofs.Kept.{servers_load_again}
use Rattle.nfs_described_runs.proofs.laws.servers_load_again.Goals as goal

pub returns : goal.returns
returns c = servers_load_again
