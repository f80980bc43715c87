use Rattle.nfs_restarts.proofs.Across.{described_handles_stay}
use Rattle.nfs_restarts.proofs.laws.described_handles_stay.Goals as goal

pub returns : goal.returns
returns c = described_handles_stay
