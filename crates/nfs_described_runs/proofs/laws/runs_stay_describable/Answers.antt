use Rattle.nfs_described_runs.proofs.Kept.{runs_stay}
use Rattle.nfs_described_runs.proofs.laws.runs_stay_describable.Goals as goal

pub returns : goal.returns
returns c = runs_stay
