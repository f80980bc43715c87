use Rattle.nfs_described_runs.proofs.Kept.{steps_stay}
use Rattle.nfs_described_runs.proofs.laws.steps_stay_describable.Goals as goal

pub returns : goal.returns
returns c = steps_stay
