use Rattle.nfs_round_trip.proofs.Stays.{changes_stay}
use Rattle.nfs_round_trip.proofs.laws.changes_stay_describable.Goals as goal

pub returns : goal.returns
returns c = changes_stay
