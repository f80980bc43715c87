use Rattle.nfs_round_trip.proofs.Keys.{keys_stay}
use Rattle.nfs_round_trip.proofs.laws.keys_stay_describable.Goals as goal

pub returns : goal.returns
returns c = keys_stay
