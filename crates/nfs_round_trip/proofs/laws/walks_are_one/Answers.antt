use Rattle.nfs_round_trip.proofs.Walks.{one_walk}
use Rattle.nfs_round_trip.proofs.laws.walks_are_one.Goals as goal

pub returns : goal.returns
returns c = one_walk
