use Rattle.nfs_round_trip.proofs.RoundTrip.{load_again}
use Rattle.nfs_round_trip.proofs.laws.descriptions_load_again.Goals as goal

pub returns : goal.returns
returns c = load_again
