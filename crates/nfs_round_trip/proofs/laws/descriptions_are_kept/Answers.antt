use Rattle.nfs_round_trip.proofs.Again.{kept, one_description}
use Rattle.nfs_round_trip.proofs.laws.descriptions_are_kept.Goals as goal

pub returns-clause-one : goal.returns-clause-one
returns-clause-one c = one_description

pub returns-clause-kept : goal.returns-clause-kept
returns-clause-kept c = kept
