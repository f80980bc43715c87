use Rattle.nfs_round_trip.proofs.LoadedLines.{loaded_describable}
use Rattle.nfs_round_trip.proofs.laws.loaded_are_describable.Goals as goal

pub returns : goal.returns
returns c = loaded_describable
