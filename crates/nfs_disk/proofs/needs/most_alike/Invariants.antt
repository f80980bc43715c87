use Rattle.std.proofs.Common.{◌≡◌, ℕ, List, [], drop}
use Rattle.nfs_disk.specs.Needs.{parents}
use Rattle.nfs_disk.specs.Tallies.{Counts}
use Rattle.nfs_disk.proofs.needs.most_alike.Given as goal

abbrev pub invariant-loop-one : goal.invariant-loop-one
invariant-loop-one l = (before : List ℕ) × Counts l.tally before × (parents before (drop l.one-index l.others) ≡ parents [] l.others)
