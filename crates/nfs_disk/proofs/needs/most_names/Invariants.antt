use Rattle.std.proofs.Common.{◌≡◌, ℕ, List, [], drop}
use Rattle.nfs_disk.specs.Needs.{linked}
use Rattle.nfs_disk.specs.Tallies.{Counts}
use Rattle.nfs_disk.proofs.needs.most_names.Given as goal

abbrev pub invariant-loop-one : goal.invariant-loop-one
invariant-loop-one l = (before : List ℕ) × Counts l.tally before × (linked l.least before (drop l.one-index l.found) ≡ linked l.least [] l.found)
