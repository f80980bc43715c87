use Rattle.std.proofs.Common.{◌≡◌, drop}
use Rattle.nfs_entries.specs.Listing.{listed}
use Rattle.nfs_entries.proofs.directory_entries.first_live.Given as goal

abbrev pub invariant-loop-at : goal.invariant-loop-at
invariant-loop-at l = listed l.rows.entries l.places ≡ listed l.rows.entries (drop l.at l.places)
