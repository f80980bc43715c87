use Rattle.std.proofs.Common.{◌≡◌, drop}
use Rattle.indexmap.specs.IndexMap.{spare as room}
use Rattle.nfs_entries.specs.Listing.{linked}
use Rattle.nfs_entries.proofs.directory_entries.link.Given as goal

abbrev pub invariant-loop-at : goal.invariant-loop-at
invariant-loop-at l = (linked l.at (drop l.at l.places) l.rows.entries ≡ linked 0 l.places l.fn.rows.entries) × (room l.rows ≡ room l.fn.rows)
