use Rattle.std.proofs.Common.{◌≡◌, ◌++◌, map, length}
use Rattle.nfs_inodes.specs.Views.{entries_left}
use Rattle.nfs_describe.specs.Places.{place_below, places_below}
use Rattle.nfs_describe.proofs.walk.walk_below.Given as goal

abbrev pub invariant-loop-entry : goal.invariant-loop-entry
invariant-loop-entry l = l.below.items ++ map (place_below l.place.path) (entries_left l.entries) ≡ places_below l.tree l.place

abbrev pub decreases-loop-entry : goal.decreases-loop-entry
decreases-loop-entry l = length (entries_left l.entries)
