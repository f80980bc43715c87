use Rattle.std.proofs.Common.{◌≡◌, [], ◌∷◌, take}
use Rattle.std.specs.List.{flat_map}
use Rattle.nfs_describe.specs.Places.{places_below}
use Rattle.nfs_describe.proofs.walk.walk.Given as goal

abbrev pub invariant-loop-index : goal.invariant-loop-index
invariant-loop-index l = l.places.items ≡ record { path = []; number = l.fn.root.0 } ∷ flat_map (places_below l.tree) (take l.index l.places.items)
