use Rattle.std.proofs.Common.{◌≡◌, ℕ, List, ◌++◌, drop}
use Rattle.std.specs.List.{flat_map}
use Rattle.nfs_describe.specs.Texts.{lent, place_times}
use Rattle.nfs_describe.proofs.times.put_times.Given as goal

abbrev pub invariant-loop-place : goal.invariant-loop-place
invariant-loop-place g l = (before : List ℕ) → g.O.Output.has l.fn.out before
    → (done : List ℕ) × g.O.Output.has l.out done
    × (done ++ flat_map (place_times l.form l.tree) (lent (drop l.place-index l.places)) ≡ before ++ flat_map (place_times l.form l.tree) (lent l.places))
