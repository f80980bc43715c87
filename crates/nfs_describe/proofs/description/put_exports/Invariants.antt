use Rattle.std.proofs.Common.{◌≡◌, ℕ, List, ◌++◌, drop}
use Rattle.std.specs.List.{flat_map}
use Rattle.nfs_describe.specs.Lines.{export_line}
use Rattle.nfs_describe.proofs.description.put_exports.Given as goal

abbrev pub invariant-loop-export : goal.invariant-loop-export
invariant-loop-export g l = (before : List ℕ) → g.O.Output.has l.fn.out before
    → (done : List ℕ) × g.O.Output.has l.out done × (done ++ flat_map export_line (drop l.export-index l.exports) ≡ before ++ flat_map export_line l.exports)
