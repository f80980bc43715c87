use Rattle.std.proofs.Common.{◌≡◌, None, ◌++◌, List, ℕ, length}
use Rattle.nfs_text.specs.Lines.{lines, lines_left}
use Rattle.nfs_load.specs.Descriptions.{Through}
use Rattle.nfs_load.proofs.description.load.Given as goal

abbrev pub invariant-loop-line : goal.invariant-loop-line
invariant-loop-line l =
    (before : List (List ℕ))
    × Through None before l.loading.described
    × (lines l.text ≡ before ++ lines_left l.lines)
    × (l.loading.count ≡ length before)

abbrev pub decreases-loop-line : goal.decreases-loop-line
decreases-loop-line l = length (lines_left l.lines)
