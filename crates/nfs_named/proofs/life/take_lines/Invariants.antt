use Rattle.std.proofs.Common.{◌≡◌, ℕ, List, ◌++◌, length}
use Rattle.nfs_lives.specs.Rows.{HasTaken}
use Rattle.nfs_text.specs.Lines.{lines, lines_left}
use Rattle.nfs_named.proofs.life.take_lines.Given as goal

abbrev pub invariant-loop-line : goal.invariant-loop-line
invariant-loop-line l = (before : List (List ℕ)) → HasTaken l.fn.paths before → (done : List (List ℕ)) × HasTaken l.paths done × (done ++ lines_left l.lines ≡ before ++ lines l.text)

abbrev pub decreases-loop-line : goal.decreases-loop-line
decreases-loop-line l = length (lines_left l.lines)
