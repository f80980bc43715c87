use Rattle.std.proofs.Common.{◌≡◌, length}
use Rattle.nfs_text.specs.Lines.{lines, lines_left}
use Rattle.nfs_replay.specs.Orders.{has_again}
use Rattle.nfs_replay.proofs.script.has_again.Given as goal

abbrev pub invariant-loop-line : goal.invariant-loop-line
invariant-loop-line l = has_again (lines l.script) ≡ has_again (lines_left l.left)

abbrev pub decreases-loop-line : goal.decreases-loop-line
decreases-loop-line l = length (lines_left l.left)
