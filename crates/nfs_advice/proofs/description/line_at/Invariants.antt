use Rattle.std.proofs.Common.{◌≡◌, length}
use Rattle.nfs_advice.specs.Numbered.{line_numbered}
use Rattle.nfs_text.specs.Lines.{lines, lines_left}
use Rattle.nfs_advice.proofs.description.line_at.Given as goal

abbrev pub invariant-loop-line : goal.invariant-loop-line
invariant-loop-line l = line_numbered l.number (lines l.text) ≡ line_numbered l.left (lines_left l.lines)

abbrev pub decreases-loop-line : goal.decreases-loop-line
decreases-loop-line l = length (lines_left l.lines)
