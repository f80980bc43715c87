use Rattle.std.proofs.Common.{◌≡◌, length}
use Rattle.nfs_advice.specs.Numbered.{line_numbered}
use Rattle.nfs_text.specs.Chunks.{chunks, chunks_left}
use Rattle.nfs_advice.proofs.script.line_at.Given as goal

abbrev pub invariant-loop-line : goal.invariant-loop-line
invariant-loop-line l = line_numbered l.number (chunks 10 l.script) ≡ line_numbered l.left (chunks_left l.lines)

abbrev pub decreases-loop-line : goal.decreases-loop-line
decreases-loop-line l = length (chunks_left l.lines)
