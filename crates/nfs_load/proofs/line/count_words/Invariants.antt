use Rattle.std.proofs.Common.{◌≡◌, ◌+◌, length}
use Rattle.nfs_text.specs.Words.{words_left}
use Rattle.nfs_load.proofs.line.count_words.Given as goal

abbrev pub invariant-loop-left : goal.invariant-loop-left
invariant-loop-left l = l.count + length (words_left l.left) ≡ length (words_left l.words)

abbrev pub decreases-loop-left : goal.decreases-loop-left
decreases-loop-left l = length (words_left l.left)
