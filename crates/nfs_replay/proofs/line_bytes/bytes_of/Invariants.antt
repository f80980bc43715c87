use Rattle.std.proofs.Common.{◌≡◌, length}
use Rattle.nfs_text.specs.Words.{words_left}
use Rattle.nfs_replay.specs.Scripts.{bytes_in, onto}
use Rattle.nfs_replay.proofs.line_bytes.bytes_of.Given as goal

abbrev pub invariant-loop-word : goal.invariant-loop-word
invariant-loop-word l = onto l.bytes.items (bytes_in l.tree (words_left l.left)) ≡ bytes_in l.tree (words_left l.words)

abbrev pub decreases-loop-word : goal.decreases-loop-word
decreases-loop-word l = length (words_left l.left)
