use Rattle.std.proofs.Common.{◌≡◌, length}
use Rattle.nfs_text.specs.Chunks.{chunks_left}
use Rattle.nfs_text.specs.Words.{words_left}
use Rattle.nfs_text.proofs.words.WordsIterator.next.Given as goal

abbrev pub invariant-loop-chunk : goal.invariant-loop-chunk
invariant-loop-chunk l = words_left l.self ≡ words_left l.fn.self

abbrev pub decreases-loop-chunk : goal.decreases-loop-chunk
decreases-loop-chunk l = length (chunks_left l.self.chunks)
