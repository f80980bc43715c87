-- How many words a line has.
use Rattle.std.proofs.Common.{ℕ, ◌+◌, ◌≤◌, List, length, arith}
use Rattle.std.specs.Prelude.{◌==◌}
use Rattle.std.proofs.lemmas.List.Splits.{length-slice_split}
use Rattle.std.proofs.lemmas.List.Sums.{length-filter, count_by-le-length}
use Rattle.nfs_text.specs.Chunks.{chunks}
use Rattle.nfs_text.specs.Words.{words, is_word}

-- between two of them stands a space
pub words_few : (line : List ℕ) → length (words line) ≤ length line + 1
words_few line = omega (arith, length-filter is_word (chunks 32 line), count_by-le-length is_word (chunks 32 line), length-slice_split (λ byte. byte == 32) line, count_by-le-length (λ byte. byte == 32) line)
