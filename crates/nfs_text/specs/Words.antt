-- The words of a line are separated by one or more spaces.
use Rattle.std.specs.Prelude.{ℕ, Bool, List, length, nat_lt}
use Rattle.std.specs.List.{filter}
use Rattle.nfs_text.specs.Chunks.{chunks, chunks_left}
use Rattle.nfs_text.specs.declared.words.Words.{Words}

abbrev pub is_word : List ℕ → Bool
is_word chunk = nat_lt 0 (length chunk)

-- the chunks between spaces in which something stands
abbrev pub words : List ℕ → List (List ℕ)
words text = filter is_word (chunks 32 text)

-- those that are to come
abbrev pub words_left : Words → List (List ℕ)
words_left it = filter is_word (chunks_left it.chunks)
