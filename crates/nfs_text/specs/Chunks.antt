-- A text is chunks with a separator between each two.
use Rattle.std.specs.Prelude.{ℕ, List, [], ◌∷◌, Option, Some, None, if◌then◌else◌, ◌==◌}
use Rattle.std.specs.List.{slice_split}
use Rattle.std.specs.Option.{option_map_or}
use Rattle.nfs_text.specs.declared.chunks.Chunks.{Chunks}

-- what stands before the first separator, and what stands after it where there is one
abbrev pub cut : ℕ → List ℕ → List ℕ × Option (List ℕ)
cut separator [] = ([], None)
cut separator (byte ∷ rest) = if byte == separator then ([], Some rest) else (byte ∷ (cut separator rest).0, (cut separator rest).1)

-- all chunks, at least one
abbrev pub chunks : ℕ → List ℕ → List (List ℕ)
chunks separator text = slice_split (λ byte. byte == separator) text

-- those that are to come
abbrev pub chunks_left : Chunks → List (List ℕ)
chunks_left it = option_map_or (λ rest. chunks it.separator rest.now) it.rest []
