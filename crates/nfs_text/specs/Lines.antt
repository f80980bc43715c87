-- A text is lines, each with LF at its end, which the last may lack.
use Rattle.std.specs.Prelude.{ℕ, List, [], ◌∷◌, if◌then◌else◌, ◌==◌}
use Rattle.std.specs.List.{onto_first}
use Rattle.nfs_text.specs.declared.lines.Lines.{Lines}

-- the lines without their LF; the empty text has none
abbrev pub lines : List ℕ → List (List ℕ)
lines [] = []
lines (byte ∷ rest) = if byte == 10 then [] ∷ lines rest else onto_first byte (lines rest)

-- those that are to come
abbrev pub lines_left : Lines → List (List ℕ)
lines_left it = lines it.rest.now
