-- Lines by their numbers.
use Rattle.std.specs.Prelude.{ℕ, zero, suc, List, [], ◌∷◌}

-- the line of a number, from 1; where there is none, no bytes
abbrev pub line_numbered : ℕ → List (List ℕ) → List ℕ
line_numbered number [] = []
line_numbered zero (line ∷ lines) = []
line_numbered (suc zero) (line ∷ lines) = line
line_numbered (suc (suc number)) (line ∷ lines) = line_numbered (suc number) lines
