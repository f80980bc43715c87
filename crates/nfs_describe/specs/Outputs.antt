-- What an output takes, part by part.
use Rattle.std.specs.Prelude.{ℕ, List, ◌++◌}

-- it has these bytes too, after those that it had
abbrev pub Takes : {O : Type 0} → (O → List ℕ → Type 0) → O → List ℕ → O → Type 0
Takes has old text new = (before : List ℕ) → has old before → has new (before ++ text)
