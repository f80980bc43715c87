-- What is kept of a line.
use Rattle.std.specs.Prelude.{ℕ, ◌≤◌, length, Vec}

-- at most as many bytes as a line may have
abbrev pub IsShort : {Z : Type 0} → Vec ℕ Z → Type 0
IsShort line = length line.items ≤ 4096
