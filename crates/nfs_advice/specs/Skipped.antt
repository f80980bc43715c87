-- Contents that are skipped of a text.
use Rattle.std.specs.Prelude.{ℕ, ◌^◌, ◌-◌, ◌/◌, ◌+◌, List, [], ◌∷◌, Option, Some, None, length, decimal, if◌then◌else◌, nat_eq}
use Rattle.nfs_text.specs.Numbers.{decimal_of}

-- NUL, which no line that is loaded has, and the number of bytes
abbrev pub mark : ℕ → List ℕ
mark bytes = 0 ∷ decimal bytes

abbrev pub or_none : Option ℕ → ℕ
or_none None = 0
or_none (Some bytes) = bytes

-- the bytes that a content says by two digits each, or what stands in its place
abbrev pub bytes_said : List ℕ → ℕ
bytes_said [] = 0
bytes_said (byte ∷ after) = if nat_eq byte 0 then or_none (decimal_of (2 ^ 64 - 1) after) else (length after + 1) / 2
