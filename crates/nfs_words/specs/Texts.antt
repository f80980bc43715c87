-- What is put at the end of a text.
use Rattle.std.specs.Prelude.{◌≡◌, ℕ, ◌+◌, ◌-◌, ◌/◌, ◌%◌, Bool, false, not, ◌&&◌, List, [], ◌∷◌, ◌++◌, if◌then◌else◌, nat_eq, nat_le, nat_lt}
use Rattle.std.specs.List.{flat_map}

-- what was put, and whether there was no memory for a part of it
pub record Put : Type 0 where
  pub bytes : List ℕ
  pub is_short : Bool

-- where there is memory for all of it, these bytes are put after what stood there
abbrev pub Puts : List ℕ → Put → Put → Type 0
Puts bytes old new = new.is_short ≡ false → (old.is_short ≡ false) × (new.bytes ≡ old.bytes ++ bytes)

-- ---- bytes in words

-- the digit for a value below 16
abbrev pub digit : ℕ → ℕ
digit value = if nat_lt value 10 then 48 + value else 97 + (value - 10)

abbrev pub hex_byte : ℕ → List ℕ
hex_byte byte = digit (byte / 16) ∷ digit (byte % 16) ∷ []

abbrev pub hex_text : List ℕ → List ℕ
hex_text bytes = flat_map hex_byte bytes

-- from `!` to `~`, but not `%`
abbrev pub is_plain : ℕ → Bool
is_plain byte = (nat_le 33 byte && nat_le byte 126) && not (nat_eq byte 37)

-- a byte of a name: itself, or `%` and two hexadecimal digits
abbrev pub name_byte : ℕ → List ℕ
name_byte byte = if is_plain byte then byte ∷ [] else 37 ∷ hex_byte byte

abbrev pub name_text : List ℕ → List ℕ
name_text name = flat_map name_byte name
