-- Lines that have not ended, of which the content of a file may be decoded.
use Rattle.std.specs.Prelude.{◌≡◌, ◌≢◌, ◌⊎◌, ◌<◌, ◌+◌, ◌*◌, length, ℕ, Bool, true, false, List, [], ◌∷◌, ◌++◌, Option, Some, None, Vec}
use Rattle.hex.specs.Hex.{IsBytes, encode_with, lower_digits, upper_digits}
use Rattle.nfs_content.specs.Limits.{max_content}
use Rattle.nfs_load.specs.Lines.{begins_file}
use Rattle.nfs_source.specs.declared.open_line.Case.{Case}
use Rattle.nfs_source.specs.declared.open_line.Case.TheVariants.{Lower, Upper}
use Rattle.nfs_source.specs.declared.open_line.DecodedLine.{DecodedLine}
use Rattle.nfs_source.specs.declared.open_line.EndedLine.{EndedLine}
use Rattle.nfs_source.specs.declared.open_line.EndedLine.TheVariants.{Plain, Decoded}

abbrev pub other_case : Case → Case
other_case Lower = Upper
other_case Upper = Lower

abbrev pub digits_of : Case → List ℕ
digits_of Lower = lower_digits
digits_of Upper = upper_digits

-- two digits for each byte, whose letters have this case
abbrev pub encode_in : Case → List ℕ → List ℕ
encode_in case bytes = encode_with (digits_of case) bytes

-- bytes that have the same digits in both cases
abbrev pub AreAlike : Case → Case → List ℕ → Type 0
AreAlike one other bytes = encode_in one bytes ≡ encode_in other bytes

-- these digits are those that bytes are written with in this case
abbrev pub IsCode : Case → List ℕ → List ℕ → Type 0
IsCode case bytes digits = (encode_in case bytes ≡ digits) × IsBytes bytes

abbrev pub IsNoCode : Case → List ℕ → Type 0
IsNoCode case digits = (bytes : List ℕ) → IsCode case bytes digits → ⊥

-- the bytes that digits say, and the case of their letters: this one, if it can be
abbrev pub Says : {Z : Type 0} → Case → List ℕ → Option (Vec ℕ Z × Case) → Type 0
Says case digits None = (any : Case) → IsNoCode any digits
Says case digits (Some it) = IsCode it.1 it.0.items digits × ((it.1 ≡ case) ⊎ IsNoCode case digits)

-- the bytes of a line whose content is decoded
abbrev pub text_of : DecodedLine → List ℕ
text_of line = line.words.items ++ 32 ∷ encode_in line.case line.content

-- what stands before the content is the begin of a file's line, and some of the content is decoded
pub record IsDecoded (line : DecodedLine) : Type 0 where
  pub words : begins_file line.words.items ≡ true
  pub bytes : IsBytes line.content
  pub some : line.content ≢ []

-- digits say no bytes in a case in which the content before them has the same digits
abbrev pub GoesOnInNoCase : DecodedLine → List ℕ → Type 0
GoesOnInNoCase line digits = (case : Case) → AreAlike case line.case line.content → IsNoCode case digits

-- Digits come after a line where they are taken. Where they aren't, it stays: the letters of all have no one case, or they
-- say too many bytes.
abbrev pub TakesDigits : DecodedLine → List ℕ → Bool → DecodedLine → Type 0
TakesDigits old digits true new = text_of new ≡ text_of old ++ digits
TakesDigits old digits false new = (text_of new ≡ text_of old) × (GoesOnInNoCase old digits ⊎ (2 * max_content < 2 * length old.content + length digits))

abbrev pub front_of : Option DecodedLine → List ℕ
front_of None = []
front_of (Some line) = text_of line

-- a line at its end has all bytes that came
abbrev pub IsEnded : EndedLine → List ℕ → Type 0
IsEnded (Plain line) bytes = line.items ≡ bytes
IsEnded (Decoded line) bytes = (text_of line ≡ bytes) × IsDecoded line
