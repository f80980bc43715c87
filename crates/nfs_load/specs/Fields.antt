-- Fields that are a key or numbers: the value, or the cause.
use Rattle.std.specs.Prelude.{◌≡◌, ◌≢◌, ◌%◌, ℕ, Bool, true, false, ◌&&◌, List, [], ◌∷◌, length, Option, Some, None, Result, Ok, Err}
use Rattle.std.specs.Prelude.{if◌then◌else◌, nat_lt, nat_le, bytes_eq, codes}
use Rattle.std.specs.List.{list_all}
use Rattle.std.specs.Str.Parse.{digits_value}
use Rattle.hex.specs.Hex.{decode_of, decode_sized, is_hex_digit}
use Rattle.hex.specs.declared.error.FromHexError.{FromHexError}
use Rattle.nfs_text.specs.Numbers.{decimal_of}
use Rattle.nfs_exports.specs.Options.{default_options}
use Rattle.nfs_exports.specs.Settings.{parse_options}
use Rattle.nfs_exports.specs.Patterns.{pattern_of}
use Rattle.nfs_exports.specs.declared.options.Options.{Options}
use Rattle.nfs_exports.specs.declared.options.OptionsFault.{OptionsFault}
use Rattle.nfs_exports.specs.declared.pattern.Pattern.{Pattern}
use Rattle.nfs_load.specs.Names.{at_most, held_in}
use Rattle.nfs_load.specs.declared.name_form.NameForm.{NameForm}
use Rattle.nfs_load.specs.declared.cause.Cause.{Cause}
use Rattle.nfs_load.specs.declared.refusal.Refusal.{Refusal}
use Rattle.nfs_load.specs.declared.refusal.Refusal.TheVariants.{Fault, Memory}
use Rattle.nfs_load.specs.declared.cause.Cause.TheVariants.{FieldCount, BadKey, BadNumber, BadPattern, BadOptions, BadContent}

abbrev pub keyed : Result (List ℕ) FromHexError → Result (List ℕ) Cause
keyed (Ok key) = Ok key
keyed (Err e) = Err BadKey

-- 16 hexadecimal digits, two for each of 8 bytes
abbrev pub key_in : List ℕ → Result (List ℕ) Cause
key_in field = keyed (decode_sized field 8)

abbrev pub is_octal_digit : ℕ → Bool
is_octal_digit byte = nat_le 48 byte && nat_le byte 55

-- one to four octal digits
abbrev pub is_mode : List ℕ → Bool
is_mode field = nat_lt 0 (length field) && (nat_le (length field) 4 && list_all is_octal_digit field)

abbrev pub mode_in : List ℕ → Result ℕ Cause
mode_in field = if is_mode field then Ok (digits_value 8 field) else Err BadNumber

abbrev pub at_least : ℕ → Option ℕ → Result ℕ Cause
at_least min None = Err BadNumber
at_least min (Some number) = if nat_le min number then Ok number else Err BadNumber

-- decimal digits that say a number from min to max
abbrev pub number_in : ℕ → ℕ → List ℕ → Result ℕ Cause
number_in min max field = at_least min (decimal_of max field)

abbrev pub target_or_cause : Option (List ℕ) → Result (List ℕ) Cause
target_or_cause None = Err BadContent
target_or_cause (Some target) = Ok target

-- what a symbolic link holds: at most so many bytes
abbrev pub target_in : NameForm → ℕ → List ℕ → Result (List ℕ) Cause
target_in form most field = target_or_cause (at_most most (held_in form field))

abbrev pub found_pattern : Option Pattern → Result Pattern Cause
found_pattern None = Err BadPattern
found_pattern (Some pattern) = Ok pattern

abbrev pub pattern_in : List ℕ → Result Pattern Cause
pattern_in field = found_pattern (pattern_of field)

abbrev pub options_or_cause : Result Options OptionsFault → Result Options Cause
options_or_cause (Ok options) = Ok options
options_or_cause (Err fault) = Err BadOptions

abbrev pub options_in : List ℕ → Result Options Cause
options_in field = options_or_cause (parse_options field)

abbrev pub within : ℕ → Result (List ℕ) FromHexError → Result (List ℕ) Cause
within most (Ok content) = if nat_le (length content) most then Ok content else Err BadContent
within most (Err e) = Err BadContent

-- two hexadecimal digits for each of at most so many bytes, or `-` for none
abbrev pub content_in : ℕ → List ℕ → Result (List ℕ) Cause
content_in most field = if bytes_eq field (codes "-") then Ok [] else within most (decode_of field)

-- ---- the fields of a line from left to right

infixl 20 ◌>>=◌
abbrev pub ◌>>=◌ : {A B E : Type 0} → Result A E → (A → Result B E) → Result B E
(Ok x) >>= f = f x
(Err e) >>= f = Err e

abbrev pub after : {A : Type 0} → List (List ℕ) → Result A Cause → Result (A × List (List ℕ)) Cause
after rest (Ok value) = Ok (value, rest)
after rest (Err cause) = Err cause

-- the value of the next field, and the fields after it
abbrev pub by : {A : Type 0} → (List ℕ → Result A Cause) → List (List ℕ) → Result (A × List (List ℕ)) Cause
by read [] = Err FieldCount
by read (field ∷ rest) = after rest (read field)

-- options, or those that hold where nothing is said
abbrev pub options_at : List (List ℕ) → Result (Options × List (List ℕ)) Cause
options_at [] = Ok (default_options, [])
options_at (field ∷ rest) = after rest (options_in field)

-- What was answered, seen by view, is what reading gives, with these fields left. A fault may have taken some.
abbrev pub Takes : {X A : Type 0} → (X → A) → List (List ℕ) → Result X Cause → Result (A × List (List ℕ)) Cause → Type 0
Takes view rest (Ok x) read = read ≡ Ok (view x, rest)
Takes view rest (Err cause) read = read ≡ Err cause

-- The same, where there may be no memory, which is wanted only there.
abbrev pub GivesIfRoom : {X A : Type 0} → (X → A) → Type 0 → Result X Refusal → Result A Cause → Type 0
GivesIfRoom view Wants (Ok x) read = read ≡ Ok (view x)
GivesIfRoom view Wants (Err (Fault cause)) read = read ≡ Err cause
GivesIfRoom view Wants (Err Memory) read = Wants

abbrev pub TakesIfRoom : {X A : Type 0} → (X → A) → Type 0 → List (List ℕ) → Result X Refusal → Result (A × List (List ℕ)) Cause → Type 0
TakesIfRoom view Wants rest (Ok x) read = read ≡ Ok (view x, rest)
TakesIfRoom view Wants rest (Err (Fault cause)) read = read ≡ Err cause
TakesIfRoom view Wants rest (Err Memory) read = Wants

-- a content that takes memory: a field that says bytes
abbrev pub SaysBytes : ℕ → List ℕ → Type 0
SaysBytes most field = (bytes_eq field (codes "-") ≡ false) × (content : List ℕ) × (content_in most field ≡ Ok content)

-- a field of digits, of either case, that says these bytes
abbrev pub Encodes : List ℕ → List ℕ → Type 0
Encodes digits content = (digits ≢ []) × (decode_of digits ≡ Ok content)

-- two hexadecimal digits for each byte
abbrev pub ArePairs : List ℕ → Type 0
ArePairs field = (length field % 2 ≡ 0) × (list_all is_hex_digit field ≡ true)

-- what holds of the next field, which is there
abbrev pub OfNext : (List ℕ → Type 0) → List (List ℕ) → Type 0
OfNext Holds [] = ⊥
OfNext Holds (field ∷ rest) = Holds field
