-- Names as a description writes them: each byte as it is, or by `%` and two hexadecimal digits.
use Rattle.std.specs.Prelude.{ℕ, ◌+◌, ◌*◌, ◌/◌, ◌%◌, Bool, not, false, ◌&&◌, List, [], ◌∷◌, length, Option, Some, None, option_map, Result, Ok, Err, if◌then◌else◌}
use Rattle.std.specs.Prelude.{nat_eq, nat_lt, nat_le, bytes_eq, codes}
use Rattle.std.specs.Char.{digit_value, is_digit}
use Rattle.std.specs.Fmt.{digit_glyph}
use Rattle.std.specs.List.{flat_map, list_all, list_any}
use Rattle.nfs_inodes.specs.Limits.{max_name_bytes}
use Rattle.nfs_inodes.specs.Tree.{on_some}
use Rattle.nfs_load.specs.declared.cause.Cause.{Cause}
use Rattle.nfs_load.specs.declared.cause.Cause.TheVariants.{BadNames}
use Rattle.nfs_load.specs.declared.name_form.NameForm.{NameForm}
use Rattle.nfs_load.specs.declared.name_form.NameForm.TheVariants.{Plain, Percent}

-- ---- with `%` and two digits

-- from `!` to `~`, but not `%`
abbrev pub is_plain : ℕ → Bool
is_plain byte = (nat_le 33 byte && nat_le byte 126) && not (nat_eq byte 37)

-- a byte of a name: itself, or `%` and two hexadecimal digits
abbrev pub name_byte : ℕ → List ℕ
name_byte byte = if is_plain byte then byte ∷ [] else 37 ∷ digit_glyph false (byte / 16) ∷ digit_glyph false (byte % 16) ∷ []

abbrev pub name_text : List ℕ → List ℕ
name_text name = flat_map name_byte name

-- the byte that two hexadecimal digits say
abbrev pub byte_of : ℕ → ℕ → Option ℕ
byte_of high low = if is_digit high 16 && is_digit low 16 then Some (digit_value high * 16 + digit_value low) else None

-- the bytes that a text stands for, where `%` and two hexadecimal digits stand for one; a `%` before anything else stands for nothing
unfoldable pub unescaped : List ℕ → Option (List ℕ)
unescaped [] = Some []
unescaped (byte ∷ []) = if nat_eq byte 37 then None else Some (byte ∷ [])
unescaped (byte ∷ other ∷ []) = if nat_eq byte 37 then None else option_map (λ bytes. byte ∷ bytes) (unescaped (other ∷ []))
unescaped (byte ∷ high ∷ low ∷ rest) =
    if nat_eq byte 37 then on_some (byte_of high low) None (λ it. option_map (λ bytes. it ∷ bytes) (unescaped rest))
    else option_map (λ bytes. byte ∷ bytes) (unescaped (high ∷ low ∷ rest))

-- the first byte that a text stands for, and the text after it
abbrev pub first_byte : List ℕ → Option (ℕ × List ℕ)
first_byte [] = None
first_byte (byte ∷ []) = if nat_eq byte 37 then None else Some (byte, [])
first_byte (byte ∷ other ∷ []) = if nat_eq byte 37 then None else Some (byte, other ∷ [])
first_byte (byte ∷ high ∷ low ∷ rest) = if nat_eq byte 37 then option_map (λ it. (it, rest)) (byte_of high low) else Some (byte, high ∷ low ∷ rest)

-- ---- names

-- the form that is said by a word, where none was said before
abbrev pub form_in : NameForm → List ℕ → Result NameForm Cause
form_in Plain field = if bytes_eq field (codes "percent") then Ok Percent else Err BadNames
form_in Percent field = Err BadNames

-- the byte `%`
abbrev pub has_percent : List ℕ → Bool
has_percent text = list_any (λ byte. nat_eq byte 37) text

-- neither 0 nor `/`
abbrev pub is_name_byte : ℕ → Bool
is_name_byte byte = not (nat_eq byte 0) && not (nat_eq byte 47)

-- 1 to 255 bytes, none 0 or `/`, neither `.` nor `..`
abbrev pub is_name : List ℕ → Bool
is_name name = (nat_lt 0 (length name) && nat_le (length name) max_name_bytes)
    && ((not (bytes_eq name (codes ".")) && not (bytes_eq name (codes ".."))) && list_all is_name_byte name)

abbrev pub if_name : List ℕ → Option (List ℕ)
if_name name = if is_name name then Some name else None

-- the bytes that a component of a path stands for
abbrev pub component_in : NameForm → List ℕ → Option (List ℕ)
component_in Plain text = if has_percent text then None else Some text
component_in Percent text = unescaped text

-- the name that it stands for, where it stands for one
abbrev pub name_in : NameForm → List ℕ → Option (List ℕ)
name_in form text = on_some (component_in form text) None if_name

-- the names that components stand for, where each stands for one
abbrev pub names_in : NameForm → List (List ℕ) → Option (List (List ℕ))
names_in form [] = Some []
names_in form (text ∷ texts) = on_some (name_in form text) None (λ name. option_map (λ names. name ∷ names) (names_in form texts))

-- the same, where each is known to stand for one
abbrev pub the_names : NameForm → List (List ℕ) → List (List ℕ)
the_names form texts = on_some (names_in form texts) [] (λ names. names)

-- ---- what symbolic links hold

-- what a field says that a link holds; with escapes, `%` alone says that it holds nothing
abbrev pub held_in : NameForm → List ℕ → Option (List ℕ)
held_in Plain field = Some field
held_in Percent field = if bytes_eq field (codes "%") then Some [] else unescaped field

-- of at most so many bytes
abbrev pub at_most : ℕ → Option (List ℕ) → Option (List ℕ)
at_most most held = on_some held None (λ bytes. if nat_le (length bytes) most then Some bytes else None)
