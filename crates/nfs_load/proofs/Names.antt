-- Names that are written with escapes are read again, and what is read are bytes.
use Rattle.std.proofs.Common.{◌≡◌, ◌≢◌, ℕ, zero, suc, ◌+◌, ◌*◌, ◌/◌, ◌%◌, ◌<◌, ◌≤◌, ◌==◌, ◌&&◌, Bool, true, false, cond, List, [], ◌∷◌, ◌++◌, length, map, Option, Some, None, option_map, refl, sym, ap, subst, ◌∙◌, arith}
use Rattle.std.specs.Prelude.{All, nat_eq, nat_le, nat_lt, not, bytes_eq, codes, if◌then◌else◌}
use Rattle.std.specs.Char.{digit_value, is_digit}
use Rattle.std.specs.Fmt.{digit_glyph}
use Rattle.std.specs.List.{list_all, onto_first}
use Rattle.std.proofs.lemmas.Bool.{and_from, and_left, and_parts, eqb-true, le-leb, lt-ltb, ltb-true, not-true}
use Rattle.std.proofs.lemmas.Bool.Decides.{nat_tests}
use Rattle.std.proofs.lemmas.List.Elements.{All-cons, All-head, All-nil, All-tail}
use Rattle.std.proofs.lemmas.List.Folds.{list_all-append}
use Rattle.std.proofs.lemmas.Str.{digit_value-digit_char}
use Rattle.hex.specs.Hex.{IsBytes}
use Rattle.nfs_inodes.specs.Tree.{on_some}
use Rattle.nfs_text.specs.Chunks.{chunks}
use Rattle.nfs_load.specs.Names.{byte_of, component_in, first_byte, has_percent, held_in, if_name, is_name, is_plain, name_byte, name_in, name_text, names_in, unescaped}
use Rattle.nfs_load.specs.declared.name_form.NameForm.{NameForm}
use Rattle.nfs_load.specs.declared.name_form.NameForm.TheVariants.{Plain, Percent}

-- ---- bytes

pub bytes_cons : (byte : ℕ) (bytes : List ℕ) → byte < 256 → IsBytes bytes → IsBytes (byte ∷ bytes)
bytes_cons byte bytes less are zero = less
bytes_cons byte bytes less are (suc i) = are i

pub bytes_none : IsBytes []
bytes_none i = omega arith

pub bytes_rest : (byte : ℕ) (bytes : List ℕ) → IsBytes (byte ∷ bytes) → IsBytes bytes
bytes_rest byte bytes are i = are (suc i)

pub bytes_append : (xs ys : List ℕ) → IsBytes xs → IsBytes ys → IsBytes (xs ++ ys)
bytes_append [] ys one two = two
bytes_append (x ∷ xs) ys one two = bytes_cons x (xs ++ ys) (one zero) (bytes_append xs ys (bytes_rest x xs one) two)

-- from a fact of each element, and to it
pub bytes_from_All : (bytes : List ℕ) → All (λ byte. byte < 256) bytes → IsBytes bytes
bytes_from_All [] all = bytes_none
bytes_from_All (byte ∷ bytes) all =
    bytes_cons byte bytes (All-head (λ byte. byte < 256) byte bytes all) (bytes_from_All bytes (All-tail (λ byte. byte < 256) byte bytes all))

pub All_from_bytes : (bytes : List ℕ) → IsBytes bytes → All (λ byte. byte < 256) bytes
All_from_bytes [] are = All-nil (λ byte. byte < 256)
All_from_bytes (byte ∷ bytes) are = All-cons (λ byte. byte < 256) byte bytes (are zero) (All_from_bytes bytes (bytes_rest byte bytes are))

-- ---- the first byte that a text stands for

-- a byte, and then what the rest stands for
abbrev pub then_rest : Option (ℕ × List ℕ) → Option (List ℕ)
then_rest first = on_some first None (λ s. option_map (λ bytes. s.0 ∷ bytes) (unescaped s.1))

alone : (byte : ℕ) (is : Bool) → (if is then None else Some (byte ∷ [])) ≡ then_rest (if is then None else Some (byte, []))
unfolding unescaped
alone byte true = refl
alone byte false = refl

of_two : (byte other : ℕ) (is : Bool)
    → (if is then None else option_map (λ bytes. byte ∷ bytes) (unescaped (other ∷ []))) ≡ then_rest (if is then None else Some (byte, other ∷ []))
of_two byte other true = refl
of_two byte other false = refl

of_more : (byte high low : ℕ) (rest : List ℕ) (is : Bool) (said : Option ℕ)
    → (if is then on_some said None (λ it. option_map (λ bytes. it ∷ bytes) (unescaped rest)) else option_map (λ bytes. byte ∷ bytes) (unescaped (high ∷ low ∷ rest)))
    ≡ then_rest (if is then option_map (λ it. (it, rest)) said else Some (byte, high ∷ low ∷ rest))
of_more byte high low rest true None = refl
of_more byte high low rest true (Some it) = refl
of_more byte high low rest false said = refl

pub unescaped_first : (byte : ℕ) (rest : List ℕ) → unescaped (byte ∷ rest) ≡ then_rest (first_byte (byte ∷ rest))
unfolding unescaped
unescaped_first byte [] = alone byte (nat_eq byte 37)
unescaped_first byte (other ∷ []) = of_two byte other (nat_eq byte 37)
unescaped_first byte (high ∷ low ∷ rest) = of_more byte high low rest (nat_eq byte 37) (byte_of high low)

same : {X : Type 0} {a b : X} → Some a ≡ Some b → a ≡ b
same e = cc

-- where a byte is first
pub unescaped_at : (text : List ℕ) (byte : ℕ) (after : List ℕ) → first_byte text ≡ Some (byte, after) → unescaped text ≡ option_map (λ bytes. byte ∷ bytes) (unescaped after)
unescaped_at [] byte after e = cc
unescaped_at (first ∷ rest) byte after e = unescaped_first first rest ∙ ap then_rest e

-- where none is
pub unescaped_nowhere : (text : List ℕ) → text ≢ [] → first_byte text ≡ None → unescaped text ≡ None
unescaped_nowhere [] some e = absurd (some refl)
unescaped_nowhere (first ∷ rest) some e = unescaped_first first rest ∙ ap then_rest e

abbrev pair : ℕ → List ℕ → ℕ × List ℕ
pair byte after = (byte, after)

-- what stands after it is shorter
less_left : (first : ℕ) (left : List ℕ) (byte : ℕ) (after : List ℕ) (n : ℕ) → Some (pair first left) ≡ Some (pair byte after) → length left < n → length after < n
less_left first left byte after n e less = subst (λ l. length l < n) (ap (λ (s : ℕ × List ℕ). s.1) (same e)) less

pub less_after : (text : List ℕ) (byte : ℕ) (after : List ℕ) → first_byte text ≡ Some (byte, after) → length after < length text
less_after [] byte after e = cc
less_after (first ∷ []) byte after e = of (nat_eq first 37) e
  where
    of : (is : Bool) → (if is then None else Some (pair first [])) ≡ Some (byte, after) → length after < length (first ∷ [])
    of true e = cc
    of false e = less_left first [] byte after _ e (omega arith)
less_after (first ∷ other ∷ []) byte after e = of (nat_eq first 37) e
  where
    of : (is : Bool) → (if is then None else Some (pair first (other ∷ []))) ≡ Some (byte, after) → length after < length (first ∷ other ∷ [])
    of true e = cc
    of false e = less_left first (other ∷ []) byte after _ e (omega arith)
less_after (first ∷ high ∷ low ∷ rest) byte after e = of (nat_eq first 37) (byte_of high low) e
  where
    of : (is : Bool) (said : Option ℕ) → (if is then option_map (λ it. pair it rest) said else Some (pair first (high ∷ low ∷ rest))) ≡ Some (byte, after)
        → length after < length (first ∷ high ∷ low ∷ rest)
    of true None e = cc
    of true (Some it) e = less_left it rest byte after _ e (omega arith)
    of false said e = less_left first (high ∷ low ∷ rest) byte after _ e (omega arith)

-- a byte that stands for itself
pub unescaped_plain : (byte : ℕ) (rest : List ℕ) → nat_eq byte 37 ≡ false → unescaped (byte ∷ rest) ≡ option_map (λ bytes. byte ∷ bytes) (unescaped rest)
unfolding unescaped
unescaped_plain byte [] e = ap (λ is. cond is None (Some (byte ∷ []))) e
unescaped_plain byte (other ∷ []) e = ap (λ is. cond is None (option_map (λ bytes. byte ∷ bytes) (unescaped (other ∷ [])))) e
unescaped_plain byte (high ∷ low ∷ rest) e =
    ap (λ is. cond is (on_some (byte_of high low) None (λ it. option_map (λ bytes. it ∷ bytes) (unescaped rest))) (option_map (λ bytes. byte ∷ bytes) (unescaped (high ∷ low ∷ rest)))) e

-- two digits that stand for one
pub unescaped_digits : (high low : ℕ) (rest : List ℕ) (byte : ℕ) → byte_of high low ≡ Some byte → unescaped (37 ∷ high ∷ low ∷ rest) ≡ option_map (λ bytes. byte ∷ bytes) (unescaped rest)
unfolding unescaped
unescaped_digits high low rest byte e = ap (λ said. on_some said None (λ it. option_map (λ bytes. it ∷ bytes) (unescaped rest))) e

-- ---- the digits of a byte

-- a byte as it is written: as it is, or by digits
abbrev byte_text : Bool → ℕ → List ℕ
byte_text is byte = if is then byte ∷ [] else 37 ∷ digit_glyph false (byte / 16) ∷ digit_glyph false (byte % 16) ∷ []

digit_again : (value : ℕ) → value < 16 → digit_value (digit_glyph false value) ≡ value
digit_again value less = digit_value-digit_char value (omega (arith, less))

byte_from : (high low byte : ℕ) → high < 16 → low < 16 → high * 16 + low ≡ byte → (if nat_lt high 16 && nat_lt low 16 then Some (high * 16 + low) else None) ≡ Some byte
byte_from high low byte one two e =
    ap (λ both. cond both (Some (high * 16 + low)) None) (and_from (nat_lt high 16) (nat_lt low 16) (lt-ltb high 16 one) (lt-ltb low 16 two)) ∙ ap Some e

byte_again : (byte : ℕ) → byte < 256 → byte_of (digit_glyph false (byte / 16)) (digit_glyph false (byte % 16)) ≡ Some byte
byte_again byte less =
    let high : byte / 16 < 16 = omega (arith, less) in
    let low : byte % 16 < 16 = omega arith in
    let first : digit_value (digit_glyph false (byte / 16)) ≡ byte / 16 = digit_again (byte / 16) high in
    let second : digit_value (digit_glyph false (byte % 16)) ≡ byte % 16 = digit_again (byte % 16) low in
    ap (λ v. if nat_lt v 16 && nat_lt (digit_value (digit_glyph false (byte % 16))) 16 then Some (v * 16 + digit_value (digit_glyph false (byte % 16))) else None) first
    ∙ ap (λ v. if nat_lt (byte / 16) 16 && nat_lt v 16 then Some (byte / 16 * 16 + v) else None) second
    ∙ byte_from (byte / 16) (byte % 16) byte high low (omega arith)

no_percent_plain : (byte : ℕ) → is_plain byte ≡ true → nat_eq byte 37 ≡ false
no_percent_plain byte e = grind (arith, nat_tests)

-- a name as it is written is read again
again : (byte : ℕ) (rest : List ℕ) (text : List ℕ) (is : Bool) → is_plain byte ≡ is → byte < 256 → unescaped text ≡ Some rest → unescaped (byte_text is byte ++ text) ≡ Some (byte ∷ rest)
again byte rest text true e less before = unescaped_plain byte text (no_percent_plain byte e) ∙ ap (option_map (λ bytes. byte ∷ bytes)) before
again byte rest text false e less before =
    unescaped_digits (digit_glyph false (byte / 16)) (digit_glyph false (byte % 16)) text byte (byte_again byte less) ∙ ap (option_map (λ bytes. byte ∷ bytes)) before

pub unescaped_name_text : (name : List ℕ) → IsBytes name → unescaped (name_text name) ≡ Some name
unfolding unescaped
unescaped_name_text [] are = refl
unescaped_name_text (byte ∷ name) are = again byte name (name_text name) (is_plain byte) refl (are zero) (unescaped_name_text name (bytes_rest byte name are))

-- ---- the bytes of a written name

digit_within : (value : ℕ) (is : Bool) → nat_lt value 10 ≡ is → value < 16 → (48 ≤ cond is (48 + value) (87 + value)) × (cond is (48 + value) (87 + value) ≤ 102)
digit_within value true e less = let few : value < 10 = ltb-true value 10 e in (omega arith, omega (arith, few))
digit_within value false e less = (omega arith, omega (arith, less))

within : (value : ℕ) → value < 16 → (48 ≤ digit_glyph false value) × (digit_glyph false value ≤ 102)
within value less = digit_within value (nat_lt value 10) refl less

shown : (byte : ℕ) → (48 ≤ byte) × (byte ≤ 102) → (nat_le 33 byte && nat_le byte 126) ≡ true
shown byte is = and_from (nat_le 33 byte) (nat_le byte 126) (le-leb 33 byte (omega (arith, is.0))) (le-leb byte 126 (omega (arith, is.1)))

no_slash : (byte : ℕ) → (48 ≤ byte) × (byte ≤ 102) → not (nat_eq byte 47) ≡ true
no_slash byte is = let above : 48 ≤ byte = is.0 in grind (arith, nat_tests)

-- a test that each byte of a name passes as it is written
abbrev Passes : (ℕ → Bool) → ℕ → Type 0
Passes test byte = (is_plain byte ≡ true → test byte ≡ true) × (test 37 ≡ true) × ((digit : ℕ) → (48 ≤ digit) × (digit ≤ 102) → test digit ≡ true)

byte_passes : (test : ℕ → Bool) (byte : ℕ) (is : Bool) → is_plain byte ≡ is → byte < 256 → Passes test byte → list_all test (byte_text is byte) ≡ true
byte_passes test byte true e less passes = and_from (test byte) true (passes.0 e) refl
byte_passes test byte false e less passes =
    and_from (test 37) (test (digit_glyph false (byte / 16)) && (test (digit_glyph false (byte % 16)) && true)) passes.1
    (and_from (test (digit_glyph false (byte / 16))) (test (digit_glyph false (byte % 16)) && true) (passes.2 (digit_glyph false (byte / 16)) (within (byte / 16) (omega (arith, less))))
    (and_from (test (digit_glyph false (byte % 16))) true (passes.2 (digit_glyph false (byte % 16)) (within (byte % 16) (omega arith))) refl))

both_pass : (test : ℕ → Bool) (xs ys : List ℕ) → list_all test xs ≡ true → list_all test ys ≡ true → list_all test (xs ++ ys) ≡ true
both_pass test xs ys one two = list_all-append test xs ys ∙ and_from (list_all test xs) (list_all test ys) one two

-- from `!` to `~`
pub name_text_shown : (name : List ℕ) → IsBytes name → list_all (λ byte. nat_le 33 byte && nat_le byte 126) (name_text name) ≡ true
name_text_shown [] are = refl
name_text_shown (byte ∷ name) are =
    both_pass (λ byte. nat_le 33 byte && nat_le byte 126) (name_byte byte) (name_text name)
    (byte_passes (λ byte. nat_le 33 byte && nat_le byte 126) byte (is_plain byte) refl (are zero)
    (λ plain. (and_parts (nat_le 33 byte && nat_le byte 126) (not (nat_eq byte 37)) plain).0, refl, shown))
    (name_text_shown name (bytes_rest byte name are))

-- and none is `/` where the name has none
pub name_text_no_slash : (name : List ℕ) → IsBytes name → list_all (λ byte. not (nat_eq byte 47)) name ≡ true → list_all (λ byte. not (nat_eq byte 47)) (name_text name) ≡ true
name_text_no_slash [] are none = refl
name_text_no_slash (byte ∷ name) are none =
    let parts = and_parts (not (nat_eq byte 47)) (list_all (λ byte. not (nat_eq byte 47)) name) none in
    both_pass (λ byte. not (nat_eq byte 47)) (name_byte byte) (name_text name)
    (byte_passes (λ byte. not (nat_eq byte 47)) byte (is_plain byte) refl (are zero) (λ plain. parts.0, refl, no_slash))
    (name_text_no_slash name (bytes_rest byte name are) parts.1)

-- ---- what stands between slashes

-- a byte that is no slash goes to the first of what stands between slashes
pub no_cut : (byte : ℕ) (rest : List ℕ) → (byte == 47) ≡ false → chunks 47 (byte ∷ rest) ≡ onto_first byte (chunks 47 rest)
no_cut byte rest e = ap (λ is. cond is ([] ∷ chunks 47 rest) (onto_first byte (chunks 47 rest))) e

abbrev onto_text : Bool → ℕ → List (List ℕ) → List (List ℕ)
onto_text true byte parts = onto_first byte parts
onto_text false byte parts = onto_first 37 (onto_first (digit_glyph false (byte / 16)) (onto_first (digit_glyph false (byte % 16)) parts))

digit_no_slash : (value : ℕ) → value < 16 → (digit_glyph false value == 47) ≡ false
digit_no_slash value less = of (digit_glyph false value) (within value less)
  where
    of : (digit : ℕ) → (48 ≤ digit) × (digit ≤ 102) → (digit == 47) ≡ false
    of digit is = let above : 48 ≤ digit = is.0 in grind (arith, nat_tests)

text_not_cut : (byte : ℕ) (is : Bool) (rest : List ℕ) → (byte == 47) ≡ false → byte < 256 → chunks 47 (byte_text is byte ++ rest) ≡ onto_text is byte (chunks 47 rest)
text_not_cut byte true rest e less = no_cut byte rest e
text_not_cut byte false rest e less =
    let high = digit_glyph false (byte / 16) in let low = digit_glyph false (byte % 16) in
    no_cut 37 (high ∷ low ∷ rest) refl
    ∙ ap (onto_first 37) (no_cut high (low ∷ rest) (digit_no_slash (byte / 16) (omega (arith, less))) ∙ ap (onto_first high) (no_cut low rest (digit_no_slash (byte % 16) (omega arith))))

onto_written : (byte : ℕ) (is : Bool) (parts : List (List ℕ)) → is_plain byte ≡ is → onto_text is byte (map name_text parts) ≡ map name_text (onto_first byte parts)
onto_written byte true [] e = ap (λ is. (byte_text is byte ++ []) ∷ []) (sym e)
onto_written byte true (part ∷ parts) e = ap (λ is. (byte_text is byte ++ name_text part) ∷ map name_text parts) (sym e)
onto_written byte false [] e = ap (λ is. (byte_text is byte ++ []) ∷ []) (sym e)
onto_written byte false (part ∷ parts) e = ap (λ is. (byte_text is byte ++ name_text part) ∷ map name_text parts) (sym e)

-- a slash is written as itself, and no other byte with one
pub chunks_name_text : (path : List ℕ) → IsBytes path → chunks 47 (name_text path) ≡ map name_text (chunks 47 path)
chunks_name_text [] are = refl
chunks_name_text (byte ∷ path) are = of (byte == 47) refl (chunks_name_text path (bytes_rest byte path are))
  where
    of : (is : Bool) → (byte == 47) ≡ is → chunks 47 (name_text path) ≡ map name_text (chunks 47 path) → chunks 47 (name_text (byte ∷ path)) ≡ map name_text (chunks 47 (byte ∷ path))
    of true e before =
        ap (λ (b : ℕ). chunks 47 (name_byte b ++ name_text path)) (eqb-true byte 47 e) ∙ ap (λ parts. [] ∷ parts) before
        ∙ ap (λ is. map name_text (cond is ([] ∷ chunks 47 path) (onto_first byte (chunks 47 path)))) (sym e)
    of false e before =
        text_not_cut byte (is_plain byte) (name_text path) e (are zero) ∙ ap (onto_text (is_plain byte) byte) before ∙ onto_written byte (is_plain byte) (chunks 47 path) refl
        ∙ ap (λ is. map name_text (cond is ([] ∷ chunks 47 path) (onto_first byte (chunks 47 path)))) (sym e)

-- what stands between slashes are bytes
onto_bytes : (byte : ℕ) (parts : List (List ℕ)) → byte < 256 → All IsBytes parts → All IsBytes (onto_first byte parts)
onto_bytes byte [] less all = All-cons IsBytes (byte ∷ []) [] (bytes_cons byte [] less bytes_none) (All-nil IsBytes)
onto_bytes byte (part ∷ parts) less all =
    All-cons IsBytes (byte ∷ part) parts (bytes_cons byte part less (All-head IsBytes part parts all)) (All-tail IsBytes part parts all)

pub chunks_bytes : (path : List ℕ) → IsBytes path → All IsBytes (chunks 47 path)
chunks_bytes [] are = All-cons IsBytes [] [] bytes_none (All-nil IsBytes)
chunks_bytes (byte ∷ path) are = of (byte == 47) (chunks_bytes path (bytes_rest byte path are))
  where
    of : (is : Bool) → All IsBytes (chunks 47 path) → All IsBytes (cond is ([] ∷ chunks 47 path) (onto_first byte (chunks 47 path)))
    of true all = All-cons IsBytes [] (chunks 47 path) bytes_none all
    of false all = onto_bytes byte (chunks 47 path) (are zero) all

-- ---- names are read again

if_name_is : (name : List ℕ) → is_name name ≡ true → if_name name ≡ Some name
if_name_is name e = ap (λ is. cond is (Some name) None) e

-- the first name, and those after it
abbrev pub names_from : Option (List ℕ) → Option (List (List ℕ)) → Option (List (List ℕ))
names_from first after = on_some first None (λ name. option_map (λ names. name ∷ names) after)

names_read : (form : NameForm) (text : List ℕ) (texts : List (List ℕ)) (name : List ℕ) (names : List (List ℕ))
    → name_in form text ≡ Some name → names_in form texts ≡ Some names → names_in form (text ∷ texts) ≡ Some (name ∷ names)
names_read form text texts name names one rest = ap (λ first. names_from first (names_in form texts)) one ∙ ap (names_from (Some name)) rest

pub name_read_percent : (name : List ℕ) → IsBytes name → is_name name ≡ true → name_in Percent (name_text name) ≡ Some name
name_read_percent name are e = ap (λ said. on_some said None if_name) (unescaped_name_text name are) ∙ if_name_is name e

pub names_read_percent : (names : List (List ℕ)) → All IsBytes names → list_all is_name names ≡ true → names_in Percent (map name_text names) ≡ Some names
names_read_percent [] all are = refl
names_read_percent (name ∷ names) all are =
    let parts = and_parts (is_name name) (list_all is_name names) are in
    names_read Percent (name_text name) (map name_text names) name names (name_read_percent name (All-head IsBytes name names all) parts.0)
    (names_read_percent names (All-tail IsBytes name names all) parts.1)

pub name_read_plain : (name : List ℕ) → has_percent name ≡ false → is_name name ≡ true → name_in Plain name ≡ Some name
name_read_plain name none e = ap (λ has. on_some (if has then None else Some name) None if_name) none ∙ if_name_is name e

pub names_read_plain : (names : List (List ℕ)) → list_all (λ name. not (has_percent name)) names ≡ true → list_all is_name names ≡ true → names_in Plain names ≡ Some names
names_read_plain [] none are = refl
names_read_plain (name ∷ names) none are =
    let without = and_parts (not (has_percent name)) (list_all (λ name. not (has_percent name)) names) none in
    let parts = and_parts (is_name name) (list_all is_name names) are in
    names_read Plain name names name names (name_read_plain name (not-true (has_percent name) without.0) parts.0) (names_read_plain names without.1 parts.1)

-- ---- what is read are bytes

byte_small : (high low byte : ℕ) → high < 16 → low < 16 → high * 16 + low ≡ byte → byte < 256
byte_small high low byte one two e = omega (arith, one, two, e)

said_small : (high low byte : ℕ) → byte_of high low ≡ Some byte → byte < 256
said_small high low byte e = of (is_digit high 16 && is_digit low 16) refl e
  where
    of : (are : Bool) → (is_digit high 16 && is_digit low 16) ≡ are → (if are then Some (digit_value high * 16 + digit_value low) else None) ≡ Some byte → byte < 256
    of true are e =
        let parts = and_parts (is_digit high 16) (is_digit low 16) are in
        byte_small (digit_value high) (digit_value low) byte (ltb-true (digit_value high) 16 parts.0) (ltb-true (digit_value low) 16 parts.1) (same e)
    of false are e = cc

cons_read : (byte : ℕ) (rest : Option (List ℕ)) (bytes : List ℕ) → byte < 256 → ((it : List ℕ) → rest ≡ Some it → IsBytes it) → option_map (λ it. byte ∷ it) rest ≡ Some bytes → IsBytes bytes
cons_read byte None bytes less are e = cc
cons_read byte (Some it) bytes less are e = subst IsBytes (same e) (bytes_cons byte it less (are it refl))

one_read : (byte : ℕ) (is : Bool) (bytes : List ℕ) → byte < 256 → (if is then None else Some (byte ∷ [])) ≡ Some bytes → IsBytes bytes
one_read byte true bytes less e = cc
one_read byte false bytes less e = subst IsBytes (same e) (bytes_cons byte [] less bytes_none)

two_read : (byte : ℕ) (is : Bool) (rest : Option (List ℕ)) (bytes : List ℕ) → byte < 256 → ((it : List ℕ) → rest ≡ Some it → IsBytes it)
    → (if is then None else option_map (λ it. byte ∷ it) rest) ≡ Some bytes → IsBytes bytes
two_read byte true rest bytes less are e = cc
two_read byte false rest bytes less are e = cons_read byte rest bytes less are e

more_read : (byte high low : ℕ) (is : Bool) (said : Option ℕ) (rest whole : Option (List ℕ)) (bytes : List ℕ) → byte < 256
    → ((it : ℕ) → said ≡ Some it → it < 256) → ((it : List ℕ) → rest ≡ Some it → IsBytes it) → ((it : List ℕ) → whole ≡ Some it → IsBytes it)
    → (if is then on_some said None (λ it. option_map (λ bytes. it ∷ bytes) rest) else option_map (λ bytes. byte ∷ bytes) whole) ≡ Some bytes → IsBytes bytes
more_read byte high low true None rest whole bytes less small after all e = cc
more_read byte high low true (Some it) rest whole bytes less small after all e = cons_read it rest bytes (small it refl) after e
more_read byte high low false said rest whole bytes less small after all e = cons_read byte whole bytes less all e

pub unescaped_bytes : (text : List ℕ) → IsBytes text → (bytes : List ℕ) → unescaped text ≡ Some bytes → IsBytes bytes
unfolding unescaped
unescaped_bytes [] are bytes e = subst IsBytes (same e) bytes_none
unescaped_bytes (byte ∷ []) are bytes e = one_read byte (nat_eq byte 37) bytes (are zero) e
unescaped_bytes (byte ∷ other ∷ []) are bytes e =
    two_read byte (nat_eq byte 37) (unescaped (other ∷ [])) bytes (are zero) (unescaped_bytes (other ∷ []) (bytes_rest byte (other ∷ []) are)) e
unescaped_bytes (byte ∷ high ∷ low ∷ rest) are bytes e =
    more_read byte high low (nat_eq byte 37) (byte_of high low) (unescaped rest) (unescaped (high ∷ low ∷ rest)) bytes (are zero) (said_small high low)
    (unescaped_bytes rest (λ i. are (suc (suc (suc i))))) (unescaped_bytes (high ∷ low ∷ rest) (bytes_rest byte (high ∷ low ∷ rest) are)) e

component_bytes : (form : NameForm) (text : List ℕ) → IsBytes text → (bytes : List ℕ) → component_in form text ≡ Some bytes → IsBytes bytes
component_bytes Plain text are bytes e = of (has_percent text) e
  where
    of : (has : Bool) → (if has then None else Some text) ≡ Some bytes → IsBytes bytes
    of true e = cc
    of false e = subst IsBytes (same e) are
component_bytes Percent text are bytes e = unescaped_bytes text are bytes e

-- what a name is read from
from_component : (said : Option (List ℕ)) (name : List ℕ) → on_some said None if_name ≡ Some name → (said ≡ Some name) × (is_name name ≡ true)
from_component None name e = cc
from_component (Some it) name e = of (is_name it) refl e
  where
    of : (is : Bool) → is_name it ≡ is → (if is then Some it else None) ≡ Some name → (Some it ≡ Some name) × (is_name name ≡ true)
    of true is e = (e, subst (λ n. is_name n ≡ true) (same e) is)
    of false is e = cc

pub name_in_bytes : (form : NameForm) (text : List ℕ) → IsBytes text → (name : List ℕ) → name_in form text ≡ Some name → IsBytes name
name_in_bytes form text are name e = component_bytes form text are name (from_component (component_in form text) name e).0

pub name_in_is : (form : NameForm) (text name : List ℕ) → name_in form text ≡ Some name → is_name name ≡ true
name_in_is form text name e = (from_component (component_in form text) name e).1

-- what names are read from
pub from_texts : (first : Option (List ℕ)) (after : Option (List (List ℕ))) (names : List (List ℕ)) → names_from first after ≡ Some names
    → (name : List ℕ) × (rest : List (List ℕ)) × (first ≡ Some name) × (after ≡ Some rest) × (name ∷ rest ≡ names)
from_texts None after names e = cc
from_texts (Some name) None names e = cc
from_texts (Some name) (Some rest) names e = (name, rest, refl, refl, same e)

pub names_in_bytes : (form : NameForm) (texts : List (List ℕ)) → All IsBytes texts → (names : List (List ℕ)) → names_in form texts ≡ Some names → All IsBytes names
names_in_bytes form [] all names e = subst (All IsBytes) (same e) (All-nil IsBytes)
names_in_bytes form (text ∷ texts) all names e =
    let from = from_texts (name_in form text) (names_in form texts) names e in
    subst (All IsBytes) from.4
    (All-cons IsBytes from.0 from.1 (name_in_bytes form text (All-head IsBytes text texts all) from.0 from.2) (names_in_bytes form texts (All-tail IsBytes text texts all) from.1 from.3))

pub names_in_are : (form : NameForm) (texts names : List (List ℕ)) → names_in form texts ≡ Some names → list_all is_name names ≡ true
names_in_are form [] names e = subst (λ l. list_all is_name l ≡ true) (same e) refl
names_in_are form (text ∷ texts) names e =
    let from = from_texts (name_in form text) (names_in form texts) names e in
    subst (λ l. list_all is_name l ≡ true) from.4
    (and_from (is_name from.0) (list_all is_name from.1) (name_in_is form text from.0 from.2) (names_in_are form texts from.1 from.3))

-- what a link holds
pub held_in_bytes : (form : NameForm) (field : List ℕ) → IsBytes field → (held : List ℕ) → held_in form field ≡ Some held → IsBytes held
held_in_bytes Plain field are held e = subst IsBytes (same e) are
held_in_bytes Percent field are held e = of (bytes_eq field (codes "%")) e
  where
    of : (is : Bool) → (if is then Some [] else unescaped field) ≡ Some held → IsBytes held
    of true e = subst IsBytes (same e) bytes_none
    of false e = unescaped_bytes field are held e

not_alone : (byte : ℕ) (is : Bool) (rest : List ℕ) → is_plain byte ≡ is → bytes_eq (byte_text is byte ++ rest) (codes "%") ≡ false
not_alone byte true rest e = and_left (nat_eq byte 37) (bytes_eq rest []) (no_percent_plain byte e)
not_alone byte false rest e = refl

-- and is read again, where it holds something
pub held_read_percent : (byte : ℕ) (held : List ℕ) → IsBytes (byte ∷ held) → held_in Percent (name_text (byte ∷ held)) ≡ Some (byte ∷ held)
held_read_percent byte held are =
    ap (λ is. if is then Some [] else unescaped (name_text (byte ∷ held))) (not_alone byte (is_plain byte) (name_text held) refl)
    ∙ unescaped_name_text (byte ∷ held) are
