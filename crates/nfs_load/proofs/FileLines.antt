-- The line of a file, of what stands before its content and of this.
use Rattle.std.proofs.Common.{◌≡◌, ◌≢◌, ℕ, ◌<◌, ◌≤◌, Bool, true, false, ◌&&◌, cond, nat_eq, nat_le, is_some, ◌-◌, List, [], ◌∷◌, ◌++◌, length, Some, None, Option, Result, Ok, Err, IsErr, IsErrAnd, ◌+◌, length-append, refl, sym, ap, subst, ◌∙◌, ◌==◌, arith}
use Rattle.std.specs.Prelude.{bytes_eq, codes, if◌then◌else◌}
use Rattle.std.specs.List.{filter, list_all, onto_first}
use Rattle.std.proofs.lemmas.Bool.{false≢true, eqb-true, lt-leb, le-leb}
use Rattle.std.proofs.lemmas.Bool.Decides.{nat_tests}
use Rattle.std.proofs.lemmas.List.Elements.{filter-append}
use Rattle.std.proofs.lemmas.List.Folds.{list_all-append}
use Rattle.std.proofs.lemmas.List.Splits.{slice_split-cons_no}
use Rattle.std.proofs.lemmas.List.Sums.{list_all-from_AllPass}
use Rattle.std.proofs.lemmas.Slice.Eq.{bytes_eq-Decides}
use Rattle.hex.specs.Hex.{decode_of, is_hex_digit}
use Rattle.hex.specs.declared.error.FromHexError.{FromHexError}
use Rattle.hex.proofs.HexLemmas.{decode_of-ok}
use Rattle.nfs_text.specs.Chunks.{chunks}
use Rattle.nfs_text.specs.Words.{is_word, words}
use Rattle.nfs_load.proofs.Timed.{some_chunk}
use Rattle.nfs_load.specs.declared.cause.Cause.{Cause}
use Rattle.nfs_load.specs.declared.cause.Cause.TheVariants.{BadByte, BadContent, FieldCount, NoServer}
use Rattle.nfs_load.specs.declared.line.Keyword.TheVariants.{File}
use Rattle.nfs_load.specs.declared.name_form.NameForm.{NameForm}
use Rattle.nfs_load.specs.declared.statement.DirLine.{DirLine}
use Rattle.nfs_load.specs.declared.loaded.Loaded.{Loaded}
use Rattle.nfs_load.specs.declared.refusal.Refusal.{Refusal}
use Rattle.nfs_load.specs.declared.refusal.Refusal.TheVariants.{Fault}
use Rattle.nfs_load.specs.Descriptions.{Asked, GoesOn, LineDone}
use Rattle.nfs_load.specs.Fields.{◌>>=◌, Encodes, Takes, after, content_in, mode_in, within}
use Rattle.nfs_load.specs.Lines.{are_before_content, begins_file, counted, is_comment, is_printable, is_text, shape, shape_of}
use Rattle.nfs_load.specs.Paths.{path_in}
use Rattle.nfs_load.specs.Statements.{FileLine, Read, dir_in, file_in, id_in}

-- ---- its words

onto_first-append : (x : ℕ) (front rest : List (List ℕ)) → front ≢ [] → onto_first x (front ++ rest) ≡ onto_first x front ++ rest
onto_first-append x [] rest some = absurd (some refl)
onto_first-append x (first ∷ front) rest some = refl

same : (s : ℕ) → (s == s) ≡ true
same s = grind (arith, nat_tests)

chunks_joined : (s : ℕ) (front rest : List ℕ) → chunks s (front ++ s ∷ rest) ≡ chunks s front ++ chunks s rest
chunks_joined s [] rest = ap (λ b. cond b ([] ∷ chunks s rest) (onto_first s (chunks s rest))) (same s)
chunks_joined s (x ∷ front) rest = by (x == s) (chunks_joined s front rest)
  where
    by : (b : Bool) → chunks s (front ++ s ∷ rest) ≡ chunks s front ++ chunks s rest → cond b ([] ∷ chunks s (front ++ s ∷ rest)) (onto_first x (chunks s (front ++ s ∷ rest))) ≡ cond b ([] ∷ chunks s front) (onto_first x (chunks s front)) ++ chunks s rest
    by true e = ap (λ all. [] ∷ all) e
    by false e = ap (onto_first x) e ∙ onto_first-append x (chunks s front) (chunks s rest) (some_chunk s front)

-- the words before a space, and those after it
pub words_joined : (front rest : List ℕ) → words (front ++ 32 ∷ rest) ≡ words front ++ words rest
words_joined front rest = ap (filter is_word) (chunks_joined 32 front rest) ∙ filter-append is_word (chunks 32 front) (chunks 32 rest)

-- ---- its digits

-- digits are printed, and no spaces
abbrev IsPlain : ℕ → Type 0
IsPlain c = ((c == 32) ≡ false) × (is_printable c ≡ true)

within_32 : (c low high : ℕ) → 32 < low → high ≤ 126 → (nat_le low c && nat_le c high) ≡ true → IsPlain c
within_32 c low high above below e = (grind (arith, nat_tests), grind (arith, nat_tests))

digit_is_plain : (c : ℕ) → is_hex_digit c ≡ true → IsPlain c
digit_is_plain c digit = by (nat_le 65 c && nat_le c 70) refl (nat_le 97 c && nat_le c 102) refl (nat_le 48 c && nat_le c 57) refl digit
  where
    by : (upper : Bool) → (nat_le 65 c && nat_le c 70) ≡ upper → (lower : Bool) → (nat_le 97 c && nat_le c 102) ≡ lower → (decimal : Bool) → (nat_le 48 c && nat_le c 57) ≡ decimal
        → is_some (if upper then Some (c - 55) else if lower then Some (c - 87) else if decimal then Some (c - 48) else None) ≡ true → IsPlain c
    by true u lower l decimal d e = within_32 c 65 70 (omega arith) (omega arith) u
    by false u true l decimal d e = within_32 c 97 102 (omega arith) (omega arith) l
    by false u false l true d e = within_32 c 48 57 (omega arith) (omega arith) d
    by false u false l false d e = absurd (false≢true e)

both : (a b : Bool) → (a && b) ≡ true → (a ≡ true) × (b ≡ true)
both true b e = (refl, e)
both false b e = absurd (false≢true e)

digits_are_text : (digits : List ℕ) → list_all is_hex_digit digits ≡ true → is_text digits ≡ true
digits_are_text [] all = refl
digits_are_text (c ∷ digits) all =
    let each = both (is_hex_digit c) (list_all is_hex_digit digits) all in
    ap (λ b. b && is_text digits) (digit_is_plain c each.0).1 ∙ digits_are_text digits each.1

digits_are_a_chunk : (digits : List ℕ) → list_all is_hex_digit digits ≡ true → chunks 32 digits ≡ digits ∷ []
digits_are_a_chunk [] all = refl
digits_are_a_chunk (c ∷ digits) all =
    let each = both (is_hex_digit c) (list_all is_hex_digit digits) all in
    slice_split-cons_no (λ byte. byte == 32) c digits (digit_is_plain c each.0).0 ∙ ap (onto_first c) (digits_are_a_chunk digits each.1)

some_is_word : (c : ℕ) (chunk : List ℕ) → is_word (c ∷ chunk) ≡ true
some_is_word c chunk = grind (arith, nat_tests)

digits_are_a_word : (digits : List ℕ) → digits ≢ [] → list_all is_hex_digit digits ≡ true → words digits ≡ digits ∷ []
digits_are_a_word [] some all = absurd (some refl)
digits_are_a_word (c ∷ digits) some all =
    ap (filter is_word) (digits_are_a_chunk (c ∷ digits) all) ∙ ap (λ b. cond b ((c ∷ digits) ∷ []) []) (some_is_word c digits)

-- ---- no comment

-- a line whose first word is `file` is no comment
comment_begins : (rest : List ℕ) (after : List (List ℕ)) → chunks 32 rest ≡ after → are_before_content (words (35 ∷ rest)) ≡ false
comment_begins rest [] e = absurd (some_chunk 32 rest e)
comment_begins rest (chunk ∷ after) e =
    ap (λ chunks. are_before_content (filter is_word (onto_first 35 chunks))) e
    ∙ ap (λ b. are_before_content (cond b ((35 ∷ chunk) ∷ filter is_word after) (filter is_word after))) (some_is_word 35 chunk)

no_comment : (begin more : List ℕ) → are_before_content (words begin) ≡ true → is_comment (begin ++ more) ≡ false
no_comment [] more e = absurd (false≢true e)
no_comment (byte ∷ begin) more e = by (byte == 35) refl
  where
    by : (b : Bool) → (byte == 35) ≡ b → b ≡ false
    by true is = absurd (false≢true (sym (subst (λ b. are_before_content (words (b ∷ begin)) ≡ false) (sym (eqb-true byte 35 is)) (comment_begins begin (chunks 32 begin) refl)) ∙ e))
    by false is = refl

-- ---- the whole line

-- the first word
pub keyword_is : (word : List ℕ) (fields : List (List ℕ)) → are_before_content (word ∷ fields) ≡ true → (word ≡ codes "file") × (length fields ≡ 4)
keyword_is word fields e =
    let each = both (bytes_eq word (codes "file")) (nat_eq (length fields) 4) e in
    ((bytes_eq-Decides word (codes "file")).0 each.0, eqb-true (length fields) 4 each.1)

-- what the line asks for
pub shape_is : (begin digits content : List ℕ) (fields : List (List ℕ)) → begins_file begin ≡ true → words begin ≡ codes "file" ∷ fields → Encodes digits content
    → shape (begin ++ 32 ∷ digits) ≡ Ok (Some (record { keyword = File; fields = fields ++ digits ∷ [] }))
shape_is begin digits content fields begins are encodes =
    let parts = both (is_text begin) (are_before_content (words begin)) begins in
    let digits_are = decode_of-ok digits content encodes.1 in
    let all = list_all-from_AllPass is_hex_digit digits digits_are.1 in
    let text : is_text (begin ++ 32 ∷ digits) ≡ true = list_all-append is_printable begin (32 ∷ digits) ∙ ap (λ b. b && is_text digits) parts.0 ∙ digits_are_text digits all in
    let words_are : words (begin ++ 32 ∷ digits) ≡ codes "file" ∷ fields ++ digits ∷ [] = words_joined begin digits ∙ ap (λ ws. ws ++ words digits) are ∙ ap (λ ws. codes "file" ∷ fields ++ ws) (digits_are_a_word digits encodes.0 all) in
    let five : nat_eq (length (fields ++ digits ∷ [])) 5 ≡ true = ap (λ n. nat_eq n 5) (length-append fields (digits ∷ []) ∙ ap (λ n. n + 1) (keyword_is (codes "file") fields (ap are_before_content (sym are) ∙ parts.1)).1) in
    ap (λ b. if b then Ok None else shape_of (begin ++ 32 ∷ digits) (words (begin ++ 32 ∷ digits))) (no_comment begin (32 ∷ digits) parts.1)
    ∙ ap (shape_of (begin ++ 32 ∷ digits)) words_are
    ∙ ap (λ b. if b then counted (Some File) (fields ++ digits ∷ []) else Err BadByte) text
    ∙ ap (λ b. if b then Ok (Some (record { keyword = File; fields = fields ++ digits ∷ [] })) else Err FieldCount) five

-- ---- its fields

-- what the fields before a content say, and this
abbrev pub with_content : Read DirLine → Result (List ℕ) Cause → Read FileLine
with_content front content = do
  dir ← front
  content ← after [] content
  Ok (record { path = dir.0.path; given = dir.0.given; content = content.0 }, content.1)

four_and_content : (form : NameForm) (most : ℕ) (a b c d digits : List ℕ) (path : Result (List (List ℕ)) Cause) (mode uid gid : Result ℕ Cause)
    → path_in form a ≡ path → mode_in b ≡ mode → id_in c ≡ uid → id_in d ≡ gid
    → file_in form most (a ∷ b ∷ c ∷ d ∷ digits ∷ []) ≡ with_content (dir_in form (a ∷ b ∷ c ∷ d ∷ [])) (content_in most digits)
four_and_content form most a b c d digits (Err cause) mode uid gid p m u g = rw p refl
four_and_content form most a b c d digits (Ok path) (Err cause) uid gid p m u g = rw (p, m) refl
four_and_content form most a b c d digits (Ok path) (Ok mode) (Err cause) gid p m u g = rw (p, m, u) refl
four_and_content form most a b c d digits (Ok path) (Ok mode) (Ok uid) (Err cause) p m u g = rw (p, m, u, g) refl
four_and_content form most a b c d digits (Ok path) (Ok mode) (Ok uid) (Ok gid) p m u g = rw (p, m, u, g) refl

pub fields_and_content : (form : NameForm) (most : ℕ) (fields : List (List ℕ)) (digits : List ℕ) → length fields ≡ 4
    → file_in form most (fields ++ digits ∷ []) ≡ with_content (dir_in form fields) (content_in most digits)
fields_and_content form most [] digits four = absurd (omega arith)
fields_and_content form most (a ∷ []) digits four = absurd (omega arith)
fields_and_content form most (a ∷ b ∷ []) digits four = absurd (omega arith)
fields_and_content form most (a ∷ b ∷ c ∷ []) digits four = absurd (omega arith)
fields_and_content form most (a ∷ b ∷ c ∷ d ∷ []) digits four = four_and_content form most a b c d digits _ _ _ _ refl refl refl refl
fields_and_content form most (a ∷ b ∷ c ∷ d ∷ e ∷ rest) digits four = absurd (omega arith)

-- what digits say
no_dash : (digits content : List ℕ) (b : Bool) → bytes_eq digits (codes "-") ≡ b → decode_of digits ≡ Ok content → b ≡ false
no_dash digits content true e decoded = absurd (no (ap decode_of (sym ((bytes_eq-Decides digits (codes "-")).0 e)) ∙ decoded))
  where
    no : {fault : FromHexError} → Err fault ≡ Ok content → ⊥
    no e = cc
no_dash digits content false e decoded = refl

pub content_is : (most : ℕ) (digits content : List ℕ) → Encodes digits content → content_in most digits ≡ within most (Ok content)
content_is most digits content encodes =
    ap (λ b. if b then Ok [] else within most (decode_of digits)) (no_dash digits content (bytes_eq digits (codes "-")) refl encodes.1) ∙ ap (within most) encodes.1

-- ---- where one of them is refused

pub front_fault : (form : NameForm) (most : ℕ) (fields : List (List ℕ)) (digits : List ℕ) (cause : Cause) → length fields ≡ 4 → dir_in form fields ≡ Err cause
    → file_in form most (fields ++ digits ∷ []) ≡ Err cause
front_fault form most fields digits cause four e = fields_and_content form most fields digits four ∙ ap (λ front. with_content front (content_in most digits)) e

pub content_fault : (form : NameForm) (most : ℕ) (fields : List (List ℕ)) (digits content : List ℕ) (dir : DirLine) (rest : List (List ℕ)) → length fields ≡ 4 → dir_in form fields ≡ Ok (dir, rest)
    → Encodes digits content → most < length content → file_in form most (fields ++ digits ∷ []) ≡ Err BadContent
content_fault form most fields digits content dir rest four e encodes many =
    fields_and_content form most fields digits four ∙ ap (λ front. with_content front (content_in most digits)) e
    ∙ ap (with_content (Ok (dir, rest))) (content_is most digits content encodes ∙ ap (λ b. if b then Ok content else Err BadContent) (lt-leb (length content) most many))

pub line_is : (form : NameForm) (most : ℕ) (fields : List (List ℕ)) (digits content : List ℕ) (dir : DirLine) (rest : List (List ℕ)) → length fields ≡ 4 → dir_in form fields ≡ Ok (dir, rest)
    → Encodes digits content → length content ≤ most → file_in form most (fields ++ digits ∷ []) ≡ Ok (record { path = dir.path; given = dir.given; content = content }, [])
line_is form most fields digits content dir rest four e encodes few =
    fields_and_content form most fields digits four ∙ ap (λ front. with_content front (content_in most digits)) e
    ∙ ap (with_content (Ok (dir, rest))) (content_is most digits content encodes ∙ ap (λ b. if b then Ok content else Err BadContent) (le-leb (length content) most few))

pub takes_fault : {X A : Type 0} (view : X → A) (rest : List (List ℕ)) (result : Result X Cause) (read : Read A) (cause : Cause)
    → IsErr result × IsErrAnd result (λ r. r ≡ cause) → read ≡ Err cause → Takes view rest result read
takes_fault view rest (Ok x) read cause h e = absurd (false≢true h.0)
takes_fault view rest (Err r) read cause h e = e ∙ ap Err (sym h.1)

-- ---- what it does

pub no_server : (begin digits content : List ℕ) (new : Option Loaded) → begins_file begin ≡ true → Encodes digits content → LineDone None (begin ++ 32 ∷ digits) (Err (Fault NoServer)) new
no_server begin digits content new begins encodes = of (words begin) refl
  where
    of : (all : List (List ℕ)) → words begin ≡ all → LineDone None (begin ++ 32 ∷ digits) (Err (Fault NoServer)) new
    of [] e = absurd (false≢true (sym (ap are_before_content e) ∙ (both (is_text begin) (are_before_content (words begin)) begins).1))
    of (word ∷ fields) e =
        let first = keyword_is word fields (sym (ap are_before_content e) ∙ (both (is_text begin) (are_before_content (words begin)) begins).1) in
        subst (λ it. Asked None it (Err (Fault NoServer)) new) (sym (shape_is begin digits content fields begins (e ∙ ap (λ w. w ∷ fields) first.0) encodes)) refl

pub goes_on : (begin digits content : List ℕ) (fields : List (List ℕ)) (old : Loaded) (result : Result Unit Refusal) (new : Loaded) → begins_file begin ≡ true → words begin ≡ codes "file" ∷ fields
    → Encodes digits content → GoesOn old File (fields ++ digits ∷ []) result new → LineDone (Some old) (begin ++ 32 ∷ digits) result (Some new)
goes_on begin digits content fields old result new begins are encodes done =
    subst (λ it. Asked (Some old) it result (Some new)) (sym (shape_is begin digits content fields begins are encodes)) (new, refl, done)
