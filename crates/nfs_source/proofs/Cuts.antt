-- Where a text is cut into lines.
use Rattle.std.proofs.Common.{◌≡◌, ℕ, zero, suc, ◌+◌, ◌-◌, ◌<◌, ◌≤◌, Bool, true, false, ◌&&◌, cond, ◌==◌, List, [], ◌∷◌, ◌++◌, length, take, drop, slice_index, refl, sym, ap, ◌∙◌, append_assoc, append-nil, arith}
use Rattle.std.specs.Prelude.{not}
use Rattle.std.specs.List.{onto_first}
use Rattle.std.proofs.lemmas.Bool.{eqb-true}
use Rattle.std.proofs.lemmas.List.{take_rest}
use Rattle.nfs_text.specs.Lines.{lines}
use Rattle.nfs_source.specs.Readings.{CutsInto, is_open}

-- ---- tests of all bytes

both : (a b : Bool) → (a && b) ≡ true → (a ≡ true) × (b ≡ true)
both true b e = (refl, e)
both false b e = cc

and_true : (a b : Bool) → a ≡ true → b ≡ true → (a && b) ≡ true
and_true true b one two = two
and_true false b one two = one

not_true : (b : Bool) → not b ≡ true → b ≡ false
not_true true e = cc
not_true false e = refl

true_not : (b : Bool) → (b ≡ true → ⊥) → not b ≡ true
true_not true none = absurd (none refl)
true_not false none = refl

pub open_more : (xs ys : List ℕ) → is_open xs ≡ true → is_open ys ≡ true → is_open (xs ++ ys) ≡ true
open_more [] ys one two = two
open_more (x ∷ xs) ys one two =
    let p = both (not (x == 10)) (is_open xs) one in
    and_true (not (x == 10)) (is_open (xs ++ ys)) p.0 (open_more xs ys p.1 two)

-- ---- at the first LF

pub open_before : (text : List ℕ) (n : ℕ) → n ≤ length text → ((k : ℕ) → 0 ≤ k → k < n → (slice_index text k == 10) ≡ true → ⊥) → is_open (take n text) ≡ true
open_before text zero within none = refl
open_before [] (suc n) within none = absurd (omega arith)
open_before (byte ∷ rest) (suc n) within none =
    and_true (not (byte == 10)) (is_open (take n rest)) (true_not (byte == 10) (none 0 (omega arith) (omega arith)))
    (open_before rest n (omega arith) (λ k low below. none (suc k) (omega arith) (omega arith)))

pub open_whole : (text : List ℕ) → ((k : ℕ) → 0 ≤ k → k < length text → (slice_index text k == 10) ≡ true → ⊥) → is_open text ≡ true
open_whole [] none = refl
open_whole (byte ∷ rest) none =
    and_true (not (byte == 10)) (is_open rest) (true_not (byte == 10) (none 0 (omega arith) (omega arith)))
    (open_whole rest (λ k low below. none (suc k) (omega arith) (omega arith)))

pub split_at : (text : List ℕ) (n : ℕ) → n < length text → (slice_index text n == 10) ≡ true → text ≡ take n text ++ 10 ∷ drop (suc n) text
split_at [] n within is = absurd (omega arith)
split_at (byte ∷ rest) zero within is = ap (λ b. b ∷ rest) (eqb-true byte 10 is)
split_at (byte ∷ rest) (suc n) within is = ap (λ t. byte ∷ t) (split_at rest n (omega arith) is)

pub split_after : (text : List ℕ) (n : ℕ) → n < length text → (slice_index text n == 10) ≡ true
    → text ≡ take n text ++ 10 ∷ take (length text - (n + 1)) (drop (n + 1) text)
split_after text n within is =
    let more : suc n ≡ n + 1 = omega arith in
    split_at text n within is ∙ ap (λ t. take n text ++ 10 ∷ t) (ap (λ k. drop k text) more ∙ sym (take_rest text (n + 1)))

-- ---- lines

pub line_ends : (line after : List ℕ) → is_open line ≡ true → lines (line ++ 10 ∷ after) ≡ line ∷ lines after
line_ends [] after open_so = refl
line_ends (x ∷ line) after open_so =
    let p = both (not (x == 10)) (is_open line) open_so in
    ap (λ b. cond b ([] ∷ lines (line ++ 10 ∷ after)) (onto_first x (lines (line ++ 10 ∷ after)))) (not_true (x == 10) p.0)
    ∙ ap (onto_first x) (line_ends line after p.1)

last_line : (x : ℕ) (line : List ℕ) → is_open (x ∷ line) ≡ true → lines (x ∷ line) ≡ (x ∷ line) ∷ []
last_line x [] open_so = ap (λ b. cond b ([] ∷ []) (onto_first x [])) (not_true (x == 10) (both (not (x == 10)) true open_so).0)
last_line x (y ∷ line) open_so =
    let p = both (not (x == 10)) (is_open (y ∷ line)) open_so in
    ap (λ b. cond b ([] ∷ lines (y ∷ line)) (onto_first x (lines (y ∷ line)))) (not_true (x == 10) p.0)
    ∙ ap (onto_first x) (last_line y line p.1)

pub one_line : (line : List ℕ) → is_open line ≡ true → (line ≡ [] → ⊥) → lines line ≡ line ∷ []
one_line [] open_so some = absurd (some refl)
one_line (x ∷ line) open_so some = last_line x line open_so

-- ---- what a text is cut into

pub cuts_line : (text : List ℕ) (done : List (List ℕ)) (rest part : List ℕ) → is_open rest ≡ true → is_open part ≡ true
    → CutsInto text done rest → CutsInto (text ++ (part ++ 10 ∷ [])) (done ++ (rest ++ part) ∷ []) []
cuts_line text done rest part open_rest open_part cut after =
    ap lines (append_assoc text (part ++ 10 ∷ []) after)
    ∙ cut ((part ++ 10 ∷ []) ++ after)
    ∙ ap (λ t. done ++ lines t) (ap (λ t. rest ++ t) (append_assoc part (10 ∷ []) after) ∙ sym (append_assoc rest part (10 ∷ after)))
    ∙ ap (λ t. done ++ t) (line_ends (rest ++ part) after (open_more rest part open_rest open_part))
    ∙ sym (append_assoc done ((rest ++ part) ∷ []) (lines after))

pub cuts_more : (text : List ℕ) (done : List (List ℕ)) (rest part : List ℕ) → CutsInto text done rest → CutsInto (text ++ part) done (rest ++ part)
cuts_more text done rest part cut after =
    ap lines (append_assoc text part after) ∙ cut (part ++ after) ∙ ap (λ t. done ++ lines t) (sym (append_assoc rest part after))

pub cuts_all : (text : List ℕ) (done : List (List ℕ)) (rest : List ℕ) → CutsInto text done rest → lines text ≡ done ++ lines rest
cuts_all text done rest cut =
    ap lines (sym (append-nil text)) ∙ cut [] ∙ ap (λ t. done ++ lines t) (append-nil rest)
