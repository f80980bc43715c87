-- Texts that are separated by one byte, and found again.
use Rattle.std.proofs.Common.{◌≡◌, ℕ, ◌<◌, Bool, true, false, not, cond, List, [], ◌∷◌, ◌++◌, Option, Some, None, refl, ap, ◌∙◌, ◌==◌, arith}
use Rattle.std.specs.Char.{digit_value}
use Rattle.std.specs.List.{list_all, onto_first}
use Rattle.std.specs.Str.Parse.{AllDigits}
use Rattle.std.proofs.lemmas.Bool.Decides.{nat_tests}
use Rattle.nfs_text.specs.Chunks.{cut, chunks}
use Rattle.nfs_describe.specs.Lines.{is_shown}
use Rattle.nfs_read_back.proofs.Digits.{and_true}
use Rattle.nfs_read_back.proofs.Words.{both}

-- none of the bytes is this one
abbrev pub is_free : ℕ → List ℕ → Bool
is_free separator text = list_all (λ byte. not (byte == separator)) text

is_no : (b : Bool) → not b ≡ true → b ≡ false
is_no false e = refl
is_no true e = absurd (no e)
  where
    no : false ≡ true → ⊥
    no e = cc

first_free : (separator x : ℕ) (w : List ℕ) → is_free separator (x ∷ w) ≡ true → ((x == separator) ≡ false) × (is_free separator w ≡ true)
first_free separator x w e = let p = both (not (x == separator)) (is_free separator w) e in (is_no (x == separator) p.0, p.1)

same : (separator : ℕ) → (separator == separator) ≡ true
same separator = grind (arith, nat_tests)

pub chunk_ends : (separator : ℕ) (w rest : List ℕ) → is_free separator w ≡ true → chunks separator (w ++ separator ∷ rest) ≡ w ∷ chunks separator rest
chunk_ends separator [] rest e = ap (λ b. cond b ([] ∷ chunks separator rest) (onto_first separator (chunks separator rest))) (same separator)
chunk_ends separator (x ∷ w) rest e = let p = first_free separator x w e in
    ap (λ b. cond b ([] ∷ chunks separator (w ++ separator ∷ rest)) (onto_first x (chunks separator (w ++ separator ∷ rest)))) p.0
    ∙ ap (onto_first x) (chunk_ends separator w rest p.1)

pub last_chunk : (separator : ℕ) (w : List ℕ) → is_free separator w ≡ true → chunks separator w ≡ w ∷ []
last_chunk separator [] e = refl
last_chunk separator (x ∷ w) e = let p = first_free separator x w e in
    ap (λ b. cond b ([] ∷ chunks separator w) (onto_first x (chunks separator w))) p.0 ∙ ap (onto_first x) (last_chunk separator w p.1)

onto_cut : ℕ → List ℕ × Option (List ℕ) → List ℕ × Option (List ℕ)
onto_cut x parts = (x ∷ parts.0, parts.1)

pub cut_at : (separator : ℕ) (w rest : List ℕ) → is_free separator w ≡ true → cut separator (w ++ separator ∷ rest) ≡ (w, Some rest)
cut_at separator [] rest e = ap (λ b. cond b ([], Some rest) (separator ∷ (cut separator rest).0, (cut separator rest).1)) (same separator)
cut_at separator (x ∷ w) rest e = let p = first_free separator x w e in
    ap (λ b. cond b ([], Some (w ++ separator ∷ rest)) (x ∷ (cut separator (w ++ separator ∷ rest)).0, (cut separator (w ++ separator ∷ rest)).1)) p.0
    ∙ ap (λ (parts : List ℕ × Option (List ℕ)). (x ∷ parts.0, parts.1)) (cut_at separator w rest p.1)

pub cut_none : (separator : ℕ) (w : List ℕ) → is_free separator w ≡ true → cut separator w ≡ (w, None)
cut_none separator [] e = refl
cut_none separator (x ∷ w) e = let p = first_free separator x w e in
    ap (λ b. cond b ([], Some w) (x ∷ (cut separator w).0, (cut separator w).1)) p.0
    ∙ ap (λ (parts : List ℕ × Option (List ℕ)). (x ∷ parts.0, parts.1)) (cut_none separator w p.1)

pub append_free : (separator : ℕ) (xs ys : List ℕ) → is_free separator xs ≡ true → is_free separator ys ≡ true → is_free separator (xs ++ ys) ≡ true
append_free separator [] ys one two = two
append_free separator (x ∷ xs) ys one two = let p = both (not (x == separator)) (is_free separator xs) one in
    and_true (not (x == separator)) (is_free separator (xs ++ ys)) p.0 (append_free separator xs ys p.1 two)

digit_below : (separator c : ℕ) → separator < 48 → digit_value c < 10 → not (c == separator) ≡ true
digit_below separator c low digit = grind (arith, nat_tests)

pub digits_free : (separator : ℕ) (ds : List ℕ) → separator < 48 → AllDigits 10 ds → is_free separator ds ≡ true
digits_free separator [] low all = refl
digits_free separator (c ∷ ds) low all = and_true (not (c == separator)) (is_free separator ds) (digit_below separator c low all.0) (digits_free separator ds low all.1)

pub append_shown : (xs ys : List ℕ) → list_all is_shown xs ≡ true → list_all is_shown ys ≡ true → list_all is_shown (xs ++ ys) ≡ true
append_shown [] ys one two = two
append_shown (x ∷ xs) ys one two = let p = both (is_shown x) (list_all is_shown xs) one in
    and_true (is_shown x) (list_all is_shown (xs ++ ys)) p.0 (append_shown xs ys p.1 two)
