-- What is written, one item after another, is an encoding.
use Rattle.std.proofs.Common.{◌≡◌, ℕ, ◌^◌, ◌<◌, ◌≤◌, ◌+◌, ◌-◌, List, [], ◌++◌, length, take, drop, Option, Some, None, refl, ap, sym, subst, ◌∙◌, append_assoc, zero, suc, ◌∷◌, arith}
use Rattle.std.proofs.lemmas.Grind.{common_steps}
use Rattle.std.specs.Int.{Width, w32, byte_len, to_be_bytes}
use Rattle.std.proofs.lemmas.List.{length-append, drop-take, drop-append-le}
use Rattle.std.proofs.Math.Seq.{take-append-add, drop-append-add}
use Rattle.nfs_xdr.specs.Encoding.{IsNumber, IsOptional, ◌⨾◌, optional_text, fixed_text, padding}
use Rattle.nfs_xdr.specs.Written.{Written, Appends}

-- two texts, one after the other
pub appends_then : (s t : List ℕ) (a b c : Written) → Appends s a b → Appends t b c → Appends (s ++ t) a c
appends_then s t a b c first second = record {
  bytes = second.bytes ∙ ap (λ u. u ++ t) first.bytes ∙ append_assoc a.bytes s t;
  room = omega (arith, first.room, second.room, length-append s t);
}

pub number_written : (w : Width) (n : ℕ) → n < 256 ^ byte_len w → IsNumber w n (to_be_bytes w n)
number_written w n fits = record { fits = fits; text_is = refl }

-- fields one after another
pub followed : (First Second : List ℕ → Type 0) (front back : List ℕ) → First front → Second back → (First ⨾ Second) (front ++ back)
followed First Second front back first second = record { front = front; first = first; back = back; second = second; text_is = refl }

pub optional_written : {A : Type 0} (S : A → List ℕ → Type 0) (text : A → List ℕ) (o : Option A) → ((value : A) → o ≡ Some value → S value (text value)) → IsOptional S o (optional_text text o)
optional_written S text None written = number_written w32 0 (omega arith)
optional_written S text (Some value) written = record { front = to_be_bytes w32 1; first = number_written w32 1 (omega arith); back = text value; second = written value refl; text_is = refl }

-- bytes put over others, of which the first so many were written
put_over_rest : (at n rest : ℕ) (item all : List ℕ) → length item ≡ n → at + n + rest ≤ length all
    → take (at + n + rest) (take at all ++ item ++ drop (at + n) all) ≡ take at (take (at + n + rest) all) ++ item ++ drop (at + n) (take (at + n + rest) all)
put_over_rest at n rest item all counted inside =
    let front : length (take at all ++ item) ≡ at + n = grind (arith, common_steps, counted) in
    let cut : take (at + n + rest) (take at all ++ item ++ drop (at + n) all) ≡ take at all ++ item ++ take rest (drop (at + n) all) =
    subst (λ k. take (k + rest) (take at all ++ item ++ drop (at + n) all) ≡ take at all ++ item ++ take rest (drop (at + n) all)) front (take-append-add (take at all ++ item) (drop (at + n) all) rest) in
    let begins : take at all ≡ take at (take (at + n + rest) all) = grind (arith, common_steps) in
    cut ∙ ap (λ t. t ++ item ++ take rest (drop (at + n) all)) begins ∙ ap (λ t. take at (take (at + n + rest) all) ++ item ++ t) (sym (drop-take (at + n) rest all))

pub put_over : (at len : ℕ) (item all : List ℕ) → at + length item ≤ len → len ≤ length all
    → take len (take at all ++ item ++ drop (at + length item) all) ≡ take at (take len all) ++ item ++ drop (at + length item) (take len all)
put_over at len item all inside whole =
    let all_of : at + length item + (len - (at + length item)) ≡ len = omega arith in
    subst (λ k. take k (take at all ++ item ++ drop (at + length item) all) ≡ take at (take k all) ++ item ++ drop (at + length item) (take k all)) all_of (put_over_rest at (length item) (len - (at + length item)) item all refl (omega arith))

pub put_over_seen : (at len kept : ℕ) (item all seen after : List ℕ) → seen ≡ all → after ≡ take at seen ++ item ++ drop (at + length item) seen → kept ≡ length all
    → at + length item ≤ len → len ≤ length all
    → take len (take kept (after ++ drop (length after) all)) ≡ take at (take len all) ++ item ++ drop (at + length item) (take len all)
put_over_seen at len kept item all seen after same put counted inside whole =
    let put_in : after ≡ take at all ++ item ++ drop (at + length item) all = subst (λ s. after ≡ take at s ++ item ++ drop (at + length item) s) same put in
    let length_is : length after ≡ length all = grind (arith, common_steps, put_in) in
    let nothing : drop (length after) all ≡ [] = grind (arith, common_steps, length_is) in
    let again : take kept (after ++ drop (length after) all) ≡ after = grind (arith, common_steps, nothing, counted, length_is) in
    ap (take len) (again ∙ put_in) ∙ put_over at len item all inside whole

abbrev four_zeros : List ℕ
four_zeros = 0 ∷ 0 ∷ 0 ∷ 0 ∷ []

-- of four zeros the last so many are the padding
zeros_last : (p : ℕ) → p < 4 → drop (4 - p) four_zeros ≡ take p (0 ∷ 0 ∷ 0 ∷ [])
zeros_last zero below = refl
zeros_last (suc zero) below = refl
zeros_last (suc (suc zero)) below = refl
zeros_last (suc (suc (suc zero))) below = refl
zeros_last (suc (suc (suc (suc p)))) below = absurd (omega (arith, below))

append_regroup : (a b c d : List ℕ) → a ++ b ++ (c ++ d) ≡ a ++ (b ++ c) ++ d
append_regroup a b c d = sym (append_assoc (a ++ b) c d) ∙ ap (λ t. t ++ d) (append_assoc a b c)

-- four zeros put over others, and then bytes over what comes before their padding
after_zeros : (at n pad start : ℕ) (front zeros rest padded : List ℕ) → length front ≡ start → length zeros ≡ 4 → pad < 4 → start + 4 ≡ at + n + pad
    → drop (4 - pad) zeros ≡ padded → drop (at + n) (front ++ zeros ++ rest) ≡ padded ++ rest
after_zeros at n pad start front zeros rest padded counted four few ends last =
    let within : length front + (4 - pad) ≡ at + n = omega (arith, counted, few, ends) in
    let skipped : drop (length front + (4 - pad)) (front ++ (zeros ++ rest)) ≡ drop (4 - pad) (zeros ++ rest) = drop-append-add front (zeros ++ rest) (4 - pad) in
    let left : drop (4 - pad) (zeros ++ rest) ≡ drop (4 - pad) zeros ++ rest = drop-append-le (4 - pad) zeros rest (omega (arith, four)) in
    subst (λ k. drop k (front ++ zeros ++ rest) ≡ padded ++ rest) within
    (ap (drop (length front + (4 - pad))) (append_assoc front zeros rest) ∙ skipped ∙ left ∙ ap (λ t. t ++ rest) last)

padded_over : (at n pad start : ℕ) (item all : List ℕ) → pad < 4 → at ≤ start → start + 4 ≡ at + n + pad → start + 4 ≤ length all
    → take at (take start all ++ four_zeros ++ drop (start + 4) all) ++ item ++ drop (at + n) (take start all ++ four_zeros ++ drop (start + 4) all)
    ≡ take at all ++ (item ++ take pad (0 ∷ 0 ∷ 0 ∷ [])) ++ drop (at + n + pad) all
padded_over at n pad start item all few from ends inside =
    let front : length (take start all) ≡ start = grind (arith, common_steps, inside) in
    let begins : take at (take start all ++ four_zeros ++ drop (start + 4) all) ≡ take at all = grind (arith, common_steps, from, inside) in
    let rest : drop (at + n) (take start all ++ four_zeros ++ drop (start + 4) all) ≡ take pad (0 ∷ 0 ∷ 0 ∷ []) ++ drop (at + n + pad) all =
    after_zeros at n pad start (take start all) four_zeros (drop (start + 4) all) (take pad (0 ∷ 0 ∷ 0 ∷ [])) front refl few ends (zeros_last pad few)
    ∙ ap (λ k. take pad (0 ∷ 0 ∷ 0 ∷ []) ++ drop k all) ends in
    ap (λ s. s ++ item ++ drop (at + n) (take start all ++ four_zeros ++ drop (start + 4) all)) begins ∙ ap (λ t. take at all ++ item ++ t) rest
    ∙ append_regroup (take at all) item (take pad (0 ∷ 0 ∷ 0 ∷ [])) (drop (at + n + pad) all)

with_padding : (at : ℕ) (item : List ℕ) → at + length item + padding (length item) ≡ at + length (fixed_text item)
with_padding at item = grind (arith, common_steps)

-- the same, where the bytes are some
pub put_padded_over : (at : ℕ) (item all mid after : List ℕ) → 0 < length item → at + length (fixed_text item) ≤ length all
    → mid ≡ take (at + length item + padding (length item) - 4) all ++ four_zeros ++ drop (at + length item + padding (length item) - 4 + 4) all
    → after ≡ take at mid ++ item ++ drop (at + length item) mid
    → after ≡ take at all ++ fixed_text item ++ drop (at + length (fixed_text item)) all
put_padded_over at item all mid after some inside first second =
    let start = at + length item + padding (length item) - 4 in
    let from : at ≤ start = omega (arith, some) in
    second ∙ ap (λ m. take at m ++ item ++ drop (at + length item) m) first
    ∙ padded_over at (length item) (padding (length item)) start item all (omega arith) from (omega (arith, from)) (omega (arith, from, inside, with_padding at item))
    ∙ ap (λ k. take at all ++ fixed_text item ++ drop k all) (with_padding at item)

-- no bytes have no padding
pub put_none_over : (at : ℕ) (item all after : List ℕ) → length item ≡ 0 → after ≡ take at all ++ item ++ drop (at + length item) all
    → after ≡ take at all ++ fixed_text item ++ drop (at + length (fixed_text item)) all
put_none_over at [] all after none put = put
put_none_over at (byte ∷ item) all after none put = absurd (omega (arith, none))
