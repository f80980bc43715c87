-- Numbers that are written one after another.
use Rattle.std.proofs.Common.{◌≡◌, ℕ, ◌+◌, ◌*◌, ◌<◌, ◌≤◌, List, [], ◌∷◌, ◌++◌, length, get_or, take, refl, sym, ap, ◌∙◌, subst, arith, append_assoc, length-append}
use Rattle.std.proofs.lemmas.List.{take_more}
use Rattle.std.specs.Int.{w32, to_be_bytes}
use Rattle.std.proofs.lemmas.Grind.{common_steps}
use Rattle.nfs_xdr.specs.Encoding.{numbers_text}
use Rattle.nfs_xdr.specs.Written.{Written, Appends}
use Rattle.nfs_xdr.proofs.Writing.{appends_then}

pub length-numbers : (ns : List ℕ) → length (numbers_text ns) ≡ 4 * length ns
length-numbers [] = refl
length-numbers (n ∷ ns) = omega (arith, length-numbers ns)

pub numbers_more : (ns : List ℕ) (i d : ℕ) → i < length ns → numbers_text (take (i + 1) ns) ≡ numbers_text (take i ns) ++ to_be_bytes w32 (get_or ns i d)
numbers_more ns i d inside = ap numbers_text (take_more ns i d inside) ∙ numbers-append (take i ns) (get_or ns i d)
  where
    numbers-append : (xs : List ℕ) (n : ℕ) → numbers_text (xs ++ n ∷ []) ≡ numbers_text xs ++ to_be_bytes w32 n
    numbers-append [] n = refl
    numbers-append (x ∷ xs) n = ap (λ t. to_be_bytes w32 x ++ t) (numbers-append xs n)

-- so many numbers after a head
pub room_left : (head ns : List ℕ) (i : ℕ) (x y : Written) → length head ≡ 20 → 84 ≤ x.room → length ns ≤ 16 → i < length ns → Appends (head ++ numbers_text (take i ns)) x y → 4 ≤ y.room
room_left head ns i x y h room few inside written =
    omega (arith, h, room, few, inside, written.room, length-append head (numbers_text (take i ns)), length-numbers (take i ns), length_taken ns i (omega (arith, inside)))
  where
    length_taken : (xs : List ℕ) (i : ℕ) → i ≤ length xs → length (take i xs) ≡ i
    length_taken xs i h = grind (arith, common_steps)

pub one_more : (head ns : List ℕ) (i : ℕ) (x y z : Written) → i < length ns → Appends (head ++ numbers_text (take i ns)) x y
    → Appends (to_be_bytes w32 (get_or ns i 0)) y z → Appends (head ++ numbers_text (take (i + 1) ns)) x z
one_more head ns i x y z inside before more =
    subst (λ t. Appends t x z) (append_assoc head (numbers_text (take i ns)) _ ∙ ap (λ t. head ++ t) (sym (numbers_more ns i 0 inside)))
    (appends_then (head ++ numbers_text (take i ns)) _ x y z before more)
