-- What is left of a buffer.
use Rattle.std.proofs.Common.{◌≡◌, ℕ, ◌+◌, ◌-◌, ◌≤◌, zero, suc, List, [], ◌∷◌, length, take, drop, zero-add, sym, ap, subst, ◌∙◌, arith}
use Rattle.std.proofs.Math.Seq.{drop-nil}
use Rattle.std.proofs.lemmas.Grind.{common_steps}
use Rattle.std.proofs.lemmas.List.{drop-take}

drop-drop : (n m : ℕ) (xs : List ℕ) → drop (n + m) xs ≡ drop m (drop n xs)
drop-drop zero m xs = ap (λ k. drop k xs) (zero-add m)
drop-drop (suc n) m [] = drop-nil (suc n + m) ∙ sym (drop-nil m)
drop-drop (suc n) m (x ∷ xs) =
    let one_more : suc n + m ≡ suc (n + m) = omega arith in
    ap (λ k. drop k (x ∷ xs)) one_more ∙ drop-drop n m xs

-- some of the bytes between two places are taken
pub later : (from to n : ℕ) (xs : List ℕ) → n ≤ to - from → take (to - (from + n)) (drop (from + n) xs) ≡ drop n (take (to - from) (drop from xs))
later from to n xs le =
    let rest : to - from ≡ n + (to - (from + n)) = omega (arith, le) in
    ap (take (to - (from + n))) (drop-drop from n xs) ∙ sym (drop-take n (to - (from + n)) (drop from xs)) ∙ ap (λ k. drop n (take k (drop from xs))) (sym rest)

pub within : (k n : ℕ) (xs ys : List ℕ) → take k xs ≡ ys → n ≤ length ys → n ≤ k
within k n xs ys e le =
    let some : n ≤ length (take k xs) = subst (λ l. n ≤ length l) (sym e) le in
    grind (arith, common_steps)
