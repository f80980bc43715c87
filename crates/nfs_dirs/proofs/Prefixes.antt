-- The longest prefix that passes a test, where a shorter one passes as well.
use Rattle.std.proofs.Common.{◌≡◌, ℕ, zero, suc, ◌+◌, ◌<◌, ◌≤◌, Bool, true, false, not, List, [], ◌∷◌, ◌++◌, length, take, ◌⊎◌, inl, inr, refl, sym, ap, ◌∙◌, arith}
use Rattle.std.specs.Prelude.{nat_le, if◌then◌else◌}
use Rattle.std.proofs.Math.Seq.{take-append_seam, take-append-add}
use Rattle.std.proofs.lemmas.Bool.{true≢false, leb-true, leb-false}
use Rattle.std.proofs.lemmas.List.{length-append}
use Rattle.nfs_inodes.specs.Tree.{Entry}
use Rattle.nfs_dirs.specs.Pages.{most, count_of, chosen, is_too_small}

-- what is before a list that passes, passes
abbrev pub Narrows : (List Entry → Bool) → Type 0
Narrows passes = (es more : List Entry) → passes (es ++ more) ≡ true → passes es ≡ true

-- where a number passes, smaller ones do
abbrev pub Falls : (ℕ → Bool) → Type 0
Falls p = (m n : ℕ) → m ≤ n → p n ≡ true → p m ≡ true

take_prefix : {X : Type 0} (m n : ℕ) (xs : List X) → m ≤ n → (rest : List X) × (take n xs ≡ take m xs ++ rest)
take_prefix zero n xs le = (take n xs, refl)
take_prefix (suc m) zero xs le = absurd (omega (arith, le))
take_prefix (suc m) (suc n) [] le = ([], refl)
take_prefix (suc m) (suc n) (x ∷ xs) le = let r = take_prefix m n xs (omega (arith, le)) in (r.0, ap (λ t. x ∷ t) r.1)

pub falls : (passes : List Entry → Bool) → Narrows passes → (left : List Entry) → Falls (λ n. passes (take n left))
falls passes narrows left m n le e = let r = take_prefix m n left le in narrows (take m left) r.0 (ap passes (sym r.1) ∙ e)

le_or_lt : (a b : ℕ) → (a ≤ b) ⊎ (b < a)
le_or_lt a b = by_test (nat_le a b) refl
  where
    by_test : (t : Bool) → nat_le a b ≡ t → (a ≤ b) ⊎ (b < a)
    by_test true e = inl (leb-true a b e)
    by_test false e = inr (leb-false a b e)

-- the greatest number that passes
pub most_is : (p : ℕ → Bool) (n i : ℕ) → Falls p → i ≤ n → p i ≡ true → (i < n → p (i + 1) ≡ false) → most p n ≡ i
most_is p zero i lower le at_i stop = omega (arith, le)
most_is p (suc k) i lower le at_i stop = by_test (λ below. most_is p k i lower below at_i (λ less. stop (omega (arith, less)))) (p (suc k)) refl
  where
    top : p (suc k) ≡ true → (i + 1 ≤ suc k) ⊎ (suc k < i + 1) → suc k ≡ i
    top e (inl below) = absurd (true≢false (sym (lower (i + 1) (suc k) below e) ∙ stop (omega (arith, below))))
    top e (inr above) = omega (arith, above, le)

    deeper : (i ≤ k → most p k ≡ i) → p (suc k) ≡ false → (i ≤ k) ⊎ (k < i) → most p k ≡ i
    deeper found e (inl below) = found below
    deeper found e (inr above) = absurd (true≢false (sym (lower (suc k) i above at_i) ∙ e))

    by_test : (i ≤ k → most p k ≡ i) → (b : Bool) → p (suc k) ≡ b → most p (suc k) ≡ i
    by_test found true e = ap (λ b. if b then suc k else most p k) e ∙ top e (le_or_lt (i + 1) (suc k))
    by_test found false e = ap (λ b. if b then suc k else most p k) e ∙ deeper found e (le_or_lt i k)

-- ---- a list that begins with some entries

module _ (passes : List Entry → Bool) (narrows : Narrows passes) (left es : List Entry) (fit : passes es ≡ true) where
  front : (rest : List Entry) → left ≡ es ++ rest → take (length es) left ≡ es
  front rest e = ap (take (length es)) e ∙ take-append_seam es rest

  within : (rest : List Entry) → left ≡ es ++ rest → length es ≤ length left
  within rest e = let n = ap length e ∙ length-append es rest in omega (arith, n)

  -- all of it passes
  pub all_chosen : left ≡ es ++ [] → count_of passes left ≡ length es
  all_chosen e = let n = ap length e ∙ length-append es [] in
      most_is (λ n. passes (take n left)) (length left) (length es) (falls passes narrows left) (within [] e) (ap passes (front [] e) ∙ fit) (λ below. absurd (omega (arith, below, n)))

  -- with one more it doesn't
  pub some_chosen : (x : Entry) (rest : List Entry) → left ≡ es ++ x ∷ rest → passes (es ++ x ∷ []) ≡ false → count_of passes left ≡ length es
  some_chosen x rest e unfit =
      most_is (λ n. passes (take n left)) (length left) (length es) (falls passes narrows left) (within (x ∷ rest) e) (ap passes (front (x ∷ rest) e) ∙ fit)
      (λ below. ap passes (ap (take (length es + 1)) e ∙ take-append-add es (x ∷ rest) 1) ∙ unfit)

  pub chosen_are : (rest : List Entry) → left ≡ es ++ rest → count_of passes left ≡ length es → chosen passes left ≡ es
  chosen_are rest e count = ap (λ n. take n left) count ∙ front rest e

  -- where there is one of them, the first passes
  pub not_too_small : (rest : List Entry) → left ≡ es ++ rest → 0 < length es → is_too_small passes left ≡ false
  not_too_small rest e some = ap not (falls passes narrows left 1 (length es) some (ap passes (front rest e) ∙ fit))
