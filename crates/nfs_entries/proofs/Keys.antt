-- Keys that pass a test, and keys that none has.
use Rattle.std.proofs.Common.{◌≡◌, ℕ, zero, suc, ◌<◌, ◌≤◌, Bool, true, false, Some, None, List, [], ◌∷◌, ◌++◌, length, take, refl, sym, ap, subst, ◌∙◌, arith}
use Rattle.std.specs.Prelude.{slice_get, slice_set}
use Rattle.std.specs.Map.{lookup, lookup_key}
use Rattle.nfs_entries.proofs.Cases.{by_test, if_true, if_false, same_some, not_both}

pub keyed : {K X : Type 0} (test : K → Bool) (es : List (K × X)) (k : K) → lookup_key test es ≡ Some k → test k ≡ true
keyed test [] k e = absurd (not_both refl e)
keyed test (x ∷ es) k e = by_test (test x.0)
    (λ y. subst (λ k. test k ≡ true) (same_some (sym (if_true (Some x.0) (lookup_key test es) y) ∙ e)) y)
    (λ n. keyed test es k (sym (if_false (Some x.0) (lookup_key test es) n) ∙ e))

pub unkeyed : {K X : Type 0} (test : K → Bool) (es : List (K × X)) → lookup_key test es ≡ None → (i : ℕ) (r : K × X) → slice_get es i ≡ Some r → test r.0 ≡ false
unkeyed test [] e i r at = absurd (not_both refl at)
unkeyed test (x ∷ es) e zero r at = by_test (test x.0)
    (λ y. absurd (not_both e (if_true (Some x.0) (lookup_key test es) y)))
    (λ n. subst (λ (k : _). test k.0 ≡ false) (same_some at) n)
unkeyed test (x ∷ es) e (suc i) r at = by_test (test x.0)
    (λ y. absurd (not_both e (if_true (Some x.0) (lookup_key test es) y)))
    (λ n. unkeyed test es (sym (if_false (Some x.0) (lookup_key test es) n) ∙ e) i r at)

-- no row has the key
pub unlooked : {K X : Type 0} (test : K → Bool) (es : List (K × X)) → ((i : ℕ) (r : K × X) → slice_get es i ≡ Some r → test r.0 ≡ false) → lookup test es ≡ None
unlooked test [] none = refl
unlooked test (x ∷ es) none = if_false (Some x.1) (lookup test es) (none 0 x refl) ∙ unlooked test es (λ i r at. none (suc i) r at)

-- ---- a row that goes, where the last one takes its place

pub take_get : {X : Type 0} (n : ℕ) (xs : List X) (j : ℕ) → j < n → slice_get (take n xs) j ≡ slice_get xs j
take_get zero xs j less = absurd (omega (arith, less))
take_get (suc n) [] j less = refl
take_get (suc n) (x ∷ xs) zero less = refl
take_get (suc n) (x ∷ xs) (suc j) less = take_get n xs j (omega (arith, less))

pub take_history : {X : Type 0} (n : ℕ) (xs : List X) (j : ℕ) → n ≤ j → slice_get (take n xs) j ≡ None
take_history zero [] j less = refl
take_history zero (x ∷ xs) j less = refl
take_history (suc n) [] j less = refl
take_history (suc n) (x ∷ xs) zero less = absurd (omega (arith, less))
take_history (suc n) (x ∷ xs) (suc j) less = take_history n xs j (omega (arith, less))

pub none_past : {X : Type 0} (xs : List X) (n : ℕ) → slice_get xs n ≡ None → length xs ≤ n
none_past [] n at = omega arith
none_past (x ∷ xs) zero at = absurd (not_both at refl)
none_past (x ∷ xs) (suc n) at = let less = none_past xs n at in omega (arith, less)

pub set_get : {X : Type 0} (xs : List X) (i : ℕ) (y : X) → i < length xs → slice_get (slice_set xs i y) i ≡ Some y
set_get [] i y within = absurd (omega (arith, within))
set_get (x ∷ xs) zero y within = refl
set_get (x ∷ xs) (suc i) y within = set_get xs i y (omega (arith, within))

pub set_other : {X : Type 0} (xs : List X) (i : ℕ) (y : X) (j : ℕ) → (j ≡ i → ⊥) → slice_get (slice_set xs i y) j ≡ slice_get xs j
set_other [] i y j other = refl
set_other (x ∷ xs) zero y zero other = absurd (other refl)
set_other (x ∷ xs) zero y (suc j) other = refl
set_other (x ∷ xs) (suc i) y zero other = refl
set_other (x ∷ xs) (suc i) y (suc j) other = set_other xs i y j (λ same. other (ap suc same))

pub push_other : {X : Type 0} (xs : List X) (y : X) (j : ℕ) → (j ≡ length xs → ⊥) → slice_get (xs ++ y ∷ []) j ≡ slice_get xs j
push_other [] y zero other = absurd (other refl)
push_other [] y (suc j) other = refl
push_other (x ∷ xs) y zero other = refl
push_other (x ∷ xs) y (suc j) other = push_other xs y j (λ same. other (ap suc same))

pub push_last : {X : Type 0} (xs : List X) (y : X) → slice_get (xs ++ y ∷ []) (length xs) ≡ Some y
push_last [] y = refl
push_last (x ∷ xs) y = push_last xs y
