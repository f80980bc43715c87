-- Where each file is after a change.
use Rattle.std.proofs.Common.{◌≡◌, ℕ, Bool, true, false, cond, List, [], ◌∷◌, ◌++◌, All, IsSome, Option, Some, None, is_some, option_map, nat_eq, sym, ap, subst, refl, ◌∙◌, arith}
use Rattle.std.specs.Ordering.{nat_cmp, eq_by_cmp}
use Rattle.std.specs.Cmp.{IsEquivalence, unsigned_ties}
use Rattle.std.specs.Map.{keys_of, lookup}
use Rattle.std.specs.List.{IsDistinct}
use Rattle.std.proofs.lemmas.Cmp.{nat_cmp_total, eq_by_cmp_equiv}
use Rattle.std.proofs.lemmas.Bool.{eqb-true}
use Rattle.std.proofs.lemmas.List.Elements.{All-tail, All-head}
use Rattle.std.proofs.lemmas.Map.{lookup-set_value, lookup-remove_entry}
use Rattle.std.proofs.lemmas.Map.Keys.{IsDistinct-from_sorted}
use Rattle.nfs_handles.specs.NumberedFiles.{TaggedFile, NumberedFiles, at, with_new, revalued, with_value, without, IsGiven, IsNumbered}
use Rattle.nfs_handles.specs.Runs.{FilesAre}

pub one_number : (m x y : ℕ) → nat_eq m x ≡ true → nat_eq m y ≡ nat_eq x y
one_number m x y e = ap (λ k. nat_eq k y) (eqb-true m x e)

pub compared : nat_eq ≡ eq_by_cmp nat_cmp
compared = λ i m n. unsigned_ties m n i

pub numbers_equal : IsEquivalence nat_eq
numbers_equal = subst IsEquivalence (sym compared) (eq_by_cmp_equiv nat_cmp_total)

turned : (m n : ℕ) → nat_eq m n ≡ nat_eq n m
turned = numbers_equal.symm

module _ {X : Type 0} where
  lookup_given : (P : ℕ → Type 0) (n : ℕ) (es : List (ℕ × X)) → All P (keys_of es) → IsSome (lookup (nat_eq n) es) → P n
  lookup_given P n [] a some = cc
  lookup_given P n (e ∷ es) a some = by (nat_eq n e.0) refl some (lookup_given P n es (All-tail P e.0 (keys_of es) a))
    where
      by : (b : Bool) → nat_eq n e.0 ≡ b → IsSome (cond b (Some e.1) (lookup (nat_eq n) es)) → (IsSome (lookup (nat_eq n) es) → P n) → P n
      by true is some rest = subst P (sym (eqb-true n e.0 is)) (All-head P e.0 (keys_of es) a)
      by false is some rest = rest some

  pub lookup_last : (n : ℕ) (es : List (ℕ × X)) (m : ℕ) (x : X) → lookup (nat_eq n) (es ++ (m, x) ∷ []) ≡ cond (is_some (lookup (nat_eq n) es)) (lookup (nat_eq n) es) (cond (nat_eq n m) (Some x) None)
  lookup_last n [] m x = refl
  lookup_last n (e ∷ es) m x = by (nat_eq n e.0) (lookup_last n es m x)
    where
      last : Option X
      last = cond (nat_eq n m) (Some x) None

      by : (b : Bool) → lookup (nat_eq n) (es ++ (m, x) ∷ []) ≡ cond (is_some (lookup (nat_eq n) es)) (lookup (nat_eq n) es) (cond (nat_eq n m) (Some x) None)
          → cond b (Some e.1) (lookup (nat_eq n) (es ++ (m, x) ∷ [])) ≡ cond (is_some (cond b (Some e.1) (lookup (nat_eq n) es))) (cond b (Some e.1) (lookup (nat_eq n) es)) (cond (nat_eq n m) (Some x) None)
      by true h = refl
      by false h = h

none_of : {X : Type 0} (o : Option X) → (IsSome o → ⊥) → o ≡ None
none_of None f = refl
none_of (Some x) f = absurd (f refl)

module _ {T : Type 0} where
  pub live_is_given : (t : NumberedFiles T) (n : ℕ) → IsNumbered t → IsSome (at t n) → IsGiven t.next n
  live_is_given t n h some = lookup_given (IsGiven t.next) n t.files h.given some

  pub none_is_next : (t : NumberedFiles T) → IsNumbered t → at t t.next ≡ None
  none_is_next t h = none_of (at t t.next) (λ some. let g : IsGiven t.next t.next = live_is_given t t.next h some in omega (arith, g.below))

  pub at_new : (t : NumberedFiles T) (tag : ℕ) (v : T) (n : ℕ) → IsNumbered t → at (with_new t tag v) n ≡ cond (nat_eq t.next n) (Some (record { tag = tag; value = v })) (at t n)
  at_new t tag v n h = lookup_last n t.files t.next file ∙ by (nat_eq t.next n) refl
    where
      file : TaggedFile T
      file = record { tag = tag; value = v }

      old : (o : Option (TaggedFile T)) → cond (is_some o) o (cond false (Some file) None) ≡ o
      old None = refl
      old (Some x) = refl

      by : (b : Bool) → nat_eq t.next n ≡ b → cond (is_some (at t n)) (at t n) (cond (nat_eq n t.next) (Some file) None) ≡ cond b (Some file) (at t n)
      by true e =
          let same : t.next ≡ n = eqb-true t.next n e in
          let none : at t n ≡ None = subst (λ k. at t k ≡ None) same (none_is_next t h) in
          ap (λ o. cond (is_some o) o (cond (nat_eq n t.next) (Some file) None)) none ∙ ap (λ b. cond b (Some file) None) (turned n t.next ∙ e)
      by false e = ap (λ b. cond (is_some (at t n)) (at t n) (cond b (Some file) None)) (turned n t.next ∙ e) ∙ old (at t n)

  pub at_value : (t : NumberedFiles T) (m : ℕ) (v : T) (n : ℕ) → at (with_value t m v) n ≡ cond (nat_eq m n) (option_map (λ file. record { tag = file.tag; value = v }) (at t m)) (at t n)
  at_value t m v n = by (at t m) refl
    where
      gone : (b : Bool) → nat_eq m n ≡ b → at t m ≡ None → at t n ≡ cond b None (at t n)
      gone true e z = subst (λ k. at t k ≡ None) (eqb-true m n e) z
      gone false e z = refl

      by : (o : Option (TaggedFile T)) → at t m ≡ o → at (revalued t m v o) n ≡ cond (nat_eq m n) (option_map (λ file. record { tag = file.tag; value = v }) o) (at t n)
      by None e = gone (nat_eq m n) refl e
      by (Some file) e =
          lookup-set_value numbers_equal (nat_eq m) (one_number m) n (record { tag = file.tag; value = v }) t.files (ap is_some e)

  pub at_without : (t : NumberedFiles T) (m n : ℕ) → IsNumbered t → at (without t m) n ≡ cond (nat_eq m n) None (at t n)
  at_without t m n h =
      lookup-remove_entry numbers_equal (nat_eq m) (one_number m) n t.files (subst (λ same. IsDistinct same (keys_of t.files)) (sym compared) (IsDistinct-from_sorted nat_cmp (keys_of t.files) h.rising))

pub files_are : {T : Type 0} → FilesAre T
files_are = record { put = at_new; changed = at_value; taken = at_without; given = live_is_given }
