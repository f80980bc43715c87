-- NumberedFiles values: look-ups and sums after a change.
use Rattle.std.proofs.Common.{◌≡◌, ◌≢◌, ℕ, ◌+◌, ◌<◌, ◌≤◌, Bool, true, false, cond, List, [], ◌∷◌, ◌++◌, map, sum_by, Option, Some, None, option_map, refl, sym, ap, subst, ◌∙◌, arith}
use Rattle.std.specs.Prelude.{nat_eq}
use Rattle.std.proofs.lemmas.Bool.{eqb-true, eq-eqb}
use Rattle.std.proofs.lemmas.List.Sums.{sum_by-cons, sum_by_push}
use Rattle.nfs_inodes.specs.Tree.{at, with_at, without_at}
use Rattle.nfs_inodes.specs.Law.{AreRising}
use Rattle.nfs_inodes.proofs.Lists.{by_test, by_number, if_true, if_false, same_some, not_both, none_from}

pub same_number : (n k : ℕ) → nat_eq n k ≡ true → n ≡ k
same_number n k e = eqb-true n k e

pub apart_number : (n k : ℕ) → n ≢ k → nat_eq n k ≡ false
apart_number n k e = by_test (nat_eq n k) (λ s. absurd (e (eqb-true n k s))) (λ f. f)

pub itself : (n : ℕ) → nat_eq n n ≡ true
itself n = eq-eqb n n refl

module _ {X : Type 0} where
  pub at_here : (e : ℕ × X) (es : List (ℕ × X)) → at e.0 (e ∷ es) ≡ Some e.1
  at_here e es = if_true _ _ (itself e.0)

  pub at_after : (n : ℕ) (e : ℕ × X) (es : List (ℕ × X)) → n ≢ e.0 → at n (e ∷ es) ≡ at n es
  at_after n e es o = if_false _ _ (apart_number n e.0 o)

  -- ---- rising numbers

  pub rising_low : (low next : ℕ) (es : List (ℕ × X)) → AreRising low es next → low < next
  rising_low low next [] r = r
  rising_low low next (e ∷ es) r = let a = r.0 in let b = rising_low e.0 next es r.1 in omega (arith, a, b)

  -- a number that has a value is between the bounds
  pub rising_bounds : (low next : ℕ) (es : List (ℕ × X)) (n : ℕ) (x : X) → AreRising low es next → at n es ≡ Some x → (low < n) × (n < next)
  rising_bounds low next [] n x r h = cc
  rising_bounds low next (e ∷ es) n x r h = by_number n e.0
      (λ s. let a = r.0 in let b = rising_low e.0 next es r.1 in (omega (arith, a, s), omega (arith, b, s)))
      (λ o. let b = rising_bounds e.0 next es n x r.1 (sym (at_after n e es o) ∙ h) in let a = r.0 in let c = b.0 in let d = b.1 in (omega (arith, a, c), d))

  -- the next number has none
  pub at_next : (low next : ℕ) (es : List (ℕ × X)) → AreRising low es next → at next es ≡ None
  at_next low next es r = none_from (at next es) (λ x e. let b = (rising_bounds low next es next x r e).1 in omega (arith, b))

  pub rising_push : (low next : ℕ) (es : List (ℕ × X)) (y : X) → AreRising low es next → AreRising low (es ++ (next, y) ∷ []) (next + 1)
  rising_push low next [] y r = (r, omega arith)
  rising_push low next (e ∷ es) y r = (r.0, rising_push e.0 next es y r.1)

  pub rising_with : (low next n : ℕ) (es : List (ℕ × X)) (y : X) → AreRising low es next → AreRising low (with_at n y es) next
  rising_with low next n [] y r = r
  rising_with low next n (e ∷ es) y r = by_test (nat_eq n e.0)
      (λ t. subst (λ l. AreRising low l next) (sym (if_true ((e.0, y) ∷ es) (e ∷ with_at n y es) t)) r)
      (λ f. subst (λ l. AreRising low l next) (sym (if_false ((e.0, y) ∷ es) (e ∷ with_at n y es) f)) (r.0, rising_with e.0 next n es y r.1))

  pub rising_lower : (low high next : ℕ) (es : List (ℕ × X)) → low < high → AreRising high es next → AreRising low es next
  rising_lower low high next [] l r = omega (arith, l, r)
  rising_lower low high next (e ∷ es) l r = let a = r.0 in (omega (arith, l, a), r.1)

  pub rising_without : (low next n : ℕ) (es : List (ℕ × X)) → AreRising low es next → AreRising low (without_at n es) next
  rising_without low next n [] r = r
  rising_without low next n (e ∷ es) r = by_test (nat_eq n e.0)
      (λ t. subst (λ l. AreRising low l next) (sym (if_true es (e ∷ without_at n es) t)) (rising_lower low e.0 next es r.0 r.1))
      (λ f. subst (λ l. AreRising low l next) (sym (if_false es (e ∷ without_at n es) f)) (r.0, rising_without e.0 next n es r.1))

  -- ---- look-ups after a change

  pub at_with_same : (n : ℕ) (x y : X) (es : List (ℕ × X)) → at n es ≡ Some x → at n (with_at n y es) ≡ Some y
  at_with_same n x y [] h = cc
  at_with_same n x y (e ∷ es) h = by_test (nat_eq n e.0)
      (λ t. ap (at n) (if_true ((e.0, y) ∷ es) _ t) ∙ if_true _ _ t)
      (λ f. ap (at n) (if_false ((e.0, y) ∷ es) _ f) ∙ if_false _ _ f ∙ at_with_same n x y es (sym (if_false (Some e.1) _ f) ∙ h))

  pub at_with_other : (n m : ℕ) (y : X) (es : List (ℕ × X)) → m ≢ n → at m (with_at n y es) ≡ at m es
  at_with_other n m y [] h = refl
  at_with_other n m y (e ∷ es) h = by_test (nat_eq n e.0)
      (λ t. let f : nat_eq m e.0 ≡ false = apart_number m e.0 (λ q. h (q ∙ sym (same_number n e.0 t))) in
      ap (at m) (if_true ((e.0, y) ∷ es) _ t) ∙ if_false _ _ f ∙ sym (if_false _ _ f))
      (λ f. ap (at m) (if_false ((e.0, y) ∷ es) _ f) ∙ ap (cond (nat_eq m e.0) (Some e.1)) (at_with_other n m y es h))

  pub at_push_same : (n : ℕ) (y : X) (es : List (ℕ × X)) → at n es ≡ None → at n (es ++ (n, y) ∷ []) ≡ Some y
  at_push_same n y [] h = at_here (n, y) []
  at_push_same n y (e ∷ es) h = by_number n e.0
      (λ s. absurd (not_both h (if_true (Some e.1) (at n es) (subst (λ k. nat_eq n k ≡ true) s (itself n)))))
      (λ o. at_after n e (es ++ (n, y) ∷ []) o ∙ at_push_same n y es (sym (at_after n e es o) ∙ h))

  pub at_push_other : (n m : ℕ) (y : X) (es : List (ℕ × X)) → m ≢ n → at m (es ++ (n, y) ∷ []) ≡ at m es
  at_push_other n m y [] h = at_after m (n, y) [] h
  at_push_other n m y (e ∷ es) h = ap (cond (nat_eq m e.0) (Some e.1)) (at_push_other n m y es h)

  pub at_without_same : (low next n : ℕ) (es : List (ℕ × X)) → AreRising low es next → at n (without_at n es) ≡ None
  at_without_same low next n [] r = refl
  at_without_same low next n (e ∷ es) r = by_test (nat_eq n e.0)
      (λ t. ap (at n) (if_true es (e ∷ without_at n es) t)
      ∙ none_from (at n es) (λ x h. let b = (rising_bounds e.0 next es n x r.1 h).0 in let s = same_number n e.0 t in omega (arith, b, s)))
      (λ f. ap (at n) (if_false es (e ∷ without_at n es) f) ∙ if_false _ _ f ∙ at_without_same e.0 next n es r.1)

  pub at_without_other : (n m : ℕ) (es : List (ℕ × X)) → m ≢ n → at m (without_at n es) ≡ at m es
  at_without_other n m [] h = refl
  at_without_other n m (e ∷ es) h = by_test (nat_eq n e.0)
      (λ t. ap (at m) (if_true es (e ∷ without_at n es) t) ∙ sym (at_after m e es (λ q. h (q ∙ sym (same_number n e.0 t)))))
      (λ f. ap (at m) (if_false es (e ∷ without_at n es) f) ∙ ap (cond (nat_eq m e.0) (Some e.1)) (at_without_other n m es h))

  -- where a value after a change comes from
  pub with_back : {P : Type 0} (n m : ℕ) (x y z : X) (es : List (ℕ × X)) → at n es ≡ Some x → at m (with_at n y es) ≡ Some z → (m ≡ n → y ≡ z → P) → (m ≢ n → at m es ≡ Some z → P) → P
  with_back n m x y z es h e p q = by_number m n
      (λ s. p s (same_some (sym (ap (λ k. at k (with_at n y es)) s ∙ at_with_same n x y es h) ∙ e)))
      (λ o. q o (sym (at_with_other n m y es o) ∙ e))

  pub push_back : {P : Type 0} (n m : ℕ) (y z : X) (es : List (ℕ × X)) → at n es ≡ None → at m (es ++ (n, y) ∷ []) ≡ Some z → (m ≡ n → y ≡ z → P) → (m ≢ n → at m es ≡ Some z → P) → P
  push_back n m y z es h e p q = by_number m n
      (λ s. p s (same_some (sym (ap (λ k. at k (es ++ (n, y) ∷ [])) s ∙ at_push_same n y es h) ∙ e)))
      (λ o. q o (sym (at_push_other n m y es o) ∙ e))

  pub without_back : (low next n m : ℕ) (z : X) (es : List (ℕ × X)) → AreRising low es next → at m (without_at n es) ≡ Some z → (m ≢ n) × (at m es ≡ Some z)
  without_back low next n m z es r e = by_number m n
      (λ s. absurd (not_both (at_without_same low next n es r) (ap (λ k. at k (without_at n es)) (sym s) ∙ e)))
      (λ o. (o, sym (at_without_other n m es o) ∙ e))

  -- ---- sums

  module _ (w : X → ℕ) where
    abbrev pub sum_over : List (ℕ × X) → ℕ
    sum_over es = sum_by (λ (e : ℕ × X). w e.1) es

    cons : (e : ℕ × X) (es : List (ℕ × X)) → sum_over (e ∷ es) ≡ w e.1 + sum_over es
    cons e es = sum_by-cons (λ (e : ℕ × X). w e.1) e es

    pub sum_with : (n : ℕ) (x y : X) (es : List (ℕ × X)) → at n es ≡ Some x → sum_over (with_at n y es) + w x ≡ sum_over es + w y
    sum_with n x y [] h = cc
    sum_with n x y (e ∷ es) h = by_test (nat_eq n e.0)
        (λ t. let same : e.1 ≡ x = same_some (sym (if_true (Some e.1) _ t) ∙ h) in
        let ws : w e.1 ≡ w x = ap w same in
        let new : sum_over (with_at n y (e ∷ es)) ≡ w y + sum_over es = ap sum_over (if_true ((e.0, y) ∷ es) _ t) ∙ cons (e.0, y) es in
        let old = cons e es in omega arith)
        (λ f. let rest : sum_over (with_at n y es) + w x ≡ sum_over es + w y = sum_with n x y es (sym (if_false (Some e.1) _ f) ∙ h) in
        let new : sum_over (with_at n y (e ∷ es)) ≡ w e.1 + sum_over (with_at n y es) = ap sum_over (if_false ((e.0, y) ∷ es) _ f) ∙ cons e (with_at n y es) in
        let old = cons e es in omega arith)

    pub sum_push : (n : ℕ) (y : X) (es : List (ℕ × X)) → sum_over (es ++ (n, y) ∷ []) ≡ sum_over es + w y
    sum_push n y es = sum_by_push (λ (e : ℕ × X). w e.1) es (n, y)

    pub sum_without : (n : ℕ) (x : X) (es : List (ℕ × X)) → at n es ≡ Some x → sum_over (without_at n es) + w x ≡ sum_over es
    sum_without n x [] h = cc
    sum_without n x (e ∷ es) h = by_test (nat_eq n e.0)
        (λ t. let same : e.1 ≡ x = same_some (sym (if_true (Some e.1) _ t) ∙ h) in
        let ws : w e.1 ≡ w x = ap w same in
        let new : sum_over (without_at n (e ∷ es)) ≡ sum_over es = ap sum_over (if_true es (e ∷ without_at n es) t) in
        let old = cons e es in omega (arith, ws, new, old))
        (λ f. let rest : sum_over (without_at n es) + w x ≡ sum_over es = sum_without n x es (sym (if_false (Some e.1) _ f) ∙ h) in
        let new : sum_over (without_at n (e ∷ es)) ≡ w e.1 + sum_over (without_at n es) = ap sum_over (if_false es (e ∷ without_at n es) f) ∙ cons e (without_at n es) in
        let old = cons e es in omega (arith, rest, new, old))

    -- nothing is counted where nothing counts
    pub sum_zero : (low next : ℕ) (es : List (ℕ × X)) → AreRising low es next → ((n : ℕ) (x : X) → at n es ≡ Some x → w x ≡ 0) → sum_over es ≡ 0
    sum_zero low next [] r z = refl
    sum_zero low next (e ∷ es) r z =
        let here = z e.0 e.1 (at_here e es) in
        let rest = sum_zero e.0 next es r.1 (λ n x h. z n x (at_after n e es (λ s. let b = (rising_bounds e.0 next es n x r.1 h).0 in omega (arith, b, s)) ∙ h)) in
        let all = cons e es in omega (arith, here, rest, all)

    pub sum_some : (n : ℕ) (x : X) (es : List (ℕ × X)) → at n es ≡ Some x → w x ≤ sum_over es
    sum_some n x [] h = cc
    sum_some n x (e ∷ es) h = by_test (nat_eq n e.0)
        (λ t. let same : e.1 ≡ x = same_some (sym (if_true (Some e.1) _ t) ∙ h) in
        let ws : w e.1 ≡ w x = ap w same in
        let all = cons e es in omega (arith, ws, all))
        (λ f. let rest = sum_some n x es (sym (if_false (Some e.1) _ f) ∙ h) in
        let all = cons e es in omega (arith, rest, all))

  -- writing a value back changes nothing, and shows of values go through changes
  module _ {Y : Type 0} (f : X → Y) where
    -- the same numbers with what is shown of each value
    abbrev pub shows : List (ℕ × X) → List (ℕ × Y)
    shows es = map (λ e. (e.0, f e.1)) es

    pub rising_shown : (low next : ℕ) (es : List (ℕ × X)) → AreRising low (shows es) next → AreRising low es next
    rising_shown low next [] r = r
    rising_shown low next (e ∷ es) r = (r.0, rising_shown e.0 next es r.1)

    option_step : (b : Bool) (x : X) (o : Option X) → cond b (Some (f x)) (option_map f o) ≡ option_map f (cond b (Some x) o)
    option_step true x o = refl
    option_step false x o = refl

    pub at_shows : (n : ℕ) (es : List (ℕ × X)) → at n (shows es) ≡ option_map f (at n es)
    at_shows n [] = refl
    at_shows n (e ∷ es) = ap (cond (nat_eq n e.0) (Some (f e.1))) (at_shows n es) ∙ option_step (nat_eq n e.0) e.1 (at n es)

    with_step : (b : Bool) (e : ℕ × X) (y : X) (es fs : List (ℕ × X)) → shows (cond b ((e.0, y) ∷ es) (e ∷ fs)) ≡ cond b ((e.0, f y) ∷ shows es) ((e.0, f e.1) ∷ shows fs)
    with_step true e y es fs = refl
    with_step false e y es fs = refl

    pub shows_with : (n : ℕ) (y : X) (es : List (ℕ × X)) → shows (with_at n y es) ≡ with_at n (f y) (shows es)
    shows_with n y [] = refl
    shows_with n y (e ∷ es) = with_step (nat_eq n e.0) e y es (with_at n y es) ∙ ap (λ l. cond (nat_eq n e.0) ((e.0, f y) ∷ shows es) ((e.0, f e.1) ∷ l)) (shows_with n y es)

    pub shows_push : (n : ℕ) (y : X) (es : List (ℕ × X)) → shows (es ++ (n, y) ∷ []) ≡ shows es ++ (n, f y) ∷ []
    shows_push n y [] = refl
    shows_push n y (e ∷ es) = ap (λ l. (e.0, f e.1) ∷ l) (shows_push n y es)

    without_step : (b : Bool) (e : ℕ × X) (es fs : List (ℕ × X)) → shows (cond b es (e ∷ fs)) ≡ cond b (shows es) ((e.0, f e.1) ∷ shows fs)
    without_step true e es fs = refl
    without_step false e es fs = refl

    pub shows_without : (n : ℕ) (es : List (ℕ × X)) → shows (without_at n es) ≡ without_at n (shows es)
    shows_without n [] = refl
    shows_without n (e ∷ es) = without_step (nat_eq n e.0) e es (without_at n es) ∙ ap (λ l. cond (nat_eq n e.0) (shows es) ((e.0, f e.1) ∷ l)) (shows_without n es)
