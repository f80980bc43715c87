-- The files of a tree that is made again, as far as it is made.
use Rattle.std.proofs.Common.{inl, inr, ◌≡◌, ◌≢◌, ◌⊎◌, ℕ, suc, zero, ◌+◌, ◌*◌, ◌<◌, ◌≤◌, true, List, [], ◌∷◌, ◌++◌, length, sum_by, nat_eq, Some, None, refl}
use Rattle.std.proofs.Common.{sym, ap, subst, ◌∙◌, arith}
use Rattle.std.specs.Prelude.{Bool, if◌then◌else◌}
use Rattle.std.proofs.lemmas.List.Sums.{sum_by-cons}
use Rattle.nfs_inodes.specs.Tree.{Tree, File, Kind, Entry, Regular, Directory, Link, at, with_at, on_some, one_when}
use Rattle.nfs_inodes.specs.Law.{AreRising, Lives}
use Rattle.nfs_inodes.proofs.Lists.{by_number, if_true, if_false, none_from, same_some, not_both}
use Rattle.nfs_inodes.proofs.Maps.{at_here, at_after, apart_number, itself, rising_bounds}
use Rattle.nfs_load.specs.Effects.{start}
use Rattle.nfs_round_trip.specs.Copies.{copied}

-- ---- numbers of a list

abbrev pub Has : ℕ → List ℕ → Type 0
Has n [] = ⊥
Has n (m ∷ ms) = (m ≡ n) ⊎ Has n ms

pub has_push : (n m : ℕ) (ns : List ℕ) → Has n ns → Has n (ns ++ m ∷ [])
has_push n m [] h = absurd h
has_push n m (k ∷ ns) h = elim h [ inl e ↦ inl e | inr r ↦ inr (has_push n m ns r) ]

pub has_last : (n : ℕ) (ns : List ℕ) → Has n (ns ++ n ∷ [])
has_last n [] = inl refl
has_last n (k ∷ ns) = inr (has_last n ns)

pub push_has : (n m : ℕ) (ns : List ℕ) → Has n (ns ++ m ∷ []) → Has n ns ⊎ (m ≡ n)
push_has n m [] h = elim h [ inl e ↦ inr e | inr r ↦ absurd r ]
push_has n m (k ∷ ns) h = elim h [
  | inl e ↦ inl (inl e)
  | inr r ↦ elim (push_has n m ns r) [ inl was ↦ inl (inr was) | inr is ↦ inr is ]
]

-- how often a number stands in a list
abbrev pub times : ℕ → List ℕ → ℕ
times n ns = sum_by (λ m. one_when (nat_eq m n)) ns

-- ---- a file with some of its entries

abbrev pub with_entries : List Entry → Kind → Kind
with_entries es (Regular bytes) = Regular bytes
with_entries es (Directory parent next_cookie entries) = Directory parent next_cookie es
with_entries es (Link path) = Link path

-- a file with these entries, and with its times or those of everything that a description makes
abbrev pub partly : List Entry → Bool → File → File
partly es timed f = record f {
  kind = with_entries es f.kind;
  atime = if timed then f.atime else start;
  mtime = if timed then f.mtime else start;
  ctime = if timed then f.ctime else start;
}

-- ---- files that are made

-- the file of a number, made as far as this
pub record IsMade (t : Tree) (number : ℕ → ℕ) (so_far : ℕ → File → File) (n : ℕ) (h : File) : Type 0 where
  pub file : File
  pub at_file : Lives t n file
  pub tag : ℕ
  pub is : h ≡ copied number tag (so_far n file)

-- those of some numbers, in their order, under rising numbers
abbrev pub AreMade : Tree → (ℕ → ℕ) → (ℕ → File → File) → ℕ → List ℕ → List (ℕ × File) → Type 0
AreMade t number so_far k [] [] = Unit {0}
AreMade t number so_far k [] (x ∷ xs) = ⊥
AreMade t number so_far k (n ∷ ns) [] = ⊥
AreMade t number so_far k (n ∷ ns) (x ∷ xs) = (x.0 ≡ k) × (number n ≡ k) × IsMade t number so_far n x.1 × AreMade t number so_far (suc k) ns xs

module _ (t : Tree) (number : ℕ → ℕ) where
  pub made_push : (so_far : ℕ → File → File) (k : ℕ) (ns : List ℕ) (xs : List (ℕ × File)) (n m : ℕ) (h : File)
      → AreMade t number so_far k ns xs → m ≡ k + length ns → number n ≡ m → IsMade t number so_far n h
      → AreMade t number so_far k (ns ++ n ∷ []) (xs ++ (m, h) ∷ [])
  made_push so_far k [] [] n m h all is named made = let e : m ≡ k = omega (arith, is) in (e, named ∙ e, made, tt)
  made_push so_far k [] (x ∷ xs) n m h all is named made = absurd all
  made_push so_far k (a ∷ ns) [] n m h all is named made = absurd all
  made_push so_far k (a ∷ ns) (x ∷ xs) n m h all is named made =
      (all.0, all.1, all.2, made_push so_far (suc k) ns xs n m h all.3 (omega (arith, is)) named made)

  pub made_bounds : (so_far : ℕ → File → File) (k : ℕ) (ns : List ℕ) (xs : List (ℕ × File)) (n : ℕ)
      → AreMade t number so_far k ns xs → Has n ns → (k ≤ number n) × (number n < k + length ns)
  made_bounds so_far k [] xs n all has = absurd has
  made_bounds so_far k (a ∷ ns) [] n all has = absurd all
  made_bounds so_far k (a ∷ ns) (x ∷ xs) n all has = elim has [
    | inl e ↦ let is : number n ≡ k = ap number (sym e) ∙ all.1 in (omega (arith, is), omega (arith, is))
    | inr r ↦ let b = made_bounds so_far (suc k) ns xs n all.3 r in let low = b.0 in let high = b.1 in (omega (arith, low), omega (arith, high))
  ]

  pub same_made : (old new : ℕ → File → File) (n : ℕ) (h : File) → new n ≡ old n → IsMade t number old n h → IsMade t number new n h
  same_made old new n h e made = record {
    file = made.file;
    at_file = made.at_file;
    tag = made.tag;
    is = made.is ∙ ap (λ (to : File → File). copied number made.tag (to made.file)) (sym e);
  }

  pub made_each : (old new : ℕ → File → File) (k : ℕ) (ns : List ℕ) (xs : List (ℕ × File))
      → AreMade t number old k ns xs → ((n : ℕ) (h : File) → Has n ns → IsMade t number old n h → IsMade t number new n h) → AreMade t number new k ns xs
  made_each old new k [] [] all each = tt
  made_each old new k [] (x ∷ xs) all each = absurd all
  made_each old new k (a ∷ ns) [] all each = absurd all
  made_each old new k (a ∷ ns) (x ∷ xs) all each =
      (all.0, all.1, each a x.1 (inl refl) all.2, made_each old new (suc k) ns xs all.3 (λ n h has made. each n h (inr has) made))

  made_same : (old new : ℕ → File → File) (k : ℕ) (ns : List ℕ) (xs : List (ℕ × File))
      → AreMade t number old k ns xs → ((n : ℕ) → Has n ns → new n ≡ old n) → AreMade t number new k ns xs
  made_same old new k ns xs all same = made_each old new k ns xs all (λ n h has made. same_made old new n h (same n has) made)

  -- one of them made anew
  pub made_with : (old new : ℕ → File → File) (k : ℕ) (ns : List ℕ) (xs : List (ℕ × File)) (d : ℕ) (h : File)
      → AreMade t number old k ns xs → Has d ns → ((n : ℕ) → n ≢ d → new n ≡ old n) → IsMade t number new d h
      → AreMade t number new k ns (with_at (number d) h xs)
  made_with old new k [] xs d h all has same made = absurd has
  made_with old new k (a ∷ ns) [] d h all has same made = absurd all
  made_with old new k (a ∷ ns) (x ∷ xs) d h all has same made = elim has [
    | inl e ↦
        let is : number d ≡ x.0 = ap number (sym e) ∙ all.1 ∙ sym all.0 in
        let tail : AreMade t number new (suc k) ns xs = made_same old new (suc k) ns xs all.3
        (λ n has. same n (λ s. let b = (made_bounds old (suc k) ns xs n all.3 has).0 in let one : number n ≡ k = ap number (s ∙ sym e) ∙ all.1 in
        omega (arith, b, one))) in
        subst (λ l. AreMade t number new k (a ∷ ns) l) (sym
        (if_true ((x.0, h) ∷ xs) (x ∷ with_at (number d) h xs) (subst (λ m. nat_eq (number d) m ≡ true) is (itself (number d)))))
        (all.0, all.1, subst (λ m. IsMade t number new m h) (sym e) made, tail)
    | inr r ↦
        let low = (made_bounds old (suc k) ns xs d all.3 r).0 in
        let apart : number d ≢ x.0 = λ s. let one = all.0 in omega (arith, low, s, one) in
        let other : a ≢ d = λ s. let one : number d ≡ k = ap number (sym s) ∙ all.1 in omega (arith, low, one) in
        subst (λ l. AreMade t number new k (a ∷ ns) l) (sym (if_false ((x.0, h) ∷ xs) (x ∷ with_at (number d) h xs) (apart_number (number d) x.0 apart)))
        (all.0, all.1, same_made old new a x.1 (same a other) all.2, made_with old new (suc k) ns xs d h all.3 r same made)
  ]

  module _ (so_far : ℕ → File → File) where
    pub made_at : (k : ℕ) (ns : List ℕ) (xs : List (ℕ × File)) (n : ℕ) → AreMade t number so_far k ns xs → Has n ns → (h : File) × (at (number n) xs ≡ Some h)
        × IsMade t number so_far n h
    made_at k [] xs n all has = absurd has
    made_at k (a ∷ ns) [] n all has = absurd all
    made_at k (a ∷ ns) (x ∷ xs) n all has = elim has [
      | inl e ↦
          let is : number n ≡ x.0 = ap number (sym e) ∙ all.1 ∙ sym all.0 in
          (x.1, ap (λ m. at m (x ∷ xs)) is ∙ at_here x xs, subst (λ m. IsMade t number so_far m x.1) e all.2)
      | inr r ↦
          let low = (made_bounds so_far (suc k) ns xs n all.3 r).0 in
          let apart : number n ≢ x.0 = λ s. let one = all.0 in omega (arith, low, s, one) in
          let rest = made_at (suc k) ns xs n all.3 r in
          (rest.0, at_after (number n) x xs apart ∙ rest.1, rest.2)
    ]

    pub made_back : (k : ℕ) (ns : List ℕ) (xs : List (ℕ × File)) (m : ℕ) (h : File) → AreMade t number so_far k ns xs → at m xs ≡ Some h
        → (n : ℕ) × Has n ns × (number n ≡ m) × IsMade t number so_far n h
    made_back k [] [] m h all lives = absurd (not_both refl lives)
    made_back k [] (x ∷ xs) m h all lives = absurd all
    made_back k (a ∷ ns) [] m h all lives = absurd all
    made_back k (a ∷ ns) (x ∷ xs) m h all lives = by_number m x.0
        (λ s. let is : x.1 ≡ h = same_some (sym (at_here x xs) ∙ ap (λ i. at i (x ∷ xs)) (sym s) ∙ lives) in
        (a, inl refl, all.1 ∙ sym all.0 ∙ sym s, subst (λ f. IsMade t number so_far a f) is all.2))
        (λ o. let rest = made_back (suc k) ns xs m h all.3 (sym (at_after m x xs o) ∙ lives) in (rest.0, inr rest.1, rest.2, rest.3))

    pub made_once : (k : ℕ) (ns : List ℕ) (xs : List (ℕ × File)) (m n : ℕ) → AreMade t number so_far k ns xs → Has m ns → Has n ns → number m ≡ number n → m ≡ n
    made_once k [] xs m n all one two e = absurd one
    made_once k (a ∷ ns) [] m n all one two e = absurd all
    made_once k (a ∷ ns) (x ∷ xs) m n all one two e = elim one [
      | inl here ↦ elim two [
        | inl there ↦ sym here ∙ there
        | inr there ↦ absurd (let low = (made_bounds so_far (suc k) ns xs n all.3 there).0 in let is : number n ≡ k = sym e ∙ ap number (sym here) ∙ all.1 in
            omega (arith, low, is))
      ]
      | inr here ↦ elim two [
        | inl there ↦ absurd (let low = (made_bounds so_far (suc k) ns xs m all.3 here).0 in let is : number m ≡ k = e ∙ ap number (sym there) ∙ all.1 in
            omega (arith, low, is))
        | inr there ↦ made_once (suc k) ns xs m n all.3 here there e
      ]
    ]

    pub made_length : (k : ℕ) (ns : List ℕ) (xs : List (ℕ × File)) → AreMade t number so_far k ns xs → length xs ≡ length ns
    made_length k [] [] all = refl
    made_length k [] (x ∷ xs) all = absurd all
    made_length k (a ∷ ns) [] all = absurd all
    made_length k (a ∷ ns) (x ∷ xs) all = ap suc (made_length (suc k) ns xs all.3)

    -- ---- what is counted

    -- a number that none of them has doesn't stand among them
    none_low : (k : ℕ) (ns : List ℕ) (xs : List (ℕ × File)) (n : ℕ) → AreMade t number so_far k ns xs → number n < k → times n ns ≡ 0
    none_low k [] xs n all low = refl
    none_low k (a ∷ ns) [] n all low = absurd all
    none_low k (a ∷ ns) (x ∷ xs) n all low =
        let rest = none_low (suc k) ns xs n all.3 (omega (arith, low)) in
        let other : a ≢ n = λ s. let is : number n ≡ k = ap number (sym s) ∙ all.1 in omega (arith, low, is) in
        let here : one_when (nat_eq a n) ≡ 0 = ap one_when (apart_number a n other) in
        let sum = sum_by-cons (λ (m : ℕ). one_when (nat_eq m n)) a ns in omega (arith, rest, here, sum)

    pub none_high : (k : ℕ) (ns : List ℕ) (xs : List (ℕ × File)) (n : ℕ) → AreMade t number so_far k ns xs → k + length ns ≤ number n → times n ns ≡ 0
    none_high k [] xs n all high = refl
    none_high k (a ∷ ns) [] n all high = absurd all
    none_high k (a ∷ ns) (x ∷ xs) n all high =
        let rest = none_high (suc k) ns xs n all.3 (omega (arith, high)) in
        let other : a ≢ n = λ s. let is : number n ≡ k = ap number (sym s) ∙ all.1 in omega (arith, high, is) in
        let here : one_when (nat_eq a n) ≡ 0 = ap one_when (apart_number a n other) in
        let sum = sum_by-cons (λ (m : ℕ). one_when (nat_eq m n)) a ns in omega (arith, rest, here, sum)

    pub at_most_once : (k : ℕ) (ns : List ℕ) (xs : List (ℕ × File)) (n : ℕ) → AreMade t number so_far k ns xs → times n ns ≤ 1
    at_most_once k [] xs n all = omega arith
    at_most_once k (a ∷ ns) [] n all = absurd all
    at_most_once k (a ∷ ns) (x ∷ xs) n all =
        let sum = sum_by-cons (λ (m : ℕ). one_when (nat_eq m n)) a ns in
        by_number a n
        (λ s. let is : number n ≡ k = ap number (sym s) ∙ all.1 in
        let rest = none_low (suc k) ns xs n all.3 (omega (arith, is)) in
        let here : one_when (nat_eq a n) ≡ 1 = ap one_when (subst (λ m. nat_eq a m ≡ true) s (itself a)) in omega (arith, rest, here, sum))
        (λ o. let rest = at_most_once (suc k) ns xs n all.3 in
        let here : one_when (nat_eq a n) ≡ 0 = ap one_when (apart_number a n o) in omega (arith, rest, here, sum))

    pub made_sum : (weight : File → ℕ) (share : ℕ → ℕ) (k : ℕ) (ns : List ℕ) (xs : List (ℕ × File)) → AreMade t number so_far k ns xs
        → ((n : ℕ) (h : File) → Has n ns → IsMade t number so_far n h → weight h ≤ share n) → sum_by (λ (e : ℕ × File). weight e.1) xs ≤ sum_by share ns
    made_sum weight share k [] [] all each = omega arith
    made_sum weight share k [] (x ∷ xs) all each = absurd all
    made_sum weight share k (a ∷ ns) [] all each = absurd all
    made_sum weight share k (a ∷ ns) (x ∷ xs) all each =
        let here = each a x.1 (inl refl) all.2 in
        let rest = made_sum weight share (suc k) ns xs all.3 (λ n h has made. each n h (inr has) made) in
        let one = sum_by-cons (λ (e : ℕ × File). weight e.1) x xs in
        let two = sum_by-cons share a ns in omega (arith, here, rest, one, two)

    pub made_sum_is : (weight : File → ℕ) (share : ℕ → ℕ) (k : ℕ) (ns : List ℕ) (xs : List (ℕ × File)) → AreMade t number so_far k ns xs
        → ((n : ℕ) (h : File) → Has n ns → IsMade t number so_far n h → weight h ≡ share n) → sum_by (λ (e : ℕ × File). weight e.1) xs ≡ sum_by share ns
    made_sum_is weight share k [] [] all each = refl
    made_sum_is weight share k [] (x ∷ xs) all each = absurd all
    made_sum_is weight share k (a ∷ ns) [] all each = absurd all
    made_sum_is weight share k (a ∷ ns) (x ∷ xs) all each =
        let here = each a x.1 (inl refl) all.2 in
        let rest = made_sum_is weight share (suc k) ns xs all.3 (λ n h has made. each n h (inr has) made) in
        let one = sum_by-cons (λ (e : ℕ × File). weight e.1) x xs in
        let two = sum_by-cons share a ns in omega (arith, here, rest, one, two)

-- ---- sums over numbers

pub sum_least : (one two : ℕ → ℕ) (ns : List ℕ) → ((n : ℕ) → Has n ns → one n ≤ two n) → sum_by one ns ≤ sum_by two ns
sum_least one two [] each = omega arith
sum_least one two (a ∷ ns) each =
    let here = each a (inl refl) in
    let rest = sum_least one two ns (λ n has. each n (inr has)) in
    let l = sum_by-cons one a ns in let r = sum_by-cons two a ns in omega (arith, here, rest, l, r)

pub sum_less : (one two : ℕ → ℕ) (ns : List ℕ) (d : ℕ) → ((n : ℕ) → Has n ns → one n ≤ two n) → Has d ns → one d + 1 ≤ two d → sum_by one ns + 1 ≤ sum_by two ns
sum_less one two [] d each has more = absurd has
sum_less one two (a ∷ ns) d each has more =
    let l = sum_by-cons one a ns in let r = sum_by-cons two a ns in elim has [
      | inl e ↦
          let here : one a + 1 ≤ two a = subst (λ m. one m + 1 ≤ two m) (sym e) more in
          let rest = sum_least one two ns (λ n has. each n (inr has)) in omega (arith, here, rest, l, r)
      | inr h ↦
          let here = each a (inl refl) in
          let rest = sum_less one two ns d (λ n has. each n (inr has)) h more in omega (arith, here, rest, l, r)
    ]

module _ {X : Type 0} (weight : X → ℕ) where
  -- what a number counts among numbered values
  abbrev pub weighed : List (ℕ × X) → ℕ → ℕ
  weighed xs n = on_some (at n xs) 0 weight

  weighed_step : (x : ℕ × X) (xs : List (ℕ × X)) (ns : List ℕ) → sum_by (weighed (x ∷ xs)) ns ≤ times x.0 ns * weight x.1 + sum_by (weighed xs) ns
  weighed_step x xs [] = omega arith
  weighed_step x xs (a ∷ ns) =
      let rest = weighed_step x xs ns in
      let l = sum_by-cons (weighed (x ∷ xs)) a ns in let r = sum_by-cons (weighed xs) a ns in
      let c = sum_by-cons (λ (m : ℕ). one_when (nat_eq m x.0)) a ns in
      by_number a x.0
      (λ s. let one : one_when (nat_eq a x.0) ≡ 1 = ap one_when (subst (λ m. nat_eq a m ≡ true) s (itself a)) in
      let here : weighed (x ∷ xs) a ≡ weight x.1 = ap (λ o. on_some o 0 weight) (ap (λ i. at i (x ∷ xs)) s ∙ at_here x xs) in
      let all : times x.0 (a ∷ ns) ≡ 1 + times x.0 ns = omega (arith, c, one) in
      let product : times x.0 (a ∷ ns) * weight x.1 ≡ weight x.1 + times x.0 ns * weight x.1 = ap (λ m. m * weight x.1) all ∙ omega arith in
      omega (arith, rest, l, r, here, product))
      (λ o. let none : one_when (nat_eq a x.0) ≡ 0 = ap one_when (apart_number a x.0 o) in
      let here : weighed (x ∷ xs) a ≡ weighed xs a = ap (λ o. on_some o 0 weight) (at_after a x xs o) in
      let all : times x.0 (a ∷ ns) ≡ times x.0 ns = omega (arith, c, none) in
      let product : times x.0 (a ∷ ns) * weight x.1 ≡ times x.0 ns * weight x.1 = ap (λ m. m * weight x.1) all in
      omega (arith, rest, l, r, here, product))

  weighed_none : (ns : List ℕ) → sum_by (weighed []) ns ≡ 0
  weighed_none [] = refl
  weighed_none (a ∷ ns) = let rest = weighed_none ns in let l = sum_by-cons (weighed []) a ns in omega (arith, rest, l)

  at_most : (c w : ℕ) → c ≤ 1 → c * w ≤ w
  at_most zero w le = omega arith
  at_most (suc c) w le = let none : c ≡ 0 = omega (arith, le) in let e : suc c * w ≡ 1 * w = ap (λ m. suc m * w) none in omega (arith, e)

  -- numbers that stand once count no more than all values
  pub weighed_all : (xs : List (ℕ × X)) (ns : List ℕ) → ((n : ℕ) → times n ns ≤ 1) → sum_by (weighed xs) ns ≤ sum_by (λ (e : ℕ × X). weight e.1) xs
  weighed_all [] ns once = let e = weighed_none ns in omega (arith, e)
  weighed_all (x ∷ xs) ns once =
      let step = weighed_step x xs ns in
      let rest = weighed_all xs ns once in
      let one = at_most (times x.0 ns) (weight x.1) (once x.0) in
      let sum = sum_by-cons (λ (e : ℕ × X). weight e.1) x xs in omega (arith, step, rest, one, sum)

  -- numbers among which each value's stands count no less
  weighed_same : (x : ℕ × X) (xs : List (ℕ × X)) (ns : List ℕ) → at x.0 xs ≡ None
      → sum_by (weighed (x ∷ xs)) ns ≡ times x.0 ns * weight x.1 + sum_by (weighed xs) ns
  weighed_same x xs [] none = omega arith
  weighed_same x xs (a ∷ ns) none =
      let rest = weighed_same x xs ns none in
      let l = sum_by-cons (weighed (x ∷ xs)) a ns in let r = sum_by-cons (weighed xs) a ns in
      let c = sum_by-cons (λ (m : ℕ). one_when (nat_eq m x.0)) a ns in
      by_number a x.0
      (λ s. let one : one_when (nat_eq a x.0) ≡ 1 = ap one_when (subst (λ m. nat_eq a m ≡ true) s (itself a)) in
      let here : weighed (x ∷ xs) a ≡ weight x.1 = ap (λ o. on_some o 0 weight) (ap (λ i. at i (x ∷ xs)) s ∙ at_here x xs) in
      let after : weighed xs a ≡ 0 = ap (λ o. on_some o 0 weight) (ap (λ i. at i xs) s ∙ none) in
      let all : times x.0 (a ∷ ns) ≡ 1 + times x.0 ns = omega (arith, c, one) in
      let product : times x.0 (a ∷ ns) * weight x.1 ≡ weight x.1 + times x.0 ns * weight x.1 = ap (λ m. m * weight x.1) all ∙ omega arith in
      omega (arith, rest, l, r, here, after, product))
      (λ o. let zero_times : one_when (nat_eq a x.0) ≡ 0 = ap one_when (apart_number a x.0 o) in
      let here : weighed (x ∷ xs) a ≡ weighed xs a = ap (λ o. on_some o 0 weight) (at_after a x xs o) in
      let all : times x.0 (a ∷ ns) ≡ times x.0 ns = omega (arith, c, zero_times) in
      let product : times x.0 (a ∷ ns) * weight x.1 ≡ times x.0 ns * weight x.1 = ap (λ m. m * weight x.1) all in
      omega (arith, rest, l, r, here, product))

  at_least : (c w : ℕ) → 1 ≤ c → w ≤ c * w
  at_least zero w le = absurd (omega (arith, le))
  at_least (suc c) w le = omega arith

  has_times : (n : ℕ) (ns : List ℕ) → Has n ns → 1 ≤ times n ns
  has_times n [] has = absurd has
  has_times n (m ∷ ns) has = let c = sum_by-cons (λ (k : ℕ). one_when (nat_eq k n)) m ns in elim has [
    | inl e ↦ let one : one_when (nat_eq m n) ≡ 1 = ap one_when (subst (λ i. nat_eq m i ≡ true) e (itself m)) in omega (arith, c, one)
    | inr r ↦ let rest = has_times n ns r in omega (arith, c, rest)
  ]

  pub weighed_least : (low next : ℕ) (xs : List (ℕ × X)) (ns : List ℕ) → AreRising low xs next → ((n : ℕ) (x : X) → at n xs ≡ Some x → Has n ns)
      → sum_by (λ (e : ℕ × X). weight e.1) xs ≤ sum_by (weighed xs) ns
  weighed_least low next [] ns rising each = omega arith
  weighed_least low next (x ∷ xs) ns rising each =
      let none : at x.0 xs ≡ None = none_from (at x.0 xs) (λ y e. let b = (rising_bounds x.0 next xs x.0 y rising.1 e).0 in omega (arith, b)) in
      let step = weighed_same x xs ns none in
      let rest = weighed_least x.0 next xs ns rising.1 (λ n y e. each n y
      (at_after n x xs (λ s. let b = (rising_bounds x.0 next xs n y rising.1 e).0 in omega (arith, b, s)) ∙ e)) in
      let one = at_least (times x.0 ns) (weight x.1) (has_times x.0 ns (each x.0 x.1 (at_here x xs))) in
      let sum = sum_by-cons (λ (e : ℕ × X). weight e.1) x xs in omega (arith, step, rest, one, sum)
