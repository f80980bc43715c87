-- Steps to the parent, and how many there can be.
use Rattle.std.proofs.Common.{◌≡◌, ◌≢◌, ℕ, zero, suc, ◌+◌, ◌-◌, ◌<◌, true, false, List, [], ◌∷◌, length, Some, refl, sym, ap, subst, ◌∙◌, arith}
use Rattle.std.specs.Prelude.{nat_eq, IsSome}
use Rattle.std.specs.List.{AllByRecursion, IsDistinct, list_any}
use Rattle.std.specs.Map.{lookup}
use Rattle.std.proofs.lemmas.Bool.{eqb-true, eq-eqb}
use Rattle.std.proofs.lemmas.Cmp.{nat_eq_equiv}
use Rattle.std.proofs.lemmas.Map.Steps.{length-le_from_keys}
use Rattle.nfs_inodes.specs.Tree.{Tree, File, at, on_some, is_directory, parent_in}
use Rattle.nfs_inodes.specs.Law.{Law, LivesAsDirectory, IsReached, climb, parent_of, directories}
use Rattle.nfs_inodes.proofs.Lists.{by_number, by_test, if_true, if_false, same_some, not_both}
use Rattle.nfs_inodes.proofs.Maps.{at_here, at_after}

module _ (files : List (ℕ × File)) where
  pub climb_add : (a b m : ℕ) → climb (a + b) files m ≡ climb b files (climb a files m)
  climb_add zero b m = let z : 0 + b ≡ b = omega arith in ap (λ k. climb k files m) z
  climb_add (suc a) b m = ap (λ k. climb k files m) (the_sum a b) ∙ climb_add a b (parent_of files m)
    where
      the_sum : (a b : ℕ) → suc a + b ≡ suc (a + b)
      the_sum a b = omega arith

  -- where a directory is its own parent, steps to it lead nowhere else
  pub climb_stuck : (k n : ℕ) → parent_of files n ≡ n → climb k files n ≡ n
  climb_stuck zero n up = refl
  climb_stuck (suc k) n up = ap (climb k files) up ∙ climb_stuck k n up

  -- the numbers on the way
  abbrev pub way : ℕ → ℕ → List ℕ
  way zero m = []
  way (suc k) m = m ∷ way k (parent_of files m)

  length-way : (k m : ℕ) → length (way k m) ≡ k
  length-way zero m = refl
  length-way (suc k) m = let l = length-way k (parent_of files m) in omega (arith, l)

  -- a first step count: before it, the root isn't met
  record First (r m k : ℕ) : Type 0 where
    there : climb k files m ≡ r
    before : (j : ℕ) → j < k → climb j files m ≢ r

  first : (r k m : ℕ) → climb k files m ≡ r → (l : ℕ) × First r m l
  first r zero m up = (0, record { there = up; before = λ j l. absurd (omega (arith, l)) })
  first r (suc k) m up = by_number m r
      (λ s. (0, record { there = s; before = λ j l. absurd (omega (arith, l)) }))
      (λ o. let f = first r k (parent_of files m) up in
      (suc f.0, record { there = f.1.there; before = λ j l. earlier f.0 m r o f.1 j l }))
    where
      earlier : (l m r : ℕ) → m ≢ r → First r (parent_of files m) l → (j : ℕ) → j < suc l → climb j files m ≢ r
      earlier l m r o f zero h = o
      earlier l m r o f (suc j) h = f.before j (omega (arith, h))

  -- no number stands twice on the way to the first meeting
  apart_on : (m x k : ℕ) → ((j : ℕ) → j < k → climb j files x ≢ m) → AllByRecursion (λ y. nat_eq m y ≡ false) (way k x)
  apart_on m x zero h = tt
  apart_on m x (suc k) h = (by_test (nat_eq m x) (λ t. absurd (h 0 (omega arith) (sym (eqb-true m x t)))) (λ f. f), apart_on m (parent_of files x) k (λ j l. h (suc j) (omega (arith, l))))

  shifted : (r m k : ℕ) → First r m (suc k) → First r (parent_of files m) k
  shifted r m k f = record { there = f.there; before = λ j l. f.before (suc j) (omega (arith, l)) }

  way_apart : (r k m : ℕ) → First r m k → IsDistinct nat_eq (way k m)
  unfolding IsDistinct
  way_apart r zero m f = tt
  way_apart r (suc k) m f = (
    apart_on m (parent_of files m) k (λ j l s.
        let here : climb (suc j) files m ≡ m = s in
        let again : climb (suc j + (k - j)) files m ≡ climb (k - j) files m = climb_add (suc j) (k - j) m ∙ ap (climb (k - j) files) here in
        let all : suc j + (k - j) ≡ suc k = omega (arith, l) in
        f.before (k - j) (omega (arith, l)) (sym again ∙ ap (λ q. climb q files m) all ∙ f.there)),
    way_apart r k (parent_of files m) (shifted r m k f),
  )

-- a live directory is among the directories
listed_live : (q : ℕ) (es : List (ℕ × File)) (f : File) → at q es ≡ Some f → is_directory f.kind ≡ true → IsSome (lookup (nat_eq q) (directories es))
listed_live q [] f e d = absurd (not_both refl e)
listed_live q (x ∷ es) f e d = by_number q x.0
    (λ s. let is : x.1 ≡ f = same_some (sym (at_here x es) ∙ ap (λ k. at k (x ∷ es)) (sym s) ∙ e) in
    let dir : is_directory x.1.kind ≡ true = ap (λ (k : File). is_directory k.kind) is ∙ d in
    subst (λ l. IsSome (lookup (nat_eq q) l)) (sym (if_true (x ∷ directories es) (directories es) dir))
    (subst IsSome (sym (if_true (Some x.1) (lookup (nat_eq q) (directories es)) (eq-eqb q x.0 s))) refl))
    (λ o. let rest = listed_live q es f (sym (at_after q x es o) ∙ e) d in
    by_test (is_directory x.1.kind)
    (λ y. subst (λ l. IsSome (lookup (nat_eq q) l)) (sym (if_true (x ∷ directories es) (directories es) y))
    (by_test (nat_eq q x.0) (λ t. absurd (o (eqb-true q x.0 t))) (λ n. subst IsSome (sym (if_false (Some x.1) (lookup (nat_eq q) (directories es)) n)) rest)))
    (λ n. subst (λ l. IsSome (lookup (nat_eq q) l)) (sym (if_false (x ∷ directories es) (directories es) n)) rest))

-- each number on the way from a directory is one
way_lives : (t : Tree) → Law t → (k m : ℕ) (h : File) → LivesAsDirectory t m h → (q : ℕ) → list_any (nat_eq q) (way t.files k m) ≡ true → IsSome (lookup (nat_eq q) (directories t.files))
way_lives t law zero m h at_m q e = cc
way_lives t law (suc k) m h at_m q e = by_test (nat_eq q m)
    (λ y. listed_live q t.files h (ap (λ n. at n t.files) (eqb-true q m y) ∙ at_m.0) at_m.1)
    (λ n. let home = law.homes m h at_m in
    let up : parent_of t.files m ≡ parent_in h.kind = ap (λ o. on_some o 0 (λ k. parent_in k.kind)) at_m.0 in
    way_lives t law k (parent_of t.files m) home.0 (ap (λ j. at j t.files) up ∙ home.1.0, home.1.1) q (rw n at e))

pub reached_in_few : (t : Tree) → Law t → (n : ℕ) (f : File) → LivesAsDirectory t n f → IsReached t n f
reached_in_few t law n f at_n =
    let r = law.reached n f at_n in
    let l = first t.files r.1.root r.0 n r.3 in
    let le = length-le_from_keys nat_eq_equiv (way t.files l.0 n) (directories t.files) (way_apart t.files r.1.root l.0 n l.1) (way_lives t law l.0 n f at_n) in
    let long = length-way t.files l.0 n in
    record { volume = r.1; at_volume = r.2; steps = l.0; few = omega (arith, le, long); root = l.1.there }
