-- The numbers that files take, in the order in which walks come to them first.
use Rattle.std.proofs.Common.{inl, inr, ◌≡◌, ◌≢◌, ◌⊎◌, ℕ, suc, ◌+◌, true, false, cond, List, [], ◌∷◌, ◌++◌, length, map, nat_eq, Option, Some, None, refl, sym}
use Rattle.std.proofs.Common.{ap, subst, ◌∙◌, append_assoc, append-nil, arith}
use Rattle.std.specs.Prelude.{Contains, if◌then◌else◌, slice_get}
use Rattle.std.proofs.lemmas.List.{length-append, map-append}
use Rattle.std.proofs.lemmas.List.Elements.{Contains-append_cases, Contains-append_left, Contains-append_right}
use Rattle.nfs_inodes.specs.Law.{Law, Lives}
use Rattle.nfs_inodes.specs.Tree.{Tree, File, Volume, entries_in, on_some}
use Rattle.nfs_inodes.proofs.Lists.{by_test, in_head, in_tail, head_or_tail, not_in_empty, not_both, true_and_false}
use Rattle.nfs_inodes.proofs.Maps.{apart_number, itself}
use Rattle.nfs_describe.specs.Places.{IsWalk, FilePath}
use Rattle.nfs_describe.specs.Texts.{first_name}
use Rattle.nfs_round_trip.specs.Copies.{counted_from, first_seen}
use Rattle.nfs_round_trip.proofs.Directories.{entries_of}
use Rattle.nfs_round_trip.proofs.Made.{Has, push_has}
use Rattle.nfs_round_trip.proofs.Volumes.{Numbered, OnFirst}
use Rattle.nfs_round_trip.proofs.Walks.{Step, contains_middle, parent_stands, place_of, places_of_steps, root_place, step_is_from, steps}

-- ---- every place of a walk lives in its volume

module _ (t : Tree) (law : Law t) (index : ℕ) where
  abbrev pub IsInside : FilePath → Type 0
  IsInside p = (f : File) × Lives t p.number f × (f.volume ≡ index)

  all_inside : (root : ℕ) (walk : List FilePath) (todo done : List Step) → IsWalk t root walk → steps t walk ≡ done ++ todo
      → ((p : FilePath) → Contains (root_place t root ∷ map place_of done) p → IsInside p) → (p : FilePath)
      → Contains (root_place t root ∷ map place_of (steps t walk)) p → IsInside p
  all_inside root walk [] done walked are inside p c = inside p (subst (λ l. Contains (root_place t root ∷ map place_of l) p) (are ∙ append-nil done) c)
  all_inside root walk (s ∷ todo) done walked are inside p c =
      let parent = inside s.0 (parent_stands t root walk done s todo walked are) in
      let from = step_is_from t walk done s todo are in
      let entry : Contains (entries_in parent.0.kind) s.1 = subst (λ l. Contains l s.1) (sym from.entries ∙ entries_of t law s.0.number parent.0 parent.1)
      (contains_middle s.1 from.one from.two) in
      let target = law.entries s.0.number parent.0 s.1 parent.1 entry in
      all_inside root walk todo (done ++ s ∷ []) walked (are ∙ sym (append_assoc done (s ∷ []) todo))
      (λ q there. elim (Contains-append_cases (root_place t root ∷ map place_of done) (place_of s ∷ []) q
      (subst (λ l. Contains (root_place t root ∷ l) q) (map-append place_of done (s ∷ [])) there)) [
        | inl was ↦ inside q was
        | inr is ↦ elim (head_or_tail (place_of s) q [] is) [
          | inl e ↦ subst IsInside e (target.0, target.1, target.2 ∙ parent.2)
          | inr none ↦ absurd (not_in_empty [] q refl none)
        ]
      ]) p c

  pub inside_walk : (w : Volume) (walk : List FilePath) → slice_get t.volumes index ≡ Some w → IsWalk t w.root walk → (p : FilePath) → Contains walk p → IsInside p
  inside_walk w walk at_w walked p c =
      let root = law.roots index w at_w in
      all_inside w.root walk (steps t walk) [] walked refl
      (λ q there. elim (head_or_tail (root_place t w.root) q [] there) [
        | inl e ↦ subst IsInside e (root.0, root.1.0, root.3)
        | inr none ↦ absurd (not_in_empty [] q refl none)
      ]) p (subst (λ l. Contains l p) (walked ∙ ap (λ l. root_place t w.root ∷ l) (sym (places_of_steps t walk))) c)

-- ---- numbers

counted_is : (k : ℕ) (before rest : List ℕ) (n : ℕ) → (Has n before → ⊥) → counted_from k (before ++ n ∷ rest) n ≡ k + length before
counted_is k [] rest n none = ap (λ b. if b then k else counted_from (suc k) rest n) (itself n) ∙ omega arith
counted_is k (m ∷ before) rest n none =
    ap (λ b. if b then k else counted_from (suc k) (before ++ n ∷ rest) n) (apart_number m n (λ e. none (inl e)))
    ∙ counted_is (suc k) before rest n (λ has. none (inr has)) ∙ omega arith

found_there : (n : ℕ) (places : List FilePath) (p : FilePath) → Contains places p → p.number ≡ n → first_name n places ≢ None
found_there n [] p c e none = not_in_empty [] p refl c
found_there n (q ∷ places) p c e none = by_test (nat_eq q.number n)
    (λ y. not_both none (ap (λ b. cond b (Some q) (first_name n places)) y))
    (λ o. elim (head_or_tail q p places c) [
      | inl is ↦ not_same q.number n o (ap (λ (r : FilePath). r.number) is ∙ e)
      | inr r ↦ found_there n places p r e (sym (ap (λ b. cond b (Some q) (first_name n places)) o) ∙ none)
    ])
  where
    not_same : (a b : ℕ) → nat_eq a b ≡ false → a ≡ b → ⊥
    not_same a b o is = true_and_false (subst (λ c. nat_eq a c ≡ true) is (itself a)) o

module _ (order : List ℕ) (Old : ℕ → Type 0) where
  abbrev NumberedFrom : List FilePath → List FilePath → List ℕ → Type 0
  NumberedFrom places before given = Numbered (counted_from 1 order) (suc (length given + length (first_seen before places))) before places (suc (length given))

  -- what was numbered is of other volumes, or stands among the places before
  abbrev pub KnownOf : List FilePath → List ℕ → Type 0
  KnownOf before given = (m : ℕ) → Has m given → Old m ⊎ ((q : FilePath) × Contains before q × (q.number ≡ m))

  known_on : (p : FilePath) (before : List FilePath) (given more : List ℕ) → KnownOf before given → ((m : ℕ) → Has m more → Has m given ⊎ (p.number ≡ m))
      → KnownOf (before ++ p ∷ []) more
  known_on p before given more known from m has = elim (from m has) [
    | inl was ↦ elim (known m was) [
      | inl old ↦ inl old
      | inr it ↦ inr (it.0, Contains-append_left before (p ∷ []) it.0 it.1, it.2)
    ]
    | inr e ↦ inr (p, Contains-append_right before (p ∷ []) p (in_head p []), e)
  ]

  step : (p : FilePath) (places before : List FilePath) (given later : List ℕ) → KnownOf before given → (Old p.number → ⊥)
      → ((more after : List ℕ) → order ≡ more ++ (first_seen (before ++ p ∷ []) places ++ after) → KnownOf (before ++ p ∷ []) more
      → NumberedFrom places (before ++ p ∷ []) more)
      → (o : Option FilePath) → first_name p.number before ≡ o
      → order ≡ given ++ (on_some o (p.number ∷ first_seen (before ++ p ∷ []) places) (λ first. first_seen (before ++ p ∷ []) places) ++ later)
      → OnFirst o
      ((counted_from 1 order p.number ≡ suc (length given))
      × Numbered (counted_from 1 order) (suc (length given + suc (length (first_seen (before ++ p ∷ []) places))))
      (before ++ p ∷ []) places (suc (suc (length given))))
      (NumberedFrom places (before ++ p ∷ []) given)
  step p places before given later known new rest None none is =
      let after : List ℕ = first_seen (before ++ p ∷ []) places in
      let one = length-append given (p.number ∷ []) in
      let fresh : Has p.number given → ⊥ = λ has. elim (known p.number has) [
        | inl old ↦ new old
        | inr it ↦ found_there p.number before it.0 it.1 it.2 none
      ] in
      let more = rest (given ++ p.number ∷ []) later (is ∙ sym (append_assoc given (p.number ∷ []) (after ++ later)))
      (known_on p before given (given ++ p.number ∷ []) known (λ m has. push_has m p.number given has)) in
      let last : suc (length (given ++ p.number ∷ []) + length after) ≡ suc (length given + suc (length after)) = omega (arith, one) in
      let first : suc (length (given ++ p.number ∷ [])) ≡ suc (suc (length given)) = omega (arith, one) in (
        ap (λ l. counted_from 1 l p.number) is ∙ counted_is 1 given (after ++ later) p.number fresh ∙ omega arith,
        subst (λ n. Numbered (counted_from 1 order) n (before ++ p ∷ []) places (suc (suc (length given)))) last
            (subst (λ n. Numbered (counted_from 1 order) (suc (length (given ++ p.number ∷ []) + length after)) (before ++ p ∷ []) places n) first more),
      )
  step p places before given later known new rest (Some first) found is = rest given later is (known_on p before given given known (λ m has. inl has))

  counted : (p : FilePath) (places before : List FilePath) (given : List ℕ) (o : Option FilePath)
      → OnFirst o
      ((counted_from 1 order p.number ≡ suc (length given))
      × Numbered (counted_from 1 order) (suc (length given + suc (length (first_seen (before ++ p ∷ []) places))))
      (before ++ p ∷ []) places (suc (suc (length given))))
      (NumberedFrom places (before ++ p ∷ []) given)
      → OnFirst o
      ((counted_from 1 order p.number ≡ suc (length given))
      × Numbered (counted_from 1 order)
      (suc (length given + length (on_some o (p.number ∷ first_seen (before ++ p ∷ []) places) (λ first. first_seen (before ++ p ∷ []) places))))
      (before ++ p ∷ []) places (suc (suc (length given))))
      (Numbered (counted_from 1 order)
      (suc (length given + length (on_some o (p.number ∷ first_seen (before ++ p ∷ []) places) (λ first. first_seen (before ++ p ∷ []) places))))
      (before ++ p ∷ []) places (suc (length given)))
  counted p places before given None it = it
  counted p places before given (Some first) it = it

  pub numbered_from : (places before : List FilePath) (given later : List ℕ) → order ≡ given ++ (first_seen before places ++ later) → KnownOf before given
      → ((p : FilePath) → Contains places p → Old p.number → ⊥) → NumberedFrom places before given
  numbered_from [] before given later is known new = omega arith
  numbered_from (p ∷ places) before given later is known new =
      counted p places before given (first_name p.number before)
      (step p places before given later known (new p (in_head p places))
      (λ more after are known_more. numbered_from places (before ++ p ∷ []) more after are known_more (λ q c. new q (in_tail p q places c)))
      (first_name p.number before) refl is)
