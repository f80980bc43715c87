-- A walk from a directory to its parents.
use Rattle.std.proofs.Common.{inl, inr, ◌≡◌, ◌≢◌, ℕ, ◌+◌, ◌-◌, ◌<◌, ◌≤◌, List, [], ◌∷◌, length, refl, sym, ap, subst, ◌∙◌, arith}
use Rattle.std.proofs.lemmas.Bool.{cases_lt}
use Rattle.nfs_inodes.specs.Tree.{Tree, File, is_directory, parent_in, on_some}
use Rattle.nfs_inodes.specs.Law.{Law, LivesAsDirectory, AreRising, climb, parent_of, directories}
use Rattle.nfs_inodes.proofs.Lists.{by_number, by_test, if_true, if_false}
use Rattle.nfs_inodes.proofs.law.Ancestors.{climb_add, climb_stuck, reached_in_few}

-- so many steps have led from a directory to a number, each to another one, and none from the number that is looked for
pub record Climbed (files : List (ℕ × File)) (dir above here steps : ℕ) : Type 0 where
  pub is : here ≡ climb steps files dir
  pub apart : (j : ℕ) → j < steps → climb j files dir ≢ above
  pub moves : (j : ℕ) → j < steps → climb (j + 1) files dir ≢ climb j files dir

module _ (files : List (ℕ × File)) where
  climb_one : (j n : ℕ) → climb (j + 1) files n ≡ parent_of files (climb j files n)
  climb_one j n = climb_add files j 1 n

  module _ (dir above here steps : ℕ) (walk : Climbed files dir above here steps) (other : here ≢ above) where
    earlier : (P : ℕ → Type 0) → ((j : ℕ) → j < steps → P j) → P steps → (j : ℕ) → j < steps + 1 → P j
    earlier P each last j l = by_number j steps (λ s. subst P (sym s) last) (λ o. each j (omega (arith, l, o)))

    pub walks_on : (parent : ℕ) → parent ≡ parent_of files here → parent ≢ here → Climbed files dir above parent (steps + 1)
    walks_on parent is moves = record {
      is = is ∙ ap (parent_of files) walk.is ∙ sym (climb_one steps dir);
      apart = earlier (λ j. climb j files dir ≢ above) walk.apart (λ s. other (walk.is ∙ s));
      moves = earlier (λ j. climb (j + 1) files dir ≢ climb j files dir) walk.moves (λ s. moves (is ∙ ap (parent_of files) walk.is ∙ sym (climb_one steps dir) ∙ s ∙ sym walk.is));
    }

    pub walks_no_more : parent_of files here ≡ here → (j : ℕ) → climb j files dir ≢ above
    walks_no_more stuck j s = elim (cases_lt j steps) [
      | inl l ↦ walk.apart j l s
      | inr l ↦
          let all : steps + (j - steps) ≡ j = omega (arith, l) in
          other (sym (climb_stuck files (j - steps) here stuck) ∙ ap (climb (j - steps) files) walk.is ∙ sym (climb_add files steps (j - steps) dir) ∙ ap (λ k. climb k files dir) all ∙ s)
    ]

pub begins : (files : List (ℕ × File)) (dir above : ℕ) → Climbed files dir above dir 0
begins files dir above = record { is = refl; apart = λ j l. absurd (omega (arith, l)); moves = λ j l. absurd (omega (arith, l)) }

pub few_directories : (es : List (ℕ × File)) → length (directories es) ≤ length es
few_directories [] = omega arith
few_directories (e ∷ es) = let rest = few_directories es in by_test (is_directory e.1.kind)
    (λ y. let l : length (directories (e ∷ es)) ≡ length (e ∷ directories es) = ap length (if_true (e ∷ directories es) (directories es) y) in omega (arith, rest, l))
    (λ n. let l : length (directories (e ∷ es)) ≡ length (directories es) = ap length (if_false (e ∷ directories es) (directories es) n) in omega (arith, rest, l))

rising_length : {X : Type 0} (low next : ℕ) (es : List (ℕ × X)) → AreRising low es next → low + length es < next
rising_length low next [] r = omega (arith, r)
rising_length low next (e ∷ es) r = let rest = rising_length e.0 next es r.1 in let first = r.0 in omega (arith, rest, first)

-- a root is met before as many steps as there are numbers
pub walks_end : (t : Tree) (dir above here steps : ℕ) (f : File) → Law t → LivesAsDirectory t dir f → Climbed t.files dir above here steps → t.next ≤ steps → ⊥
walks_end t dir above here steps f law lives walk many =
    let r = reached_in_few t law dir f lives in
    let root = law.roots f.volume r.volume r.at_volume in
    let up : parent_of t.files r.volume.root ≡ r.volume.root = ap (λ o. on_some o 0 (λ k. parent_in k.kind)) root.1.0 ∙ root.2 in
    let few = r.few in let dirs = few_directories t.files in let all = rising_length 0 t.next t.files law.rising in
    walk.moves r.steps (omega (arith, few, dirs, all, many)) (climb_one t.files r.steps dir ∙ ap (parent_of t.files) r.root ∙ up ∙ sym r.root)
