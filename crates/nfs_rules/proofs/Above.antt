-- What the walk from a directory to those above it reports.
use Rattle.std.proofs.Common.{inl, inr, ◌≡◌, ◌≢◌, ℕ, zero, suc, ◌+◌, ◌-◌, ◌≤◌, true, false, length, Bool, Option, Some, None, option_map, refl, sym, ap, ◌∙◌, arith}
use Rattle.std.specs.Prelude.{nat_eq, ◌||◌}
use Rattle.std.proofs.lemmas.Bool.{eqb-true, eqb-false, or_parts, cases_lt}
use Rattle.nfs_attrs.specs.declared.fattr.Fattr.{Fattr}
use Rattle.nfs_inodes.specs.Reading.{attributes_of, attributes_at, type_of, is_directory_type}
use Rattle.nfs_inodes.specs.Tree.{Tree, File, Kind, Regular, Directory, Link, at, is_directory, nlink, parent_in, on_some}
use Rattle.nfs_inodes.specs.Law.{Law, LivesAsDirectory, climb, parent_of}
use Rattle.nfs_inodes.specs.Conditions.{IsOff}
use Rattle.nfs_inodes.proofs.Lists.{by_test, same_some, not_both}
use Rattle.nfs_inodes.proofs.law.Ancestors.{climb_add, climb_stuck, reached_in_few}
use Rattle.nfs_inodes.proofs.Walks.{few_directories}
use Rattle.nfs_rules.specs.Table.{is_above_within, is_above}

-- what is found above is where some steps lead
climbs_within : (many : ℕ) (t : Tree) (n d : ℕ) → is_above_within many t n d ≡ true → (steps : ℕ) × (climb steps t.files d ≡ n)
climbs_within zero t n d e = (0, eqb-true d n e)
climbs_within (suc many) t n d e = by_test (nat_eq d n)
    (λ y. (0, eqb-true d n y))
    (λ other. let rest = climbs_within many t n (parent_of t.files d) (sym (ap (λ b. b || is_above_within many t n (parent_of t.files d)) other) ∙ e) in
    (suc rest.0, rest.1))

pub climbs_to : (t : Tree) (n d : ℕ) → is_above t n d ≡ true → (steps : ℕ) × (climb steps t.files d ≡ n)
climbs_to t n d e = climbs_within (length t.files) t n d e

-- no few steps lead to what is not found
off_within : (many : ℕ) (t : Tree) (n d : ℕ) → is_above_within many t n d ≡ false → (steps : ℕ) → steps ≤ many → climb steps t.files d ≢ n
off_within zero t n d e zero few s = eqb-false d n e s
off_within zero t n d e (suc steps) few s = absurd (omega (arith, few))
off_within (suc many) t n d e zero few s = eqb-false d n (or_parts (nat_eq d n) (is_above_within many t n (parent_of t.files d)) e).0 s
off_within (suc many) t n d e (suc steps) few s =
    off_within many t n (parent_of t.files d) (or_parts (nat_eq d n) (is_above_within many t n (parent_of t.files d)) e).1 steps (omega (arith, few)) s

-- and more lead no further, since few lead to the root
pub is_off : (t : Tree) (n d : ℕ) (f : File) → Law t → LivesAsDirectory t d f → is_above t n d ≡ false → IsOff t d n
is_off t n d f law lives e steps s =
    let r = reached_in_few t law d f lives in
    let root = law.roots f.volume r.volume r.at_volume in
    let stuck : parent_of t.files r.volume.root ≡ r.volume.root = ap (λ o. on_some o 0 (λ k. parent_in k.kind)) root.1.0 ∙ root.2 in
    let few = r.few in let directories = few_directories t.files in
    elim (cases_lt r.steps steps) [
      | inl more ↦
          let all : r.steps + (steps - r.steps) ≡ steps = omega (arith, more) in
          let ends : climb steps t.files d ≡ r.volume.root =
          sym (ap (λ k. climb k t.files d) all) ∙ climb_add t.files r.steps (steps - r.steps) d
          ∙ ap (climb (steps - r.steps) t.files) r.root ∙ climb_stuck t.files (steps - r.steps) r.volume.root stuck in
          off_within (length t.files) t n d e r.steps (omega (arith, few, directories)) (r.root ∙ sym ends ∙ s)
      | inr less ↦ off_within (length t.files) t n d e steps (omega (arith, less, few, directories)) s
    ]

-- so it is found wherever some steps lead to it
pub is_found_above : (t : Tree) (n d : ℕ) (f : File) → Law t → LivesAsDirectory t d f → (steps : ℕ) → climb steps t.files d ≡ n → is_above t n d ≡ true
is_found_above t n d f law lives steps s = by_test (is_above t n d) (λ y. y) (λ e. absurd (is_off t n d f law lives e steps s))

-- a walk that reports whether some steps lead there
pub walk_reports : (t : Tree) (n d : ℕ) (f : File) (b : Bool) → Law t → LivesAsDirectory t d f → (b ≡ true → (steps : ℕ) × (climb steps t.files d ≡ n)) → (b ≡ false → IsOff t d n) → b ≡ is_above t n d
walk_reports t n d f true law lives up off = let u = up refl in sym (is_found_above t n d f law lives u.0 u.1)
walk_reports t n d f false law lives up off = by_test (is_above t n d) (λ y. let u = climbs_to t n d y in absurd (off refl u.0 u.1)) (λ e. sym e)

-- what is shown as a directory lives as one
directory_kind : (k : Kind) → is_directory_type (type_of k) ≡ true → is_directory k ≡ true
directory_kind (Regular bytes) e = e
directory_kind (Directory parent next_cookie entries) e = refl
directory_kind (Link path) e = e

directory_in : (t : Tree) (n : ℕ) (a : Fattr) (o : Option File) → at n t.files ≡ o → option_map (λ f. attributes_of n f (nlink t.files n f)) o ≡ Some a → is_directory_type a.file_type ≡ true → (f : File) × LivesAsDirectory t n f
directory_in t n a None there shown dir = absurd (not_both refl shown)
directory_in t n a (Some f) there shown dir = (f, (there, directory_kind f.kind (ap (λ (b : Fattr). is_directory_type b.file_type) (same_some shown) ∙ dir)))

pub lives_as_directory : (t : Tree) (n : ℕ) (a : Fattr) → attributes_at t n ≡ Some a → is_directory_type a.file_type ≡ true → (f : File) × LivesAsDirectory t n f
lives_as_directory t n a shown dir = directory_in t n a (at n t.files) refl shown dir
