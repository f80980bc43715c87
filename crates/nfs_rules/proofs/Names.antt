-- Names, and what they name in a directory.
use Rattle.std.proofs.Common.{◌≡◌, ◌≢◌, ℕ, Bool, true, false, cond, List, [], ◌∷◌, length, bytes_eq, Option, Some, None, option_map, refl, sym, ap, ◌∙◌, arith}
use Rattle.std.specs.Prelude.{nat_eq, All}
use Rattle.std.specs.List.{list_any}
use Rattle.std.proofs.lemmas.Bool.{eqb-false, ltb-false, or_parts}
use Rattle.std.proofs.lemmas.List.Elements.{All-nil, All-cons}
use Rattle.std.proofs.lemmas.Slice.Eq.{bytes_eq-Decides}
use Rattle.nfs_inodes.specs.Limits.{max_name_bytes}
use Rattle.nfs_inodes.specs.Tree.{Tree, File, Kind, Entry, Regular, Directory, Link, on_some, entries_in, is_directory, parent_in}
use Rattle.nfs_inodes.specs.Law.{IsName, LivesAsDirectory}
use Rattle.nfs_inodes.specs.Reading.{dot, dot_dot, listing, entry_named, number_named, number_under}
use Rattle.nfs_inodes.proofs.Lists.{by_test, true_and_false, not_both, same_some}
use Rattle.nfs_rules.specs.Tests.{is_separator, name_long, name_form, dot_name}

no_separator : (name : List ℕ) → list_any is_separator name ≡ false → All (λ byte. (byte ≢ 0) × (byte ≢ 47)) name
no_separator [] e = All-nil (λ byte. (byte ≢ 0) × (byte ≢ 47))
no_separator (b ∷ bs) e =
    let parts = or_parts (is_separator b) (list_any is_separator bs) e in
    let each = or_parts (nat_eq b 0) (nat_eq b 47) parts.0 in
    All-cons (λ byte. (byte ≢ 0) × (byte ≢ 47)) b bs (eqb-false b 0 each.0, eqb-false b 47 each.1) (no_separator bs parts.1)

pub is_name : (name : List ℕ) → (name_long name).1 ≡ false → (name_form name).1 ≡ false → name ≢ dot → name ≢ dot_dot → IsName name
is_name name long form not_dot not_dot_dot =
    let parts = or_parts (nat_eq (length name) 0) (list_any is_separator name) form in
    let some = eqb-false (length name) 0 parts.0 in
    record { some = omega (arith, some); few = ltb-false max_name_bytes (length name) long; bytes = no_separator name parts.1; no_dot = not_dot; no_dot_dot = not_dot_dot }

pub other_bytes : (xs ys : List ℕ) → bytes_eq xs ys ≡ false → xs ≢ ys
other_bytes xs ys e s = true_and_false ((bytes_eq-Decides xs ys).1 s) e

pub no_dots : (name : List ℕ) → (dot_name name).1 ≡ false → (name ≢ dot) × (name ≢ dot_dot)
no_dots name e = let parts = or_parts (bytes_eq name dot) (bytes_eq name dot_dot) e in (other_bytes name dot parts.0, other_bytes name dot_dot parts.1)

-- ---- what a directory lists

abbrev number : Entry → ℕ
number e = e.number

-- the entry of a name, where the first two are `.` and `..`
abbrev entry_after_dots : Bool → Bool → Entry → Entry → Option Entry → Option Entry
entry_after_dots is_dot is_dot_dot itself above rest = cond is_dot (Some itself) (cond is_dot_dot (Some above) rest)

none_after : (is_dot is_dot_dot : Bool) (itself above : Entry) (rest : Option Entry) → option_map number (entry_after_dots is_dot is_dot_dot itself above rest) ≡ None → (is_dot ≡ false) × (is_dot_dot ≡ false) × (rest ≡ None)
none_after true b x y o e = absurd (not_both e refl)
none_after false true x y o e = absurd (not_both e refl)
none_after false false x y None e = (refl, refl, refl)
none_after false false x y (Some z) e = absurd (not_both e refl)

some_after : (is_dot is_dot_dot : Bool) (itself above : Entry) (rest : Option Entry) (n : ℕ) → option_map number (entry_after_dots is_dot is_dot_dot itself above rest) ≡ Some n → is_dot ≡ false → is_dot_dot ≡ false → (e : Entry) × (rest ≡ Some e) × (e.number ≡ n)
some_after true b x y o n e not_dot not_dot_dot = cc
some_after false true x y o n e not_dot not_dot_dot = cc
some_after false false x y None n e not_dot not_dot_dot = absurd (not_both refl e)
some_after false false x y (Some z) n e not_dot not_dot_dot = (z, refl, same_some e)

module _ (t : Tree) (d : ℕ) (dir : File) (at_dir : LivesAsDirectory t d dir) (name : List ℕ) where
  abbrev itself : Entry
  itself = record { cookie = 1; name = dot; number = d }

  abbrev above : Kind → Entry
  above k = record { cookie = 2; name = dot_dot; number = parent_in k }

  by_kind : (k : Kind) → is_directory k ≡ true → number_named name (listing d k) ≡ option_map number (entry_after_dots (bytes_eq dot name) (bytes_eq dot_dot name) itself (above k) (entry_named name (entries_in k)))
  by_kind (Regular bytes) e = cc
  by_kind (Directory parent next_cookie entries) e = refl
  by_kind (Link path) e = cc

  under : number_under t d name ≡ option_map number (entry_after_dots (bytes_eq dot name) (bytes_eq dot_dot name) itself (above dir.kind) (entry_named name (entries_in dir.kind)))
  under = ap (λ o. number_named name (on_some o [] (λ f. listing d f.kind))) at_dir.0 ∙ by_kind dir.kind at_dir.1

  -- a name that is not there is no name of an entry, neither `.` nor `..`
  pub absent_name : number_under t d name ≡ None → (name ≢ dot) × (name ≢ dot_dot) × (entry_named name (entries_in dir.kind) ≡ None)
  absent_name e =
      let none = none_after (bytes_eq dot name) (bytes_eq dot_dot name) itself (above dir.kind) (entry_named name (entries_in dir.kind)) (sym under ∙ e) in
      (λ s. other_bytes dot name none.0 (sym s), λ s. other_bytes dot_dot name none.1 (sym s), none.2)

  -- a name that is there, neither `.` nor `..`, is that of an entry
  pub present_name : (n : ℕ) → number_under t d name ≡ Some n → name ≢ dot → name ≢ dot_dot → (e : Entry) × (entry_named name (entries_in dir.kind) ≡ Some e) × (e.number ≡ n)
  present_name n e not_dot not_dot_dot =
      some_after (bytes_eq dot name) (bytes_eq dot_dot name) itself (above dir.kind) (entry_named name (entries_in dir.kind)) n (sym under ∙ e) (not_same dot (λ s. not_dot (sym s))) (not_same dot_dot (λ s. not_dot_dot (sym s)))
    where
      not_same : (other : List ℕ) → other ≢ name → bytes_eq other name ≡ false
      not_same other apart = by_test (bytes_eq other name) (λ y. absurd (apart ((bytes_eq-Decides other name).0 y))) (λ n. n)
