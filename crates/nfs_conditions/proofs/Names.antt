-- What names and entries report: what a name names, that a directory is empty, that an entry may go.
use Rattle.std.proofs.Common.{◌≡◌, ◌≢◌, ℕ, ◌<◌, ◌≤◌, Bool, true, false, cond, List, [], ◌∷◌, bytes_eq, Option, Some, None, option_map, refl, sym, ap, subst, ◌∙◌, arith}
use Rattle.std.specs.Prelude.{All, is_some, not}
use Rattle.std.specs.Bool.{Decides}
use Rattle.std.proofs.lemmas.Bool.{lt-ltb}
use Rattle.std.proofs.lemmas.Bool.Decides.{Decides-like}
use Rattle.std.proofs.lemmas.List.Elements.{All-head, All-tail}
use Rattle.std.proofs.lemmas.Slice.Eq.{bytes_eq-Decides}
use Rattle.nfs_inodes.specs.Tree.{Tree, File, Kind, Entry, Regular, Directory, Link, at, on_some, entries_in, is_directory, next_cookie_in}
use Rattle.nfs_inodes.specs.Law.{Law, IsName, Lives, LivesAsDirectory}
use Rattle.nfs_inodes.specs.Conditions.{MayUnlink}
use Rattle.nfs_inodes.specs.Reading.{dot, dot_dot, has_name, entry_named, number_named, number_under, listing, first_after, entry_after, entry_at, entries_at}
use Rattle.nfs_inodes.proofs.Lists.{by_test, if_true, if_false, same_some, not_both, none_from, find_contains}
use Rattle.nfs_inodes.proofs.law.Unlinks.{entry_is}
use Rattle.nfs_inodes.proofs.Views.{mapped}
use Rattle.nfs_inodes.proofs.Tests.{never}
use Rattle.nfs_conditions.proofs.Files.{always, by_option}

-- ---- what a name names

abbrev number : Entry → ℕ
number e = e.number

-- what has an entry is a directory
with_entry_named : (k : Kind) (name : List ℕ) (e : Entry) → entry_named name (entries_in k) ≡ Some e → is_directory k ≡ true
with_entry_named (Regular bytes) name e found = absurd (not_both refl found)
with_entry_named (Directory parent next_cookie entries) name e found = refl
with_entry_named (Link path) name e found = absurd (not_both refl found)

-- the directory that has the entry of a name
pub has_entry : (t : Tree) (d : ℕ) (name : List ℕ) (e : Entry) → entry_at t d name ≡ Some e → (f : File) × LivesAsDirectory t d f × (entry_named name (entries_in f.kind) ≡ Some e)
has_entry t d name e is = by_option (at d t.files)
    (λ none. absurd (not_both refl (sym (ap (λ o. on_some o None (λ f. entry_named name (entries_in f.kind))) none) ∙ is)))
    (λ f some. let found = sym (ap (λ o. on_some o None (λ f. entry_named name (entries_in f.kind))) some) ∙ is in
    (f, (some, with_entry_named f.kind name e found), found))

-- the name of an entry is one
listed_name : (name : List ℕ) (es : List Entry) (e : Entry) → All (λ (e : Entry). IsName e.name) es → entry_named name es ≡ Some e → IsName name
listed_name name [] e all found = absurd (not_both refl found)
listed_name name (g ∷ es) e all found = by_test (has_name name g)
    (λ y. subst IsName ((bytes_eq-Decides g.name name).0 y) (All-head (λ (e : Entry). IsName e.name) g es all))
    (λ n. listed_name name es e (All-tail (λ (e : Entry). IsName e.name) g es all) (sym (if_false (Some g) (entry_named name es) n) ∙ found))

-- what is no name has no entry
pub no_entry : (t : Tree) → Law t → (d : ℕ) (name : List ℕ) → (IsName name → ⊥) → None ≡ option_map number (entry_at t d name)
no_entry t law d name unnamed = sym (ap (option_map number) (none_from (entry_at t d name) (λ e is. let f = has_entry t d name e is in
    unnamed (listed_name name (entries_in f.0.kind) e (law.sound d f.0 f.1.0).names f.2))))

-- what is one is neither `.` nor `..`, and names what its entry does
module _ (d : ℕ) (name : List ℕ) (is : IsName name) where
  other : (name' : List ℕ) → name ≢ name' → bytes_eq name' name ≡ false
  other name' apart = by_test (bytes_eq name' name) (λ y. absurd (apart (sym ((bytes_eq-Decides name' name).0 y)))) (λ n. n)

  after : (one two : Bool) (x y : Entry) (o : Option Entry) → one ≡ false → two ≡ false → option_map number (cond one (Some x) (cond two (Some y) o)) ≡ option_map number o
  after true two x y o e g = cc
  after false true x y o e g = cc
  after false false x y o e g = refl

  in_kind : (k : Kind) → number_named name (listing d k) ≡ number_named name (entries_in k)
  in_kind (Regular bytes) = refl
  in_kind (Directory parent next_cookie entries) = after (bytes_eq dot name) (bytes_eq dot_dot name) (record { cookie = 1; name = dot; number = d }) (record { cookie = 2; name = dot_dot; number = parent }) (entry_named name entries)
      (other dot is.no_dot) (other dot_dot is.no_dot_dot)
  in_kind (Link path) = refl

  in_file : (o : Option File) → number_named name (on_some o [] (λ f. listing d f.kind)) ≡ option_map number (on_some o None (λ f. entry_named name (entries_in f.kind)))
  in_file None = refl
  in_file (Some f) = in_kind f.kind

  pub its_entry : (t : Tree) → number_under t d name ≡ option_map number (entry_at t d name)
  its_entry t = in_file (at d t.files)

-- ---- what has no entries

after_dots : (n : ℕ) (k : Kind) → first_after 2 (listing n k) ≡ first_after 2 (entries_in k)
after_dots n (Regular bytes) = refl
after_dots n (Directory parent next_cookie entries) = refl
after_dots n (Link path) = refl

none_listed : (next : ℕ) (es : List Entry) → All (λ (e : Entry). (3 ≤ e.cookie) × (e.cookie < next)) es → first_after 2 es ≡ None → es ≡ []
none_listed next [] all none = refl
none_listed next (e ∷ es) all none =
    let cookie = (All-head (λ (e : Entry). (3 ≤ e.cookie) × (e.cookie < next)) e es all).0 in
    absurd (not_both none (if_true (Some e) (first_after 2 es) (lt-ltb 2 e.cookie (omega (arith, cookie)))))

pub entries_are : (t : Tree) (n : ℕ) (f : File) → Lives t n f → entries_at t n ≡ entries_in f.kind
entries_are t n f e = ap (λ o. on_some o [] (λ f. entries_in f.kind)) e

none_after : (t : Tree) → Law t → (n : ℕ) → entry_after t n 2 ≡ None → entries_at t n ≡ []
none_after t law n none = by_option (at n t.files)
    (λ gone. ap (λ o. on_some o [] (λ (f : File). entries_in f.kind)) gone)
    (λ f some. entries_are t n f some ∙ none_listed (next_cookie_in f.kind) (entries_in f.kind) (law.sound n f some).cookies
    (sym (after_dots n f.kind) ∙ sym (ap (λ o. first_after 2 (on_some o [] (λ (f : File). listing n f.kind))) some) ∙ none))

none_without : (t : Tree) (n : ℕ) → entries_at t n ≡ [] → entry_after t n 2 ≡ None
none_without t n empty = by_option (at n t.files)
    (λ gone. ap (λ o. first_after 2 (on_some o [] (λ (f : File). listing n f.kind))) gone)
    (λ f some. ap (λ o. first_after 2 (on_some o [] (λ (f : File). listing n f.kind))) some ∙ after_dots n f.kind ∙ ap (first_after 2) (sym (entries_are t n f some) ∙ empty))

pub empty_reports : {X : Type 0} (shown : X → Entry) (t : Tree) → Law t → (n : ℕ) (o : Option X) (b : Bool) → option_map shown o ≡ entry_after t n 2 → is_some o ≡ not b → Decides b (entries_at t n ≡ [])
empty_reports shown t law n None true is e = always (none_after t law n (sym is))
empty_reports shown t law n None false is e = cc
empty_reports shown t law n (Some x) true is e = cc
empty_reports shown t law n (Some x) false is e = never (λ empty. not_both (none_without t n empty) (sym is))

-- ---- an entry that goes

pub unlinks : (t : Tree) (d n : ℕ) (name : List ℕ) (b : Bool) → Law t → Some n ≡ option_map (λ (e : Entry). e.number) (entry_at t d name) → Decides b (entries_at t n ≡ []) → Decides b (MayUnlink t d name)
unlinks t d n name b law found empty =
    let e = mapped (λ (e : Entry). e.number) (entry_at t d name) n (sym found) in
    Decides-like b
    (λ none. let dir = has_entry t d name e.0 e.1 in
    let its = law.entries d dir.0 e.0 dir.1.0 (find_contains (has_name name) (entries_in dir.0.kind) e.0 dir.2) in
    record {
      dir = dir.0;
      at_dir = dir.1;
      entry = e.0;
      found = dir.2;
      file = its.0;
      at_file = its.1;
      empty = sym (entries_are t n its.0 (ap (λ m. at m t.files) (sym e.2) ∙ its.1)) ∙ none;
    })
    (λ (may : MayUnlink t d name).
    let same : n ≡ may.entry.number = sym e.2 ∙ ap (λ (e : Entry). e.number) (same_some (sym e.1 ∙ entry_is t d name may.dir may.at_dir.0 ∙ may.found)) in
    ap (entries_at t) same ∙ entries_are t may.entry.number may.file may.at_file ∙ may.empty)
    empty
