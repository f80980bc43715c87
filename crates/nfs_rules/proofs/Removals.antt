-- Where no rule is failed, an entry may go.
use Rattle.std.proofs.Common.{◌≡◌, ◌≢◌, ℕ, ◌<◌, ◌≤◌, true, false, List, [], ◌∷◌, Option, Some, None, refl, sym, ap, subst, ◌∙◌, arith}
use Rattle.std.specs.Prelude.{is_none, All, ◌||◌, nat_le}
use Rattle.std.proofs.lemmas.Bool.{not-false, lt-ltb}
use Rattle.std.proofs.lemmas.List.Elements.{All-head}
use Rattle.nfs_attrs.specs.declared.fattr.Fattr.{Fattr}
use Rattle.nfs_inodes.specs.Tree.{Tree, File, Kind, Entry, Regular, Directory, Link, at, on_some, entries_in, next_cookie_in, is_directory}
use Rattle.nfs_inodes.specs.Law.{Law, Lives, LivesAsDirectory}
use Rattle.nfs_inodes.specs.Conditions.{MayUnlinkSeen}
use Rattle.nfs_inodes.specs.Reading.{attributes_at, dot, dot_dot, entry_after, first_after, listing}
use Rattle.nfs_inodes.specs.Views.{standing_of}
use Rattle.nfs_inodes.proofs.Lists.{if_true, not_both}
use Rattle.nfs_rules.specs.Rights.{lets_go}
use Rattle.nfs_rules.specs.Subjects.{Subject}
use Rattle.nfs_rules.specs.Tests as test
use Rattle.nfs_rules.specs.Tests.{Test, first, found, is_empty}
use Rattle.nfs_rules.specs.Table.{remove_rules, rmdir_rules}
use Rattle.nfs_rules.proofs.Firsts.{passed_at}
use Rattle.nfs_rules.proofs.SeenFiles.{seen_lives, seen_directory, seen_links, found_seen}
use Rattle.nfs_rules.proofs.Names.{no_dots, other_bytes, present_name}
use Rattle.nfs_rules.proofs.NewFiles.{lives_as_directory}

-- ---- what has no entries

pub only_directories : (k : Kind) → is_directory k ≡ false → entries_in k ≡ []
only_directories (Regular bytes) e = refl
only_directories (Directory parent next_cookie entries) e = cc
only_directories (Link path) e = refl

after_dots : (n : ℕ) (k : Kind) → is_directory k ≡ true → first_after 2 (listing n k) ≡ first_after 2 (entries_in k)
after_dots n (Regular bytes) e = cc
after_dots n (Directory parent next_cookie entries) e = refl
after_dots n (Link path) e = cc

none_listed : (next : ℕ) (es : List Entry) → All (λ (e : Entry). (3 ≤ e.cookie) × (e.cookie < next)) es → first_after 2 es ≡ None → es ≡ []
none_listed next [] all none = refl
none_listed next (e ∷ es) all none =
    let cookie = (All-head (λ (e : Entry). (3 ≤ e.cookie) × (e.cookie < next)) e es all).0 in
    absurd (not_both none (if_true (Some e) (first_after 2 es) (lt-ltb 2 e.cookie (omega (arith, cookie)))))

none_from_is_none : {X : Type 0} (o : Option X) → is_none o ≡ true → o ≡ None
none_from_is_none None e = refl
none_from_is_none (Some x) e = cc

pub some_from_is_none : {X : Type 0} (o : Option X) → is_none o ≡ false → (x : X) × (o ≡ Some x)
some_from_is_none None e = cc
some_from_is_none (Some x) e = (x, refl)

-- an empty directory has no entries
pub no_entries : (t : Tree) → Law t → (f : Fattr) (h : File) → LivesAsDirectory t f.fileid h → is_empty t f ≡ true → entries_in h.kind ≡ []
no_entries t law f h at_h empty =
    let none : first_after 2 (entries_in h.kind) ≡ None =
    sym (after_dots f.fileid h.kind at_h.1) ∙ sym (ap (λ o. first_after 2 (on_some o [] (λ (f' : File). listing f.fileid f'.kind))) at_h.0) ∙ none_from_is_none (entry_after t f.fileid 2) empty in
    none_listed (next_cookie_in h.kind) (entries_in h.kind) (law.sound f.fileid h at_h.0).cookies none

-- ---- removals

module _ (s : Subject) (law : Law s.tree) (seen : attributes_at s.tree s.file.fileid ≡ Some s.file) (name : List ℕ) where
  -- what is found and has no entries
  may_unlink : (test.not_directory s).1 ≡ false → name ≢ dot → name ≢ dot_dot → (f : Fattr) → found s name ≡ Some f → ((h : File) → Lives s.tree f.fileid h → entries_in h.kind ≡ []) → MayUnlinkSeen s.tree s.file.fileid name f.fileid (standing_of f)
  may_unlink directory not_dot not_dot_dot f is empty =
      let dir = lives_as_directory s law seen directory in
      let there = found_seen s name f is in
      let entry = present_name s.tree s.file.fileid dir.0 dir.1 name f.fileid there.0 not_dot not_dot_dot in
      let file = seen_lives s.tree f there.1 in
      let directory = seen_directory s.tree f there.1 file.0 file.1 in
      let links = seen_links s.tree f there.1 file.0 file.1 in
      record {
        may = record {
          dir = dir.0;
          at_dir = dir.1;
          entry = entry.0;
          found = entry.1;
          file = file.0;
          at_file = ap (λ n. at n s.tree.files) entry.2 ∙ file.1;
          empty = empty file.0 file.1;
        };
        number = sym entry.2;
        directory = directory;
        last = ap (λ b. b || nat_le f.nlink 1) directory ∙ ap (λ l. is_directory file.0.kind || nat_le l 1) links;
      }

  -- REMOVE, of what is no directory
  pub may_remove : first (remove_rules s name) ≡ None → (f : Fattr) → found s name ≡ Some f → MayUnlinkSeen s.tree s.file.fileid name f.fileid (standing_of f)
  may_remove none f is =
      let passed = passed_at (remove_rules s name) none in
      let dots = no_dots name (passed 2 (test.dot_name name) refl) in
      let rules : Option Fattr → List Test = λ o. test.read_only s ∷ test.not_directory s ∷ test.dot_name name ∷ test.name_long name ∷ test.name_form name ∷ test.search_right s ∷ test.no_entry s name ∷ test.directory_write s
      ∷ on_some o [] (λ f. test.sticky s f ∷ test.is_directory f ∷ []) in
      let passed_there = passed_at (rules (Some f)) (subst (λ o. first (rules o) ≡ None) is none) in
      may_unlink (passed 1 (test.not_directory s) refl) dots.0 dots.1 f is
      (λ h at_h. only_directories h.kind (sym (seen_directory s.tree f (found_seen s name f is).1 h at_h) ∙ passed_there 9 (test.is_directory f) refl))

  -- the directory lets it go
  pub remove_lets_go : first (remove_rules s name) ≡ None → (f : Fattr) → found s name ≡ Some f → lets_go s.ids s.file f ≡ true
  remove_lets_go none f is =
      let rules : Option Fattr → List Test = λ o. test.read_only s ∷ test.not_directory s ∷ test.dot_name name ∷ test.name_long name ∷ test.name_form name ∷ test.search_right s ∷ test.no_entry s name ∷ test.directory_write s
      ∷ on_some o [] (λ f. test.sticky s f ∷ test.is_directory f ∷ []) in
      not-false _ (passed_at (rules (Some f)) (subst (λ o. first (rules o) ≡ None) is none) 8 (test.sticky s f) refl)

  pub rmdir_lets_go : first (rmdir_rules s name) ≡ None → (f : Fattr) → found s name ≡ Some f → lets_go s.ids s.file f ≡ true
  rmdir_lets_go none f is =
      let rules : Option Fattr → List Test = λ o. test.read_only s ∷ test.not_directory s ∷ test.dot_alone name ∷ test.dot_dot_alone name ∷ test.name_long name ∷ test.name_form name ∷ test.search_right s ∷ test.no_entry s name ∷ test.directory_write s
      ∷ on_some o [] (λ f. test.sticky s f ∷ test.target_not_directory f ∷ test.not_empty s.tree f ∷ []) in
      not-false _ (passed_at (rules (Some f)) (subst (λ o. first (rules o) ≡ None) is none) 9 (test.sticky s f) refl)

  -- RMDIR, of an empty directory
  pub may_remove_directory : first (rmdir_rules s name) ≡ None → (f : Fattr) → found s name ≡ Some f → MayUnlinkSeen s.tree s.file.fileid name f.fileid (standing_of f)
  may_remove_directory none f is =
      let passed = passed_at (rmdir_rules s name) none in
      let rules : Option Fattr → List Test = λ o. test.read_only s ∷ test.not_directory s ∷ test.dot_alone name ∷ test.dot_dot_alone name ∷ test.name_long name ∷ test.name_form name ∷ test.search_right s ∷ test.no_entry s name ∷ test.directory_write s
      ∷ on_some o [] (λ f. test.sticky s f ∷ test.target_not_directory f ∷ test.not_empty s.tree f ∷ []) in
      let passed_there = passed_at (rules (Some f)) (subst (λ o. first (rules o) ≡ None) is none) in
      may_unlink (passed 1 (test.not_directory s) refl) (other_bytes name dot (passed 2 (test.dot_alone name) refl)) (other_bytes name dot_dot (passed 3 (test.dot_dot_alone name) refl)) f is
      (λ h at_h. no_entries s.tree law f h
      (at_h, sym (seen_directory s.tree f (found_seen s name f is).1 h at_h) ∙ not-false _ (passed_there 10 (test.target_not_directory f) refl))
      (not-false _ (passed_there 11 (test.not_empty s.tree f) refl)))
