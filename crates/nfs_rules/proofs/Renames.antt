-- Where no rule is failed, an entry may go to another name.
use Rattle.std.proofs.Common.{inl, inr, ◌≡◌, ◌≢◌, ◌⊎◌, ℕ, ◌-◌, ◌<◌, ◌^◌, Bool, true, false, List, [], ◌∷◌, Option, Some, None, option_map, refl, sym, ap, subst, ◌∙◌}
use Rattle.std.specs.Prelude.{nat_eq, not, ◌&&◌, ◌||◌, if◌then◌else◌}
use Rattle.std.proofs.lemmas.Bool.{not-false, leb-false}
use Rattle.nfs_args.specs.declared.rename.Rename.{Rename}
use Rattle.nfs_attrs.specs.declared.fattr.Fattr.{Fattr}
use Rattle.nfs_inodes.specs.Tree.{Tree, File, Entry, on_some, entries_in, next_cookie_in, is_directory, nlink}
use Rattle.nfs_inodes.specs.Law.{Law, IsName, Lives, LivesAsDirectory}
use Rattle.nfs_handles.specs.declared.number.Number.{Number}
use Rattle.nfs_inodes.specs.declared.renaming.Route.{Route}
use Rattle.nfs_inodes.specs.Conditions.{IsOff, NamesOther, MayReplace, MayRename, MayRenameSeen}
use Rattle.nfs_inodes.specs.Reading.{attributes_at, entry_at, entry_named, has_name, is_directory_type}
use Rattle.nfs_inodes.proofs.Lists.{by_test, by_number, not_both, same_some, find_contains}
use Rattle.nfs_inodes.proofs.Maps.{same_number, apart_number}
use Rattle.nfs_rules.specs.Rights.{lets_go}
use Rattle.nfs_rules.specs.Subjects.{Subject}
use Rattle.nfs_rules.specs.Tests.{Test, first, read_only, not_directory, dot_name, name_long, name_form, search_right, directory_write, no_entry, found, links, cookies, only_where, is_empty}
use Rattle.nfs_rules.specs.Table.{rename_rules, move_rules, is_moved, sticky_move, entering_rules, into_itself, incompatible, is_above}
use Rattle.nfs_rules.proofs.Above.{is_off}
use Rattle.nfs_rules.proofs.Firsts.{passed_at}
use Rattle.nfs_rules.proofs.SeenFiles.{seen_lives, seen_directory, seen_links, none_under, found_seen}
use Rattle.nfs_rules.proofs.Names.{is_name, no_dots, absent_name, present_name}
use Rattle.nfs_rules.proofs.NewFiles.{lives_as_directory}
use Rattle.nfs_rules.proofs.Removals.{only_directories, no_entries, some_from_is_none}
use Rattle.nfs_rules.proofs.Room.{has_cookie}
use Rattle.nfs_rules.proofs.Links.{over, same_place}

-- what the kinds have to be where one file takes the place of another
alike_kinds : (moved old empty : Bool) → (not moved && not old || moved && old && empty) ≡ true → (old ≡ moved) × (old ≡ true → empty ≡ true)
alike_kinds true true true e = (refl, λ y. refl)
alike_kinds true true false e = cc
alike_kinds true false empty e = cc
alike_kinds false true empty e = cc
alike_kinds false false empty e = (refl, λ y. cc)

-- where the first is so and not both are, the second is not
second_not : (one two : Bool) → (one && two) ≡ false → one ≡ true → two ≡ false
second_not true two e y = e
second_not false two e y = cc

both_so : (one two : Bool) → one ≡ true → two ≡ true → (one && two) ≡ true
both_so true two y z = z
both_so false two y z = cc

-- the rules of RENAME, with others after those of the handles, the names and the rights
abbrev pub rules_before : Subject → Subject → Rename → List Test → List Test
rules_before from to a others = read_only from ∷ not_directory from ∷ not_directory to ∷ dot_name a.from.name ∷ dot_name a.to.name
    ∷ name_long a.from.name ∷ name_long a.to.name ∷ name_form a.from.name ∷ name_form a.to.name ∷ search_right from ∷ search_right to
    ∷ no_entry from a.from.name ∷ directory_write from ∷ directory_write to ∷ others

-- the entry of a name in a directory, and the file that it names, of which the attributes are seen
record IsNamed (t : Tree) (dir : File) (name : List ℕ) (f : Fattr) : Type 0 where
  entry : Entry
  found : entry_named name (entries_in dir.kind) ≡ Some entry
  number : entry.number ≡ f.fileid
  file : File
  at_file : Lives t entry.number file
  volume : file.volume ≡ dir.volume
  kind : is_directory_type f.file_type ≡ is_directory file.kind

is_named : (t : Tree) → Law t → (d : ℕ) (dir : File) → Lives t d dir → (name : List ℕ) (f : Fattr) → attributes_at t f.fileid ≡ Some f → (entry : Entry) → entry_named name (entries_in dir.kind) ≡ Some entry → entry.number ≡ f.fileid → IsNamed t dir name f
is_named t law d dir at_dir name f seen entry found number =
    let lives = law.entries d dir entry at_dir (find_contains (has_name name) (entries_in dir.kind) entry found) in
    record {
      entry = entry;
      found = found;
      number = number;
      file = lives.0;
      at_file = lives.1;
      volume = lives.2;
      kind = seen_directory t f seen lives.0 (subst (λ n. Lives t n lives.0) number lives.1);
    }

-- what a rename asks of the new name, of file n
record MayMove (t : Tree) (from to : ℕ) (new_name : List ℕ) (file target : File) (n : ℕ) : Type 0 where
  cookie : NamesOther t to new_name n → next_cookie_in target.kind < 2 ^ 64 - 1
  replaced : (old : Entry) → entry_named new_name (entries_in target.kind) ≡ Some old → old.number ≢ n → MayReplace t old.number file
  off : NamesOther t to new_name n → is_directory file.kind ≡ true → IsOff t to n
  links : entry_named new_name (entries_in target.kind) ≡ None → is_directory file.kind ≡ true → (to ≡ from) ⊎ (nlink t.files to target < t.limits.links)

module _ (t : Tree) (law : Law t) (one two : Subject) (seen_one : attributes_at t one.file.fileid ≡ Some one.file) (seen_two : attributes_at t two.file.fileid ≡ Some two.file) (a : Rename) where
  abbrev from : Subject
  from = over t one

  abbrev to : Subject
  to = over t two

  -- ---- the new name

  module _ (moved : Fattr) (file : File) (kind : is_directory_type moved.file_type ≡ is_directory file.kind) (target : File) (at_target : LivesAsDirectory t two.file.fileid target) where
    stays_off : (into_itself to moved).1 ≡ false → is_directory file.kind ≡ true → IsOff t two.file.fileid moved.fileid
    stays_off e y = is_off t moved.fileid two.file.fileid target law at_target (second_not (is_directory_type moved.file_type) (is_above t moved.fileid two.file.fileid) e (kind ∙ y))

    -- it names nothing
    to_absent : found to a.to.name ≡ None → first (rules_before from to a (move_rules from to moved None)) ≡ None → MayMove t one.file.fileid two.file.fileid a.to.name file target moved.fileid
    to_absent absent none =
        let passed = passed_at (rules_before from to a (move_rules from to moved None)) none in
        let new = absent_name t two.file.fileid target at_target a.to.name (none_under to a.to.name law absent) in
        record {
          cookie = λ other. has_cookie to target at_target (passed 17 (cookies to) refl);
          replaced = λ old named apart. absurd (not_both new.2 named);
          off = λ other y. stays_off (passed 15 (into_itself to moved) refl) y;
          links = λ none y. by_number two.file.fileid one.file.fileid
              (λ s. inl s)
              (λ o. inr (subst (λ n. n < t.limits.links) (seen_links t two.file seen_two target at_target.0)
              (leb-false t.limits.links two.file.nlink (second_not _ _ (passed 16 (only_where (is_directory_type moved.file_type && not (nat_eq one.file.fileid two.file.fileid)) (links t.limits two.file)) refl)
              (both_so _ _ (kind ∙ y) (ap not (apart_number one.file.fileid two.file.fileid (λ s. o (sym s)))))))));
        }

    -- it names a file
    module _ (old : Fattr) (is_old : found to a.to.name ≡ Some old) (entry : Entry) (named : entry_named a.to.name (entries_in target.kind) ≡ Some entry) (is : entry.number ≡ old.fileid) where
      there : entry_at t two.file.fileid a.to.name ≡ Some entry
      there = ap (λ o. on_some o None (λ (f : File). entry_named a.to.name (entries_in f.kind))) at_target.0 ∙ named

      -- the same one
      to_itself : moved.fileid ≡ old.fileid → MayMove t one.file.fileid two.file.fileid a.to.name file target moved.fileid
      to_itself same = record {
        cookie = λ other. absurd (other entry there (is ∙ sym same));
        replaced = λ e found apart. absurd (apart (ap (λ (e : Entry). e.number) (same_some (sym found ∙ named)) ∙ is ∙ sym same));
        off = λ other y. absurd (other entry there (is ∙ sym same));
        links = λ none y. absurd (not_both none named);
      }

      replaces_old : (incompatible to moved old).1 ≡ false → MayReplace t old.fileid file
      replaces_old e =
          let seen_old = (found_seen to a.to.name old is_old).1 in
          let gone = seen_lives t old seen_old in
          let shown = seen_directory t old seen_old gone.0 gone.1 in
          let alike = alike_kinds (is_directory_type moved.file_type) (is_directory_type old.file_type) (is_empty t old) (not-false _ e) in
          record {
            replaced = gone.0;
            at_replaced = gone.1;
            alike = sym shown ∙ alike.0 ∙ kind;
            empty = by_test (is_directory gone.0.kind)
                (λ y. no_entries t law old gone.0 (gone.1, y) (alike.1 (shown ∙ y)))
                (λ n. only_directories gone.0.kind n);
          }

      -- another one, which is replaced
      to_other : first (rules_before from to a (sticky_move from to moved (Some old) ∷ entering_rules from to moved (Some old))) ≡ None → MayMove t one.file.fileid two.file.fileid a.to.name file target moved.fileid
      to_other none =
          let passed = passed_at (rules_before from to a (sticky_move from to moved (Some old) ∷ entering_rules from to moved (Some old))) none in
          record {
            cookie = λ other. has_cookie to target at_target (passed 17 (cookies to) refl);
            replaced = λ e found apart. subst (λ n. MayReplace t n file) (sym (ap (λ (e : Entry). e.number) (same_some (sym found ∙ named)) ∙ is)) (replaces_old (passed 15 (incompatible to moved old) refl));
            off = λ other y. stays_off (passed 16 (into_itself to moved) refl) y;
            links = λ none y. absurd (not_both none named);
          }

    may_move : (o : Option Fattr) → found to a.to.name ≡ o → first (rules_before from to a (move_rules from to moved o)) ≡ None → MayMove t one.file.fileid two.file.fileid a.to.name file target moved.fileid
    may_move None is none = to_absent is none
    may_move (Some old) is none =
        let dots = no_dots a.to.name (passed_at (rules_before from to a (move_rules from to moved (Some old))) none 4 (dot_name a.to.name) refl) in
        let entry = present_name t two.file.fileid target at_target a.to.name old.fileid (found_seen to a.to.name old is).0 dots.0 dots.1 in
        by_test (nat_eq moved.fileid old.fileid)
        (λ y. to_itself old is entry.0 entry.1 entry.2 (same_number moved.fileid old.fileid y))
        (λ n. to_other old is entry.0 entry.1 entry.2
        (subst (λ b. first (rules_before from to a (if b then [] else (sticky_move from to moved (Some old) ∷ entering_rules from to moved (Some old)))) ≡ None) n none))

  -- ---- both names

  module _ (source target : File) (at_source : LivesAsDirectory t one.file.fileid source) (at_target : LivesAsDirectory t two.file.fileid target) (moved : Fattr) (is_moved : found from a.from.name ≡ Some moved) (none : first (rename_rules from to a) ≡ None) where
    -- what is found under the old name
    found_named : IsNamed t source a.from.name moved
    found_named =
        let seen = found_seen from a.from.name moved is_moved in
        let dots = no_dots a.from.name (passed_at (rename_rules from to a) none 3 (dot_name a.from.name) refl) in
        let entry = present_name t one.file.fileid source at_source a.from.name moved.fileid seen.0 dots.0 dots.1 in
        is_named t law one.file.fileid source at_source.0 a.from.name moved seen.1 entry.0 entry.1 entry.2

    may_move_there : (n : ℕ) (file : File) → n ≡ moved.fileid → is_directory_type moved.file_type ≡ is_directory file.kind → MayMove t one.file.fileid two.file.fileid a.to.name file target n
    may_move_there n file number kind = subst (MayMove t one.file.fileid two.file.fileid a.to.name file target) (sym number)
        (may_move moved file kind target at_target (found to a.to.name) refl
        (subst (λ o. first (rules_before from to a (on_some o [] (λ m. move_rules from to m (found to a.to.name)))) ≡ None) is_moved none))

    new_name : IsName a.to.name
    new_name =
        let passed = passed_at (rename_rules from to a) none in
        let dots = no_dots a.to.name (passed 4 (dot_name a.to.name) refl) in
        is_name a.to.name (passed 6 (name_long a.to.name) refl) (passed 8 (name_form a.to.name) refl) dots.0 dots.1

    may_rename_found : (old : IsNamed t source a.from.name moved) → MayMove t one.file.fileid two.file.fileid a.to.name old.file target old.entry.number → source.volume ≡ target.volume → MayRename t one.file.fileid a.from.name two.file.fileid a.to.name
    may_rename_found old move same = record {
      source = source;
      at_source = at_source;
      entry = old.entry;
      found = old.found;
      file = old.file;
      at_file = old.at_file;
      target = target;
      at_target = at_target;
      volume = old.volume ∙ same;
      is_name = new_name;
      cookie = move.cookie;
      replaced = move.replaced;
      off = move.off;
      links = move.links;
    }

    may_rename_named : IsNamed t source a.from.name moved → source.volume ≡ target.volume → MayRename t one.file.fileid a.from.name two.file.fileid a.to.name
    may_rename_named old same = may_rename_found old (may_move_there old.entry.number old.file old.number old.kind) same

  may_rename_over : one.file.fsid ≡ two.file.fsid → first (rename_rules from to a) ≡ None → MayRename t one.file.fileid a.from.name two.file.fileid a.to.name
  may_rename_over same none =
      let passed = passed_at (rename_rules from to a) none in
      let moved = some_from_is_none (found from a.from.name) (passed 11 (no_entry from a.from.name) refl) in
      let source = lives_as_directory from law seen_one (passed 1 (not_directory from) refl) in
      let target = lives_as_directory to law seen_two (passed 2 (not_directory to) refl) in
      may_rename_named source.0 target.0 source.1 target.1 moved.0 moved.1 none (found_named source.0 target.0 source.1 target.1 moved.0 moved.1 none)
      (same_place t law one two seen_one seen_two same source.0 target.0 source.1.0 target.1.0)

-- where two names are not those of one file, each directory lets go what it loses
pub rename_lets_go : (from to : Subject) (a : Rename) (moved : Fattr) → found from a.from.name ≡ Some moved → is_moved moved (found to a.to.name) ≡ false → first (rename_rules from to a) ≡ None
    → (lets_go from.ids from.file moved && on_some (found to a.to.name) true (lets_go to.ids to.file)) ≡ true
rename_lets_go from to a moved is other none =
    let there = subst (λ o. first (rules_before from to a (on_some o [] (λ m. move_rules from to m (found to a.to.name)))) ≡ None) is none in
    let after = subst (λ b. first (rules_before from to a (if b then [] else (sticky_move from to moved (found to a.to.name) ∷ entering_rules from to moved (found to a.to.name)))) ≡ None) other there in
    not-false _ (passed_at (rules_before from to a (sticky_move from to moved (found to a.to.name) ∷ entering_rules from to moved (found to a.to.name))) after 14 (sticky_move from to moved (found to a.to.name)) refl)

-- RENAME
pub may_rename : (t : Tree) → Law t → (one two : Subject) → one.tree ≡ t → two.tree ≡ t → attributes_at one.tree one.file.fileid ≡ Some one.file → attributes_at two.tree two.file.fileid ≡ Some two.file → one.file.fsid ≡ two.file.fsid
    → (a : Rename) → first (rename_rules one two a) ≡ None → MayRename t one.file.fileid a.from.name two.file.fileid a.to.name
may_rename t law one two tree_one tree_two seen_one seen_two same a none =
    may_rename_over t law one two (subst (λ u. attributes_at u one.file.fileid ≡ Some one.file) tree_one seen_one) (subst (λ u. attributes_at u two.file.fileid ≡ Some two.file) tree_two seen_two) a same
    (subst (λ u. first (rename_rules (over u one) (over t two) a) ≡ None) tree_one (subst (λ u. first (rename_rules one (over u two) a) ≡ None) tree_two none))

-- the entry of a name in a directory, where the rules have found what it names
entry_found : (s : Subject) → Law s.tree → attributes_at s.tree s.file.fileid ≡ Some s.file → (not_directory s).1 ≡ false → (name : List ℕ) → (dot_name name).1 ≡ false → (o : Option Fattr) → found s name ≡ o
    → option_map (λ (e : Entry). e.number) (entry_at s.tree s.file.fileid name) ≡ option_map (λ (f : Fattr). f.fileid) o
entry_found s law seen directory name dots None is =
    let dir = lives_as_directory s law seen directory in
    ap (λ o. option_map (λ (e : Entry). e.number) (on_some o None (λ (f : File). entry_named name (entries_in f.kind)))) dir.1.0
    ∙ ap (option_map (λ (e : Entry). e.number)) (absent_name s.tree s.file.fileid dir.0 dir.1 name (none_under s name law is)).2
entry_found s law seen directory name dots (Some f) is =
    let dir = lives_as_directory s law seen directory in
    let other = no_dots name dots in
    let entry = present_name s.tree s.file.fileid dir.0 dir.1 name f.fileid (found_seen s name f is).0 other.0 other.1 in
    ap (λ o. option_map (λ (e : Entry). e.number) (on_some o None (λ (f : File). entry_named name (entries_in f.kind)))) dir.1.0
    ∙ ap (option_map (λ (e : Entry). e.number)) entry.1 ∙ ap Some entry.2

-- RENAME, of the files that its rules have found
pub may_rename_seen : (t : Tree) → Law t → (one two : Subject) → one.tree ≡ t → two.tree ≡ t → attributes_at one.tree one.file.fileid ≡ Some one.file → attributes_at two.tree two.file.fileid ≡ Some two.file → one.file.fsid ≡ two.file.fsid
    → (a : Rename) → first (rename_rules one two a) ≡ None → (route : Route) → route.from.0 ≡ one.file.fileid → route.to.0 ≡ two.file.fileid
    → Some route.number.0 ≡ option_map (λ (f : Fattr). f.fileid) (found one a.from.name) → option_map (λ (n : Number). n.0) route.replaced ≡ option_map (λ (f : Fattr). f.fileid) (found two a.to.name)
    → MayRenameSeen t route a.from.name a.to.name
may_rename_seen t law one two tree_one tree_two seen_one seen_two same a none route from_is to_is moved replaced =
    let passed = passed_at (rename_rules one two a) none in
    let entry_one = entry_found one (subst Law (sym tree_one) law) seen_one (passed 1 (not_directory one) refl) a.from.name (passed 3 (dot_name a.from.name) refl) (found one a.from.name) refl in
    let entry_two = entry_found two (subst Law (sym tree_two) law) seen_two (passed 2 (not_directory two) refl) a.to.name (passed 4 (dot_name a.to.name) refl) (found two a.to.name) refl in
    record {
      may = subst (λ d. MayRename t d a.from.name route.to.0 a.to.name) (sym from_is)
          (subst (λ d. MayRename t one.file.fileid a.from.name d a.to.name) (sym to_is) (may_rename t law one two tree_one tree_two seen_one seen_two same a none));
      found = moved ∙ sym entry_one ∙ ap (λ u. option_map (λ (e : Entry). e.number) (entry_at u one.file.fileid a.from.name)) tree_one
          ∙ ap (λ d. option_map (λ (e : Entry). e.number) (entry_at t d a.from.name)) (sym from_is);
      names = replaced ∙ sym entry_two ∙ ap (λ u. option_map (λ (e : Entry). e.number) (entry_at u two.file.fileid a.to.name)) tree_two
          ∙ ap (λ d. option_map (λ (e : Entry). e.number) (entry_at t d a.to.name)) (sym to_is);
    }
