-- Where no rule is failed, a directory takes a hard link and a new file.
use Rattle.std.proofs.Common.{◌≡◌, ℕ, ◌+◌, ◌<◌, ◌≤◌, false, List, Option, Some, None, refl, sym, subst, ◌∙◌, arith}
use Rattle.std.specs.Prelude.{is_some, not, ◌∷◌, length}
use Rattle.std.proofs.lemmas.Bool.{not-false, leb-false, ltb-false}
use Rattle.nfs_args.specs.declared.create.Create.{Create}
use Rattle.nfs_args.specs.declared.create.CreateHow.{CreateHow}
use Rattle.nfs_attrs.specs.declared.fattr.Fattr.{Fattr}
use Rattle.nfs_inodes.specs.Tree.{File, on_some, entries_in, bytes_of}
use Rattle.nfs_inodes.specs.Law.{Law, LivesAsDirectory}
use Rattle.nfs_inodes.specs.Conditions.{MayEnter, MayMake, MayMakeDirectory, MayMakeLink}
use Rattle.nfs_inodes.specs.Reading.{attributes_at}
use Rattle.nfs_inodes.proofs.law.Renames.{none_named}
use Rattle.nfs_rules.specs.Subjects.{Subject}
use Rattle.nfs_rules.specs.Tests.{Test, first, read_only, not_directory, search_right, name_long, name_form, found, exists, takes, files, links, numbers, cookies, too_big, space, path_long}
use Rattle.nfs_rules.specs.Table.{mkdir_rules, symlink_rules, create_rules, new_file_rules, present_file_rules, size_in}
use Rattle.nfs_rules.specs.declared.rule.Rule.TheVariants as rule
use Rattle.nfs_rules.proofs.Firsts.{passed_at}
use Rattle.nfs_rules.proofs.SeenFiles.{seen_lives, seen_directory, seen_links, none_under}
use Rattle.nfs_rules.proofs.Names.{is_name, absent_name}
use Rattle.nfs_rules.proofs.Room.{has_cookie, has_number, has_file, has_space}

pub none_from_is_some : {X : Type 0} (o : Option X) → is_some o ≡ false → o ≡ None
none_from_is_some None e = refl
none_from_is_some (Some x) e = cc

-- the rules of CREATE by what is found
abbrev pub create_rules_with : Subject → List ℕ → CreateHow → Option Fattr → List Test
create_rules_with s name how there = read_only s ∷ not_directory s ∷ name_long name ∷ name_form name ∷ search_right s ∷ (rule.Exists, on_some there false (λ f. not (takes s.tree how f)))
    ∷ on_some there (new_file_rules s (size_in how)) (λ f. present_file_rules (record s { file = f }) how)

module _ (s : Subject) (law : Law s.tree) (seen : attributes_at s.tree s.file.fileid ≡ Some s.file) where
  -- the directory itself
  pub lives_as_directory : (not_directory s).1 ≡ false → (h : File) × LivesAsDirectory s.tree s.file.fileid h
  lives_as_directory e = let lives = seen_lives s.tree s.file seen in
      (lives.0, (lives.1, sym (seen_directory s.tree s.file seen lives.0 lives.1) ∙ not-false _ e))

  module _ (name : List ℕ) where
    pub may_enter : (not_directory s).1 ≡ false → (name_long name).1 ≡ false → (name_form name).1 ≡ false → found s name ≡ None → (cookies s).1 ≡ false → MayEnter s.tree s.file.fileid name
    may_enter directory long form none left =
        let dir = lives_as_directory directory in
        let absent = absent_name s.tree s.file.fileid dir.0 dir.1 name (none_under s name law none) in
        record {
          dir = dir.0;
          at_dir = dir.1;
          cookie = has_cookie s dir.0 dir.1 left;
          is_name = is_name name long form absent.0 absent.1;
          fresh = none_named name (entries_in dir.0.kind) absent.2;
        }

    -- a new file of a size, or with none, which is 0
    pub may_make_sized : MayEnter s.tree s.file.fileid name → (size : Option ℕ) → (files s).1 ≡ false → (too_big s.tree.limits size).1 ≡ false → (space s size).1 ≡ false → (numbers s).1 ≡ false → MayMake s.tree s.file.fileid name (on_some size 0 (λ n. n))
    may_make_sized enter size few large room left =
        let placed = law.placed s.file.fileid enter.dir enter.at_dir.0 in
        record {
          enter = enter;
          number = (has_number s left).0;
          volume = placed.0;
          at_volume = placed.1;
          files = has_file s seen enter.dir enter.at_dir.0 placed.0 placed.1 few;
          bytes = fits size room;
          large = small size large;
        }
      where
        fits : (size : Option ℕ) → (space s size).1 ≡ false → bytes_of enter.dir.volume s.tree.files + on_some size 0 (λ n. n) ≤ (law.placed s.file.fileid enter.dir enter.at_dir.0).0.max_bytes
        fits None room = let all = law.bytes enter.dir.volume (law.placed s.file.fileid enter.dir enter.at_dir.0).0 (law.placed s.file.fileid enter.dir enter.at_dir.0).1 in omega (arith, all)
        fits (Some n) room = has_space s seen enter.dir enter.at_dir.0 (law.placed s.file.fileid enter.dir enter.at_dir.0).0 (law.placed s.file.fileid enter.dir enter.at_dir.0).1 n room

        small : (size : Option ℕ) → (too_big s.tree.limits size).1 ≡ false → on_some size 0 (λ n. n) ≤ s.tree.limits.file_size
        small None large = let none : 0 ≤ s.tree.limits.file_size = omega arith in none
        small (Some n) large = ltb-false s.tree.limits.file_size n large

    -- a new directory
    pub may_make_directory : first (mkdir_rules s name) ≡ None → MayMakeDirectory s.tree s.file.fileid name
    may_make_directory none =
        let passed = passed_at (mkdir_rules s name) none in
        let enter = may_enter (passed 1 (not_directory s) refl) (passed 2 (name_long name) refl) (passed 3 (name_form name) refl) (none_from_is_some (found s name) (passed 5 (exists s name) refl)) (has_number s (passed 9 (numbers s) refl)).1 in
        let make = may_make_sized enter None (passed 7 (files s) refl) refl refl (passed 9 (numbers s) refl) in
        record {
          make = make;
          links = subst (λ n. n < s.tree.limits.links) (seen_links s.tree s.file seen make.enter.dir make.enter.at_dir.0) (leb-false s.tree.limits.links s.file.nlink (passed 8 (links s.tree.limits s.file) refl));
        }

    -- a link
    pub may_make_link : (path : List ℕ) → first (symlink_rules s name path) ≡ None → MayMakeLink s.tree s.file.fileid name path
    may_make_link path none =
        let passed = passed_at (symlink_rules s name path) none in
        let enter = may_enter (passed 1 (not_directory s) refl) (passed 2 (name_long name) refl) (passed 3 (name_form name) refl) (none_from_is_some (found s name) (passed 6 (exists s name) refl)) (has_number s (passed 9 (numbers s) refl)).1 in
        record {
          make = may_make_sized enter None (passed 8 (files s) refl) refl refl (passed 9 (numbers s) refl);
          long = ltb-false s.tree.limits.link_path (length path) (passed 5 (path_long s.tree.limits.link_path path) refl);
        }

  -- a regular file that is not there
  pub may_make_file : (a : Create) → first (create_rules s a) ≡ None → found s a.place.name ≡ None → MayMake s.tree s.file.fileid a.place.name (on_some (size_in a.how) 0 (λ n. n))
  may_make_file a none absent =
      let name = a.place.name in
      let size = size_in a.how in
      let passed = passed_at (create_rules_with s name a.how None) (subst (λ o. first (create_rules_with s name a.how o) ≡ None) absent none) in
      let enter = may_enter name (passed 1 (not_directory s) refl) (passed 2 (name_long name) refl) (passed 3 (name_form name) refl) absent (has_number s (passed 10 (numbers s) refl)).1 in
      may_make_sized name enter size (passed 7 (files s) refl) (passed 8 (too_big s.tree.limits size) refl) (passed 9 (space s size) refl) (passed 10 (numbers s) refl)
