-- The rules look at no bytes.
use Rattle.std.proofs.Common.{◌≡◌, ℕ, zero, suc, ◌+◌, ◌-◌, Bool, true, false, List, [], ◌∷◌, ◌++◌, length, Option, Some, None, option_map, refl, sym, ap, ◌∙◌}
use Rattle.std.specs.Prelude.{nat_eq, nat_lt, nat_le, not, is_some, is_none, ◌||◌, ◌&&◌, min, slice_get, bytes_eq, if◌then◌else◌}
use Rattle.std.proofs.lemmas.List.{length-map}
use Rattle.nfs_args.specs.Sizes.{max_page}
use Rattle.nfs_args.specs.declared.args.NfsArgs.{NfsArgs}
use Rattle.nfs_args.specs.declared.args.NfsArgs.TheVariants as nfs
use Rattle.nfs_args.specs.declared.create.Create.{Create}
use Rattle.nfs_args.specs.declared.create.CreateHow.{CreateHow}
use Rattle.nfs_args.specs.declared.create.CreateHow.TheVariants.{Unchecked, Guarded, Exclusive}
use Rattle.nfs_args.specs.declared.rename.Rename.{Rename}
use Rattle.nfs_attrs.specs.declared.fattr.Fattr.{Fattr}
use Rattle.nfs_dirs.specs.Pages.{page_head_bytes, entry_bytes, plus_bytes}
use Rattle.nfs_exports.specs.declared.options.Options.{Options}
use Rattle.nfs_exports.specs.declared.export_table.Export.{Export}
use Rattle.nfs_handles.specs.declared.reading.Reading.{Reading}
use Rattle.nfs_handles.specs.declared.reading.Reading.TheVariants.{Live, Stale, Bad}
use Rattle.nfs_handles.specs.Handles.{reading}
use Rattle.nfs_inodes.specs.declared.volumes.Totals.{Totals}
use Rattle.nfs_inodes.specs.Reading.{number_named, first_after, is_directory_type, is_regular_type, numbered_files}
use Rattle.nfs_inodes.specs.Tree.{Tree, Volume, on_some}
use Rattle.nfs_inodes.specs.Law.{parent_of}
use Rattle.nfs_rules.specs.Rights.{may}
use Rattle.nfs_rules.specs.Subjects.{Caller, Subject, named, live_at, granted, subject_with, subject_at}
use Rattle.nfs_rules.specs.Table.{is_above_within, is_above, into_itself, incompatible, is_moved, sticky_move, entering_rules, move_rules, rename_rules, rules_of, new_file_rules, present_file_rules, create_rules, remove_rules, rmdir_rules, size_in}
use Rattle.nfs_rules.specs.Tests as test
use Rattle.nfs_rules.specs.Tests.{first, found, in_volume, takes, is_empty, only_where}
use Rattle.nfs_rules.specs.Verdicts.{handle_rules, handles_rules, handles_in, subjects_at, verdict, cross_volume, is_bad, is_stale}
use Rattle.nfs_rules.specs.declared.rule.Rule.TheVariants as rule
use Rattle.nfs_rules.specs.declared.rights.Right.TheVariants.{Execute}
use Rattle.nfs_policy.specs.Shape.{blank, VerdictsAreOfShape}
use Rattle.nfs_policy.proofs.Blanks.{shown, attributes_blank, listing_blank, next_cookie_blank, parent_blank, verifier_blank, totals_blank, reading_blank}

module _ (p : ℕ → Bool) where
  -- the same subject in the tree without those bytes
  abbrev pub veiled : Subject → Subject
  veiled s = record s { tree = blank p s.tree }

  -- ---- tests

  module _ (s : Subject) where
    pub found_veiled : (name : List ℕ) → found (veiled s) name ≡ found s name
    found_veiled name = λ i. on_some (number_named name (listing_blank p s.tree s.file.fileid i)) None (λ n. attributes_blank p s.tree n i)

    volume_veiled : (test : Volume → Totals → Bool) → in_volume (veiled s) test ≡ in_volume s test
    volume_veiled test = λ i. on_some (slice_get s.tree.volumes (s.file.fsid - 1)) false (λ volume. on_some (totals_blank p s.tree (s.file.fsid - 1) i) false (test volume))

    space_veiled : (more : Option ℕ) → test.space (veiled s) more ≡ test.space s more
    space_veiled more = λ i. (rule.Space, on_some more false (λ n. volume_veiled (λ volume totals. nat_lt volume.max_bytes (totals.bytes + n)) i))

    files_veiled : test.files (veiled s) ≡ test.files s
    files_veiled = λ i. (rule.Files, volume_veiled (λ volume totals. nat_le volume.max_files totals.files) i)

    cookies_veiled : test.cookies (veiled s) ≡ test.cookies s
    cookies_veiled = λ i. (rule.Numbers, on_some (next_cookie_blank p s.tree s.file.fileid i) false (nat_le test.last_number))

    numbers_veiled : test.numbers (veiled s) ≡ test.numbers s
    numbers_veiled = λ i. (rule.Numbers, nat_le test.last_number s.tree.next || on_some (next_cookie_blank p s.tree s.file.fileid i) false (nat_le test.last_number))

    no_entry_veiled : (name : List ℕ) → test.no_entry (veiled s) name ≡ test.no_entry s name
    no_entry_veiled name = λ i. (rule.NoEntry, is_none (found_veiled name i))

    exists_veiled : (name : List ℕ) → test.exists (veiled s) name ≡ test.exists s name
    exists_veiled name = λ i. (rule.Exists, is_some (found_veiled name i))

    too_small_veiled : (cookie count beside : ℕ) → test.too_small (veiled s) cookie count beside ≡ test.too_small s cookie count beside
    too_small_veiled cookie count beside = λ i. (rule.TooSmall, nat_lt (min count max_page) page_head_bytes || on_some (first_after cookie (listing_blank p s.tree s.file.fileid i)) false (λ e. nat_lt (min count max_page) (page_head_bytes + entry_bytes e + beside)))

  takes_blank : (t : Tree) (how : CreateHow) (f : Fattr) → takes (blank p t) how f ≡ takes t how f
  takes_blank t (Unchecked attributes) f = refl
  takes_blank t (Guarded attributes) f = refl
  takes_blank t (Exclusive verifier) f = λ i. is_regular_type f.file_type && on_some (verifier_blank p t f.fileid i) false (bytes_eq verifier)

  exists_other_veiled : (s : Subject) (name : List ℕ) (how : CreateHow) → test.exists_other (veiled s) name how ≡ test.exists_other s name how
  exists_other_veiled s name how = λ i. (rule.Exists, on_some (found_veiled s name i) false (λ f. not (takes_blank s.tree how f i)))

  empty_blank : (t : Tree) (f : Fattr) → is_empty (blank p t) f ≡ is_empty t f
  empty_blank t f = λ i. is_none (first_after 2 (listing_blank p t f.fileid i))

  within_blank : (steps : ℕ) (t : Tree) (n d : ℕ) → is_above_within steps (blank p t) n d ≡ is_above_within steps t n d
  within_blank zero t n d = refl
  within_blank (suc steps) t n d = ap (λ b. nat_eq d n || b) (within_blank steps t n (parent_of (blank p t).files d) ∙ ap (is_above_within steps t n) (parent_blank p t d))

  above_blank : (t : Tree) (n d : ℕ) → is_above (blank p t) n d ≡ is_above t n d
  above_blank t n d = ap (λ k. is_above_within k (blank p t) n d) (length-map t.files (shown p)) ∙ within_blank (length t.files) t n d

  -- ---- the table

  new_file_veiled : (s : Subject) (size : Option ℕ) → new_file_rules (veiled s) size ≡ new_file_rules s size
  new_file_veiled s size = λ i. test.directory_write s ∷ files_veiled s i ∷ test.too_big s.tree.limits size ∷ space_veiled s size i ∷ numbers_veiled s i ∷ []

  present_file_veiled : (s : Subject) (how : CreateHow) → present_file_rules (veiled s) how ≡ present_file_rules s how
  present_file_veiled s (Unchecked attributes) = λ i. only_where (is_some attributes.size) (test.write_right s) ∷ test.too_big s.tree.limits attributes.size ∷ space_veiled s (test.growth s attributes.size) i ∷ []
  present_file_veiled s (Guarded attributes) = refl
  present_file_veiled s (Exclusive verifier) = refl

  create_veiled : (s : Subject) (a : Create) → create_rules (veiled s) a ≡ create_rules s a
  create_veiled s a = λ i. test.read_only s ∷ test.not_directory s ∷ test.name_long a.place.name ∷ test.name_form a.place.name ∷ test.search_right s ∷ exists_other_veiled s a.place.name a.how i
      ∷ on_some (found_veiled s a.place.name i) (new_file_veiled s (size_in a.how) i) (λ f. present_file_veiled (record s { file = f }) a.how i)

  remove_veiled : (s : Subject) (name : List ℕ) → remove_rules (veiled s) name ≡ remove_rules s name
  remove_veiled s name = λ i. test.read_only s ∷ test.not_directory s ∷ test.dot_name name ∷ test.name_long name ∷ test.name_form name ∷ test.search_right s ∷ no_entry_veiled s name i ∷ test.directory_write s
      ∷ on_some (found_veiled s name i) [] (λ f. test.sticky s f ∷ test.is_directory f ∷ [])

  rmdir_veiled : (s : Subject) (name : List ℕ) → rmdir_rules (veiled s) name ≡ rmdir_rules s name
  rmdir_veiled s name = λ i. test.read_only s ∷ test.not_directory s ∷ test.dot_alone name ∷ test.dot_dot_alone name ∷ test.name_long name ∷ test.name_form name ∷ test.search_right s ∷ no_entry_veiled s name i ∷ test.directory_write s
      ∷ on_some (found_veiled s name i) [] (λ f. test.sticky s f ∷ test.target_not_directory f ∷ (rule.NotEmpty, not (empty_blank s.tree f i)) ∷ [])

  into_itself_veiled : (to : Subject) (moved : Fattr) → into_itself (veiled to) moved ≡ into_itself to moved
  into_itself_veiled to moved = λ i. (rule.IntoItself, is_directory_type moved.file_type && above_blank to.tree moved.fileid to.file.fileid i)

  incompatible_veiled : (to : Subject) (moved old : Fattr) → incompatible (veiled to) moved old ≡ incompatible to moved old
  incompatible_veiled to moved old = λ i. (rule.Incompatible, not (not (is_directory_type moved.file_type) && not (is_directory_type old.file_type) || is_directory_type moved.file_type && is_directory_type old.file_type && empty_blank to.tree old i))

  entering_veiled : (from to : Subject) (moved : Fattr) (old : Option Fattr) → entering_rules (veiled from) (veiled to) moved old ≡ entering_rules from to moved old
  entering_veiled from to moved None = λ i. into_itself_veiled to moved i ∷ only_where (is_directory_type moved.file_type && not (nat_eq from.file.fileid to.file.fileid)) (test.links to.tree.limits to.file) ∷ cookies_veiled to i ∷ []
  entering_veiled from to moved (Some old) = λ i. incompatible_veiled to moved old i ∷ into_itself_veiled to moved i ∷ cookies_veiled to i ∷ []

  move_veiled : (from to : Subject) (moved : Fattr) (old : Option Fattr) → move_rules (veiled from) (veiled to) moved old ≡ move_rules from to moved old
  move_veiled from to moved old = λ i. if is_moved moved old then [] else (sticky_move from to moved old ∷ entering_veiled from to moved old i)

  rename_veiled : (from to : Subject) (a : Rename) → rename_rules (veiled from) (veiled to) a ≡ rename_rules from to a
  rename_veiled from to a = λ i. test.read_only from ∷ test.not_directory from ∷ test.not_directory to ∷ test.dot_name a.from.name ∷ test.dot_name a.to.name
      ∷ test.name_long a.from.name ∷ test.name_long a.to.name ∷ test.name_form a.from.name ∷ test.name_form a.to.name ∷ test.search_right from ∷ test.search_right to
      ∷ no_entry_veiled from a.from.name i ∷ test.directory_write from ∷ test.directory_write to
      ∷ on_some (found_veiled from a.from.name i) [] (λ moved. move_veiled from to moved (found_veiled to a.to.name i) i)

  pub rules_veiled : (one two : Subject) (args : NfsArgs) → rules_of (veiled one) (veiled two) args ≡ rules_of one two args
  rules_veiled one two nfs.Null = refl
  rules_veiled one two (nfs.Getattr file) = refl
  rules_veiled one two (nfs.Setattr a) = λ i.
      test.read_only one ∷ test.guard one a.guard ∷ test.owner_mode one a.attributes ∷ test.owner_uid one a.attributes ∷ test.owner_gid one a.attributes
      ∷ test.size_type one a.attributes ∷ only_where (is_some a.attributes.size) (test.write_right one) ∷ test.owner_time one a.attributes ∷ test.time_right one a.attributes
      ∷ test.too_big one.tree.limits a.attributes.size ∷ space_veiled one (test.growth one a.attributes.size) i ∷ []
  rules_veiled one two (nfs.Lookup a) = λ i. test.not_directory one ∷ test.search_right one ∷ test.name_long a.name ∷ test.name_form a.name ∷ no_entry_veiled one a.name i ∷ []
  rules_veiled one two (nfs.Access a) = refl
  rules_veiled one two (nfs.Readlink file) = refl
  rules_veiled one two (nfs.Read a) = refl
  rules_veiled one two (nfs.Write a) = λ i. test.read_only one ∷ test.not_regular one ∷ test.write_right one ∷ test.too_big one.tree.limits (test.end_of a.offset (length a.content)) ∷ space_veiled one (test.growth one (test.end_of a.offset (length a.content))) i ∷ []
  rules_veiled one two (nfs.Create a) = create_veiled one a
  rules_veiled one two (nfs.Mkdir a) = λ i. test.read_only one ∷ test.not_directory one ∷ test.name_long a.place.name ∷ test.name_form a.place.name ∷ test.search_right one ∷ exists_veiled one a.place.name i ∷ test.directory_write one ∷ files_veiled one i ∷ test.links one.tree.limits one.file ∷ numbers_veiled one i ∷ []
  rules_veiled one two (nfs.Symlink a) = λ i. test.read_only one ∷ test.not_directory one ∷ test.name_long a.place.name ∷ test.name_form a.place.name ∷ test.search_right one ∷ test.path_long one.tree.limits.link_path a.path ∷ exists_veiled one a.place.name i ∷ test.directory_write one ∷ files_veiled one i ∷ numbers_veiled one i ∷ []
  rules_veiled one two (nfs.Mknod a) = refl
  rules_veiled one two (nfs.Remove a) = remove_veiled one a.name
  rules_veiled one two (nfs.Rmdir a) = rmdir_veiled one a.name
  rules_veiled one two (nfs.Rename a) = rename_veiled one two a
  rules_veiled one two (nfs.Link a) = λ i. test.read_only one ∷ test.link_directory one ∷ test.not_directory two ∷ test.name_long a.place.name ∷ test.name_form a.place.name ∷ test.search_right two ∷ exists_veiled two a.place.name i
      ∷ test.directory_write two ∷ test.links one.tree.limits one.file ∷ cookies_veiled two i ∷ []
  rules_veiled one two (nfs.Readdir a) = λ i. test.not_directory one ∷ test.directory_read one ∷ too_small_veiled one a.cookie a.count 0 i ∷ []
  rules_veiled one two (nfs.Readdirplus a) = λ i. test.not_directory one ∷ test.directory_read one ∷ too_small_veiled one a.cookie a.maxcount (plus_bytes (may one.ids one.file Execute)) i ∷ []
  rules_veiled one two (nfs.Fsstat file) = refl
  rules_veiled one two (nfs.Fsinfo file) = refl
  rules_veiled one two (nfs.Pathconf file) = refl
  rules_veiled one two (nfs.Commit a) = refl

  -- ---- handles

  live_blank : (t : Tree) (r : Reading) → live_at (blank p t) r ≡ live_at t r
  live_blank t (Live n) = attributes_blank p t n.0
  live_blank t Stale = refl
  live_blank t Bad = refl

  pub named_blank : (t : Tree) (handle : List ℕ) → named (blank p t) handle ≡ named t handle
  named_blank t handle = live_blank t (reading (numbered_files (blank p t)) handle) ∙ ap (live_at t) (reading_blank p t handle)

  module _ (t : Tree) (exports : List (List Export)) (caller : Caller) where
    handle_rules_blank : (handle : List ℕ) → handle_rules (blank p t) exports caller handle ≡ handle_rules t exports caller handle
    handle_rules_blank handle = λ i. (rule.BadHandle, is_bad (reading_blank p t handle i)) ∷ (rule.StaleHandle, is_stale (reading_blank p t handle i))
        ∷ (rule.Export, on_some (named_blank t handle i) false (λ f. is_none (granted exports caller.addr f))) ∷ []

    cross_blank : (one two : List ℕ) → cross_volume (blank p t) one two ≡ cross_volume t one two
    cross_blank one two = λ i. (rule.CrossVolume, on_some (named_blank t one i) false (λ f. on_some (named_blank t two i) false (λ g. not (nat_eq f.fsid g.fsid))))

    handles_blank : (handles : List (List ℕ)) → handles_rules (blank p t) exports caller handles ≡ handles_rules t exports caller handles
    handles_blank [] = refl
    handles_blank (one ∷ []) = handle_rules_blank one
    handles_blank (one ∷ two ∷ others) = λ i. handle_rules_blank one i ++ handle_rules_blank two i ++ cross_blank one two i ∷ []

    with_options : (f : Fattr) (o : Option Options) → option_map (subject_with (blank p t) caller.cred f) o ≡ option_map veiled (option_map (subject_with t caller.cred f) o)
    with_options f None = refl
    with_options f (Some options) = refl

    of_named : (o : Option Fattr) → on_some o None (λ f. option_map (subject_with (blank p t) caller.cred f) (granted exports caller.addr f)) ≡ option_map veiled (on_some o None (λ f. option_map (subject_with t caller.cred f) (granted exports caller.addr f)))
    of_named None = refl
    of_named (Some f) = with_options f (granted exports caller.addr f)

    pub subject_blank : (handle : List ℕ) → subject_at (blank p t) exports caller handle ≡ option_map veiled (subject_at t exports caller handle)
    subject_blank handle = ap (λ o. on_some o None (λ f. option_map (subject_with (blank p t) caller.cred f) (granted exports caller.addr f))) (named_blank t handle) ∙ of_named (named t handle)

    -- both
    abbrev pub both_veiled : Subject × Subject → Subject × Subject
    both_veiled s = (veiled s.0, veiled s.1)

    of_one : (o : Option Subject) → option_map (λ (s : Subject). (s, s)) (option_map veiled o) ≡ option_map both_veiled (option_map (λ (s : Subject). (s, s)) o)
    of_one None = refl
    of_one (Some s) = refl

    abbrev pair : Option Subject → Option Subject → Option (Subject × Subject)
    pair o q = on_some o None (λ s. on_some q None (λ u. if nat_eq s.file.fsid u.file.fsid then Some (s, u) else None))

    of_same : (b : Bool) (s u : Subject) → (if b then Some (veiled s, veiled u) else None) ≡ option_map both_veiled (if b then Some (s, u) else None)
    of_same true s u = refl
    of_same false s u = refl

    of_two : (o q : Option Subject) → pair (option_map veiled o) (option_map veiled q) ≡ option_map both_veiled (pair o q)
    of_two None q = refl
    of_two (Some s) None = refl
    of_two (Some s) (Some u) = of_same (nat_eq s.file.fsid u.file.fsid) s u

    pub subjects_blank : (handles : List (List ℕ)) → subjects_at (blank p t) exports caller handles ≡ option_map both_veiled (subjects_at t exports caller handles)
    subjects_blank [] = refl
    subjects_blank (one ∷ []) = ap (option_map (λ (s : Subject). (s, s))) (subject_blank one) ∙ of_one (subject_at t exports caller one)
    subjects_blank (one ∷ two ∷ others) = (λ i. pair (subject_blank one i) (subject_blank two i)) ∙ of_two (subject_at t exports caller one) (subject_at t exports caller two)

    of_subjects : (args : NfsArgs) (o : Option (Subject × Subject)) → on_some (option_map both_veiled o) [] (λ s. rules_of s.0 s.1 args) ≡ on_some o [] (λ s. rules_of s.0 s.1 args)
    of_subjects args None = refl
    of_subjects args (Some s) = rules_veiled s.0 s.1 args

    pub verdict_blank : (args : NfsArgs) → verdict (blank p t) exports caller args ≡ verdict t exports caller args
    verdict_blank args = λ i. first (handles_blank (handles_in args) i ++ (ap (λ o. on_some o [] (λ s. rules_of s.0 s.1 args)) (subjects_blank (handles_in args)) ∙ of_subjects args (subjects_at t exports caller (handles_in args))) i)

pub verdicts_are_of_shape : VerdictsAreOfShape
verdicts_are_of_shape t u same exports caller args = sym (verdict_blank (λ n. true) t exports caller args) ∙ ap (λ w. verdict w exports caller args) same ∙ verdict_blank (λ n. true) u exports caller args
