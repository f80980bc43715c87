-- The policy, procedure by procedure.
use Rattle.std.proofs.Common.{inl, inr, ◌≡◌, ◌≢◌, ◌⊎◌, ℕ, ◌-◌, Bool, true, false, List, [], ◌∷◌, Option, Some, None, option_map, refl, sym, ap, subst, ◌∙◌}
use Rattle.std.specs.Prelude.{Contains, nat_eq, nat_le, slice_get, ◌%◌, is_some, not, ◌||◌, ◌&&◌, if◌then◌else◌}
use Rattle.std.specs.List.{list_any}
use Rattle.std.proofs.lemmas.Bool.{not-false, eqb-true, eq-eqb, and_parts}
use Rattle.nfs_args.specs.declared.args.NfsArgs.TheVariants as nfs
use Rattle.nfs_args.specs.declared.setattr.Setattr.{Setattr}
use Rattle.nfs_args.specs.declared.write.Write.{Write}
use Rattle.nfs_attrs.specs.declared.fattr.Fattr.{Fattr}
use Rattle.nfs_attrs.specs.declared.moment.Moment.{Moment}
use Rattle.nfs_attrs.specs.declared.sattr.Sattr.{Sattr}
use Rattle.nfs_attrs.specs.declared.time_setting.TimeSetting.{TimeSetting}
use Rattle.nfs_attrs.specs.declared.time_setting.TimeSetting.TheVariants.{Leave, ServerTime, ClientTime}
use Rattle.nfs_exports.specs.Ids.{Ids, squash}
use Rattle.nfs_exports.specs.declared.export_table.Export.{Export}
use Rattle.nfs_inodes.proofs.Lists.{by_test, if_false, same_some, not_both, true_and_false}
use Rattle.nfs_inodes.proofs.law.WithoutEntry.{names_apart}
use Rattle.nfs_inodes.proofs.law.EntryLess.{found_is}
use Rattle.nfs_inodes.proofs.Maps.{at_with_same, apart_number}
use Rattle.nfs_inodes.specs.Changes.{with_file, new_file, volume_index, with_named_file, after_mkdir, after_make_link, after_link, after_rename, zeros, file_with_bytes, after_write_at, resized_to, after_resize, with_given, after_set, after_unlink}
use Rattle.nfs_inodes.specs.Conditions.{MayUnlink, MayEnter, MayRename}
use Rattle.nfs_inodes.specs.Law.{Law, Lives, LivesAsDirectory}
use Rattle.nfs_inodes.specs.Reading.{attributes_at, attributes_of, entry_named}
use Rattle.nfs_inodes.specs.Tree.{Tree, File, Kind, Regular, Directory, Entry, at, on_some, entries_in, nlink}
use Rattle.nfs_procs.specs.Changers.{file_mode, directory_mode, link_mode, attributes_in, verifier_in, after_writing, after_taking, after_creating, setting, given_of, sets_something, after_settings, cleared_mode, with_cleared_mode, has_bytes, size_alone, size_taken, mode_alone}
use Rattle.nfs_args.specs.declared.args.NfsArgs.{NfsArgs}
use Rattle.nfs_args.specs.declared.create.Create.{Create}
use Rattle.nfs_args.specs.declared.create.CreateHow.{CreateHow}
use Rattle.nfs_args.specs.declared.create.CreateHow.TheVariants.{Unchecked, Guarded, Exclusive}
use Rattle.nfs_args.specs.declared.rename.Rename.{Rename}
use Rattle.nfs_exports.specs.declared.options.Options.{Options}
use Rattle.nfs_inodes.proofs.Lookups.{found_lives}
use Rattle.nfs_procs.specs.Changers.{setattr, write, create, mkdir, symlink, remove, rmdir, rename, link}
use Rattle.nfs_procs.specs.Readers.{getattr, lookup, access, readlink, read, readdir, readdirplus, mknod, fsstat, fsinfo, pathconf, commit}
use Rattle.nfs_procs.specs.Doing.{Doing}
use Rattle.nfs_procs.specs.Performing.{IsGranted, Performs}
use Rattle.nfs_procs.specs.Procedures.{PerformsAs, doing_of}
use Rattle.nfs_procs.specs.Scenes.{Scene}
use Rattle.nfs_procs.specs.declared.done.Done.{Done}
use Rattle.nfs_procs.specs.declared.done.Done.TheVariants.{Granted, Denied, Memory}
use Rattle.nfs_rules.proofs.Links.{may_link}
use Rattle.nfs_rules.proofs.Names.{no_dots, absent_name, present_name}
use Rattle.nfs_rules.proofs.Renames.{may_rename, rename_lets_go}
use Rattle.nfs_rules.proofs.Firsts.{passed_at}
use Rattle.nfs_rules.proofs.SeenFiles.{seen_lives, seen_place, none_under, found_seen}
use Rattle.nfs_rules.proofs.Removals.{may_remove, may_remove_directory, remove_lets_go, rmdir_lets_go, some_from_is_none}
use Rattle.nfs_rules.specs.Rights.{may, owns, restricts_deletion, lets_go}
use Rattle.nfs_rules.specs.Subjects.{Caller, Subject}
use Rattle.nfs_rules.proofs.NewFiles.{may_make_directory, may_make_link, may_make_file, create_rules_with}
use Rattle.nfs_rules.specs.Table.{is_moved, rules_of, write_rules, setattr_rules, create_rules, size_in, mkdir_rules, symlink_rules, remove_rules, rmdir_rules, link_rules, rename_rules}
use Rattle.nfs_args.specs.declared.mkdir.Mkdir.{Mkdir}
use Rattle.nfs_args.specs.declared.symlink.Symlink.{Symlink}
use Rattle.nfs_procs.specs.NewFiles.{uid_of, gid_of, new_file_of}
use Rattle.nfs_rules.specs.Tests as test
use Rattle.nfs_rules.specs.Tests.{Test, first, found, owns_or_may, gives_uid, gives_gid, is_client_time, is_server_time}
use Rattle.nfs_rules.specs.declared.rights.Right.{Right}
use Rattle.nfs_rules.specs.declared.rights.Right.TheVariants.{Execute}
use Rattle.nfs_rules.specs.declared.rights.Right.TheVariants as right
use Rattle.nfs_policy.specs.Policy.{Policy, ChangesAreConfined, EntriesDiffer, IsOwn, options_at, in_group, rights_of, is_owner, is_writer, is_enterer, is_deleter, loses_set_ids}
use Rattle.nfs_policy.proofs.Deletions.{MayGo, MayLeave, Keeps, IsApart, keeps_settled, keeps_writing, keeps_linked, keeps_unlink, keeps_make, keeps_rename}
use Rattle.nfs_policy.proofs.Modes.{loses_both}
use Rattle.nfs_policy.proofs.Edits.{MayGive, written_allowed, resized_allowed, given_allowed}
use Rattle.nfs_policy.proofs.Granted.{IsSubject, AreSubjects, are_subjects, rules_kept}
use Rattle.nfs_policy.proofs.Leading.{Leads, leads_itself, leads_on, policy, policy_itself}
use Rattle.nfs_policy.proofs.Led.{Enters, unlink_led, unlink_differs, make_led, make_differs, link_led, rename_led}

or_right : (a b : Bool) → b ≡ true → (a || b) ≡ true
or_right true b e = refl
or_right false b e = e

-- a caller is in its group
its_own : (i : Ids) → in_group i i.gid ≡ true
its_own i = ap (λ b. b || list_any (nat_eq i.gid) i.gids) (eq-eqb i.gid i.gid refl)

-- ---- what a granted call's subject is

module _ (t : Tree) (exports : List (List Export)) (caller : Caller) (s : Subject) (is : IsSubject t exports caller s) where
  abbrev pub ids : Ids
  ids = squash s.options caller.cred

  abbrev pub index : ℕ
  index = s.file.fsid - 1

  pub lives : (r : File) × Lives s.tree s.file.fileid r
  lives = seen_lives s.tree s.file is.seen

  module _ (r : File) (at_r : Lives s.tree s.file.fileid r) where
    shown : attributes_of s.file.fileid r (nlink s.tree.files s.file.fileid r) ≡ s.file
    shown = same_some (sym (ap (option_map (λ (h : File). attributes_of s.file.fileid h (nlink s.tree.files s.file.fileid h))) at_r) ∙ is.seen)

    pub at_place : r.volume ≡ index
    at_place = sym (seen_place s.tree s.file is.seen r at_r)

    pub may_is : (right : Right) → may s.ids s.file right ≡ may ids (rights_of r) right
    may_is right = λ i. may (is.ids i) (sym shown i) right

    pub owns_is : owns s.ids s.file ≡ is_owner ids r
    owns_is = λ i. owns (is.ids i) (sym shown i)

    pub writer_is : owns_or_may s right.Write ≡ is_writer ids r
    writer_is = λ i. owns_is i || may_is right.Write i

    pub enterer : (test.search_right s).1 ≡ false → (test.directory_write s).1 ≡ false → is_enterer ids r ≡ true
    enterer x w = λ i. (sym (may_is right.Write) ∙ not-false _ w) i && (sym (may_is Execute) ∙ not-false _ x) i

    pub writer : (test.directory_write s).1 ≡ false → is_writer ids r ≡ true
    writer w = or_right (is_owner ids r) (may ids (rights_of r) right.Write) (sym (may_is right.Write) ∙ not-false _ w)

  -- the entry of a file that the directory lets go
  module _ (law : Law s.tree) (dir : File) (at_dir : Lives s.tree s.file.fileid dir) (f : Fattr) (seen : attributes_at s.tree f.fileid ≡ Some f) (go : lets_go s.ids s.file f ≡ true) where
    deleter : (g : File) → Lives s.tree f.fileid g → is_deleter ids dir g ≡ true
    deleter g at_g = (λ i. not (restricts_deletion (shown dir at_dir i).mode) || sym (owns_is dir at_dir) i || owner i) ∙ go
      where
        is_shown : attributes_of f.fileid g (nlink s.tree.files f.fileid g) ≡ f
        is_shown = same_some (sym (ap (option_map (λ (h : File). attributes_of f.fileid h (nlink s.tree.files f.fileid h))) at_g) ∙ seen)

        owner : is_owner ids g ≡ owns s.ids f
        owner = λ i. owns (sym is.ids i) (is_shown i)

    pub may_leave : (name : List ℕ) (e0 : Entry) → entry_named name (entries_in dir.kind) ≡ Some e0 → e0.number ≡ f.fileid → MayLeave (MayGo ids s.tree) s.tree s.file.fileid name
    may_leave name e0 found number e c named dir' g at_dir' at_g =
        let there : Contains (entries_in dir.kind) e = subst (λ o. Contains (on_some o [] (λ (h : File). entries_in h.kind)) e) at_dir c in
        let same : e0 ≡ e = found_is name (entries_in dir.kind) e0 e (names_apart dir (law.sound s.file.fileid dir at_dir)) found there named in
        subst (λ d. is_deleter ids d g ≡ true) (same_some (sym at_dir ∙ at_dir')) (deleter g (subst (λ n. Lives s.tree n g) (ap (λ (x : Entry). x.number) (sym same) ∙ number) at_g))

  abbrev Polite : Moment → Tree → Type 0
  Polite now new = Policy exports caller now s.tree new

  module _ (now : Moment) where
    abbrev r : File
    r = lives.0

    at_r : Lives s.tree s.file.fileid r
    at_r = lives.1

    abbrev n : ℕ
    n = s.file.fileid

    -- ---- what is set of the file

    -- a tree to which the file is led, and in which it has its mode, owner and group
    record IsAsBefore (u : Tree) : Type 0 where
      led : Leads ids now index ⊥ s.tree u
      file : File
      at_file : at n u.files ≡ Some file
      mode : file.mode ≡ r.mode
      uid : file.uid ≡ r.uid
      gid : file.gid ≡ r.gid

    as_it_is : IsAsBefore s.tree
    as_it_is = record { led = leads_itself ids now index ⊥ s.tree; file = r; at_file = at_r; mode = refl; uid = refl; gid = refl }

    sized_from : (u : Tree) → IsAsBefore u → (o : Option ℕ) → (is_some o ≡ true → is_writer ids r ≡ true) → IsAsBefore (on_some o u (λ size. after_resize u n size now))
    sized_from u z None writes = z
    sized_from u z (Some size) writes = record {
      led = leads_on ids now index ⊥ s.tree u z.led n r at_r (at_place r at_r) (λ f. resized_to f size now) (λ f at_f. resized_allowed ids now index ⊥ r f size (writes refl));
      file = resized_to z.file size now;
      at_file = ap (λ (t : Tree). at n t.files) (ap (λ o. on_some o u (λ f. with_file u n (resized_to f size now))) z.at_file) ∙ at_with_same n z.file (resized_to z.file size now) u.files z.at_file;
      mode = z.mode;
      uid = z.uid;
      gid = z.gid;
    }

    settled_from : (u : Tree) → IsAsBefore u → (g : Sattr) → (is_some g.size ≡ true → is_writer ids r ≡ true) → MayGive ids now index ⊥ r (given_of now g) → Leads ids now index ⊥ s.tree (after_settings u n g now)
    settled_from u z g writes may = by (sets_something g)
      where
        by : (b : Bool) → Leads ids now index ⊥ s.tree (if b then after_set (on_some g.size u (λ size. after_resize u n size now)) n (given_of now g) now else u)
        by true = let y = sized_from u z g.size writes in
            leads_on ids now index ⊥ s.tree (on_some g.size u (λ size. after_resize u n size now)) y.led n r at_r (at_place r at_r) (λ f. with_given f (given_of now g) now)
            (λ f at_f. let same : y.file ≡ f = same_some (sym y.at_file ∙ at_f) in
            given_allowed ids now index ⊥ r f (ap (λ (k : File). k.mode) (sym same) ∙ y.mode) (ap (λ (k : File). k.uid) (sym same) ∙ y.uid) (ap (λ (k : File). k.gid) (sym same) ∙ y.gid) (given_of now g) may)
        by false = z.led

    -- a mode without the two bits, of a file whose bytes change
    when_some : (b : Bool) (m mode : ℕ) → (if b then Some m else None) ≡ Some mode → (b ≡ true) × (m ≡ mode)
    when_some true m mode e = (refl, same_some e)
    when_some false m mode e = absurd (not_both refl e)

    cleared_may : (changes : Bool) → (changes ≡ true → is_writer ids r ≡ true) → (mode : ℕ) → cleared_mode s.ids.uid s.file changes ≡ Some mode → (is_writer ids r ≡ true) × (loses_set_ids r.mode (mode % 4096) ≡ true)
    cleared_may changes writes mode e =
        let c = when_some (changes && not (nat_eq s.ids.uid 0) && nat_le 1024 s.file.mode) (s.file.mode % 1024) mode e in
        let low : r.mode % 1024 ≡ mode = ap (λ (k : Fattr). k.mode % 1024) (shown r at_r) ∙ c.1 in
        (writes (and_parts changes (not (nat_eq s.ids.uid 0)) (and_parts (changes && not (nat_eq s.ids.uid 0)) (nat_le 1024 s.file.mode) c.0).0).0, ap (λ k. loses_set_ids r.mode (k % 4096)) (sym low) ∙ loses_both r.mode)

    -- which is all that is given
    cleared_gives : (changes : Bool) → (changes ≡ true → is_writer ids r ≡ true) → MayGive ids now index ⊥ r (given_of now (mode_alone (cleared_mode s.ids.uid s.file changes)))
    cleared_gives changes writes = record {
      mode = λ mode e. inr (cleared_may changes writes mode e);
      uid = λ uid e. absurd (not_both refl e);
      gid = λ gid e. absurd (not_both refl e);
      atime = λ moment e. absurd (not_both refl e);
      mtime = λ moment e. absurd (not_both refl e);
    }

    -- ---- WRITE

    pub write_policy : (a : Write) → first (write_rules s a) ≡ None → Polite now (after_writing s.tree n a.offset a.content (cleared_mode s.ids.uid s.file (has_bytes a.content)) now)
    write_policy a none = policy exports caller now s.tree (after_writing s.tree n a.offset a.content mode now) index s.options is.options (passed_at (write_rules s a) none 0 (test.read_only s) refl) ⊥ (λ m. absurd m)
        (settled_from (after_write_at s.tree n a.offset a.content now) (written a.content) (mode_alone mode) (λ e. absurd (true_and_false e refl)) (cleared_gives (has_bytes a.content) (λ e. writes)))
        (keeps_writing (MayGo ids s.tree) s.tree n a.offset a.content mode now)
      where
        mode : Option ℕ
        mode = cleared_mode s.ids.uid s.file (has_bytes a.content)

        writes : is_writer ids r ≡ true
        writes = sym (writer_is r at_r) ∙ not-false _ (passed_at (write_rules s a) none 2 (test.write_right s) refl)

        written : (bytes : List ℕ) → IsAsBefore (after_write_at s.tree n a.offset bytes now)
        written [] = as_it_is
        written (b ∷ bytes) = record {
          led = leads_on ids now index ⊥ s.tree s.tree (leads_itself ids now index ⊥ s.tree) n r at_r (at_place r at_r) (λ f. file_with_bytes f a.offset (b ∷ bytes) now) (λ f e. written_allowed ids now index ⊥ r f a.offset (b ∷ bytes) writes);
          file = file_with_bytes r a.offset (b ∷ bytes) now;
          at_file = ap (λ (t : Tree). at n t.files) (ap (λ o. on_some o s.tree (λ f. with_file s.tree n (file_with_bytes f a.offset (b ∷ bytes) now))) at_r) ∙ at_with_same n r (file_with_bytes r a.offset (b ∷ bytes) now) s.tree.files at_r;
          mode = refl;
          uid = refl;
          gid = refl;
        }

    -- ---- REMOVE and RMDIR

    module _ (law : Law s.tree) (rw : s.options.read_only ≡ false) where
      polite : (new : Tree) → EntriesDiffer s.tree new → Leads ids now index (EntriesDiffer s.tree new) s.tree new → Keeps (MayGo ids s.tree) s.tree new → Polite now new
      polite new differ led keeps = policy exports caller now s.tree new index s.options is.options rw (EntriesDiffer s.tree new) (λ m. m) led keeps

      pub enters : (test.search_right s).1 ≡ false → (test.directory_write s).1 ≡ false → (dir : File) → LivesAsDirectory s.tree s.file.fileid dir → Enters s.tree law ids now index s.file.fileid dir
      enters x w dir at_dir = record { at_dir = at_dir; volume = at_place dir at_dir.0; writer = writer dir at_dir.0 w; enterer = enterer dir at_dir.0 x w }

      unlink_policy : (name : List ℕ) → MayUnlink s.tree s.file.fileid name → (test.search_right s).1 ≡ false → (test.directory_write s).1 ≡ false → MayLeave (MayGo ids s.tree) s.tree s.file.fileid name → Polite now (after_unlink s.tree s.file.fileid name now)
      unlink_policy name may x w leave = let new = after_unlink s.tree s.file.fileid name now in let differ = unlink_differs s.tree law ids now index s.file.fileid name may in
          polite new differ (unlink_led s.tree law ids now index (EntriesDiffer s.tree new) differ s.file.fileid name may (enters x w may.dir may.at_dir)) (keeps_unlink (MayGo ids s.tree) s.tree law now s.file.fileid name may leave)

      make_policy : (name : List ℕ) (f : File) → MayEnter s.tree s.file.fileid name → (test.search_right s).1 ≡ false → (test.directory_write s).1 ≡ false → IsOwn s.ids f → f.volume ≡ volume_index s.tree s.file.fileid → Polite now (with_named_file s.tree s.file.fileid name f now)
      make_policy name f may x w own volume = let new = with_named_file s.tree s.file.fileid name f now in let differ = make_differs s.tree law ids now index s.file.fileid name may.dir f may.at_dir in
          polite new differ (make_led s.tree law ids now index (EntriesDiffer s.tree new) differ s.file.fileid name may.dir f (enters x w may.dir may.at_dir) (subst (λ i. IsOwn i f) is.ids own)
          (volume ∙ ap (λ o. on_some o 0 (λ (f : File). f.volume)) may.at_dir.0 ∙ at_place may.dir may.at_dir.0)) (keeps_make (MayGo ids s.tree) s.tree law now s.file.fileid name f)

    pub remove_policy : Law s.tree → (name : List ℕ) → first (remove_rules s name) ≡ None → Polite now (after_unlink s.tree s.file.fileid name now)
    remove_policy law name none =
        let f = some_from_is_none (found s name) (passed_at (remove_rules s name) none 6 (test.no_entry s name) refl) in
        let seen = may_remove s law is.seen name none f.0 f.1 in
        unlink_policy law (passed_at (remove_rules s name) none 0 (test.read_only s) refl) name seen.may
        (passed_at (remove_rules s name) none 5 (test.search_right s) refl) (passed_at (remove_rules s name) none 7 (test.directory_write s) refl)
        (may_leave law seen.may.dir seen.may.at_dir.0 f.0 (found_seen s name f.0 f.1).1 (remove_lets_go s law is.seen name none f.0 f.1) name seen.may.entry seen.may.found (sym seen.number))

    pub rmdir_policy : Law s.tree → (name : List ℕ) → first (rmdir_rules s name) ≡ None → Polite now (after_unlink s.tree s.file.fileid name now)
    rmdir_policy law name none =
        let f = some_from_is_none (found s name) (passed_at (rmdir_rules s name) none 7 (test.no_entry s name) refl) in
        let seen = may_remove_directory s law is.seen name none f.0 f.1 in
        unlink_policy law (passed_at (rmdir_rules s name) none 0 (test.read_only s) refl) name seen.may
        (passed_at (rmdir_rules s name) none 6 (test.search_right s) refl) (passed_at (rmdir_rules s name) none 8 (test.directory_write s) refl)
        (may_leave law seen.may.dir seen.may.at_dir.0 f.0 (found_seen s name f.0 f.1).1 (rmdir_lets_go s law is.seen name none f.0 f.1) name seen.may.entry seen.may.found (sym seen.number))

    -- ---- new files

    own_gid : (i : Ids) (given : Option ℕ) → i.uid ≢ 0 → in_group i (gid_of i given) ≡ true
    own_gid i None o = its_own i
    own_gid i (Some gid) o = by (nat_eq i.uid 0) (nat_eq gid i.gid) (list_any (nat_eq gid) i.gids) (λ e. o (eqb-true i.uid 0 e)) refl refl
      where
        by : (root own among : Bool) → (root ≡ true → ⊥) → nat_eq gid i.gid ≡ own → list_any (nat_eq gid) i.gids ≡ among → in_group i (if root || own || among then gid else i.gid) ≡ true
        by true own among apart e g = absurd (apart refl)
        by false true among apart e g = ap (λ b. b || list_any (nat_eq gid) i.gids) e
        by false false true apart e g = or_right (nat_eq gid i.gid) (list_any (nat_eq gid) i.gids) g
        by false false false apart e g = its_own i

    own_uid : (i : Ids) (given : Option ℕ) → i.uid ≢ 0 → uid_of i given ≡ i.uid
    own_uid i None o = refl
    own_uid i (Some uid) o = if_false uid i.uid (by_test (nat_eq i.uid 0) (λ y. absurd (o (eqb-true i.uid 0 y))) (λ n. n))

    own_file : (volume mode tag : ℕ) (kind : Kind) (given : Sattr) (verifier : Option (List ℕ)) → IsOwn s.ids (new_file volume kind (new_file_of mode s.ids now given) verifier tag now)
    own_file volume mode tag kind given verifier = record { uid = own_uid s.ids given.uid; group = own_gid s.ids given.gid }

    pub mkdir_policy : Law s.tree → (a : Mkdir) (tag : ℕ) → first (mkdir_rules s a.place.name) ≡ None → Polite now (after_mkdir s.tree s.file.fileid a.place.name (new_file_of directory_mode s.ids now a.attributes) tag now)
    mkdir_policy law a tag none = let passed = passed_at (mkdir_rules s a.place.name) none in
        make_policy law (passed 0 (test.read_only s) refl) a.place.name _ (may_make_directory s law is.seen a.place.name none).make.enter (passed 4 (test.search_right s) refl) (passed 6 (test.directory_write s) refl)
        (own_file (volume_index s.tree s.file.fileid) directory_mode tag (Directory s.file.fileid 3 []) a.attributes None) refl

    pub symlink_policy : Law s.tree → (a : Symlink) (tag : ℕ) → first (symlink_rules s a.place.name a.path) ≡ None → Polite now (after_make_link s.tree s.file.fileid a.place.name a.path (record (new_file_of link_mode s.ids now a.attributes) { mode = link_mode }) tag now)
    symlink_policy law a tag none = let passed = passed_at (symlink_rules s a.place.name a.path) none in
        make_policy law (passed 0 (test.read_only s) refl) a.place.name _ (may_make_link s law is.seen a.place.name a.path none).make.enter (passed 4 (test.search_right s) refl) (passed 7 (test.directory_write s) refl)
        (record { uid = own_uid s.ids a.attributes.uid; group = own_gid s.ids a.attributes.gid }) refl

    -- ---- SETATTR

    module _ (a : Setattr) (none : first (setattr_rules s a) ≡ None) where
      abbrev g : Sattr
      g = a.attributes

      -- with the mode that a size brings
      abbrev h : Sattr
      h = with_cleared_mode s.ids.uid s.file g

      owner_where : (b : Bool) → b ≡ true → (b && not (owns s.ids s.file)) ≡ false → is_owner ids r ≡ true
      owner_where b y e = sym (owns_is r at_r) ∙ not-false _ (sym (ap (λ k. k && not (owns s.ids s.file)) y) ∙ e)

      size_writes : is_some g.size ≡ true → is_writer ids r ≡ true
      size_writes e = sym (writer_is r at_r) ∙ not-false _ (sym (ap (λ b. b && not (owns_or_may s right.Write)) e) ∙ passed_at (setattr_rules s a) none 6 (test.only_where (is_some g.size) (test.write_right s)) refl)

      mode_may : (mode : ℕ) → h.mode ≡ Some mode → (is_owner ids r ≡ true) ⊎ ((is_writer ids r ≡ true) × (loses_set_ids r.mode (mode % 4096) ≡ true))
      mode_may mode e = by g.mode refl e
        where
          by : (o : Option ℕ) → g.mode ≡ o → on_some o (cleared_mode s.ids.uid s.file (is_some g.size)) (λ m. Some m) ≡ Some mode → (is_owner ids r ≡ true) ⊎ ((is_writer ids r ≡ true) × (loses_set_ids r.mode (mode % 4096) ≡ true))
          by None is e = inr (cleared_may (is_some g.size) size_writes mode e)
          by (Some m) is e = inl (owner_where (is_some g.mode) (ap is_some is) (passed_at (setattr_rules s a) none 2 (test.owner_mode s g) refl))

      uid_may : (uid : ℕ) → g.uid ≡ Some uid → (nat_eq ids.uid 0 ≡ true) ⊎ (uid ≡ r.uid)
      uid_may uid e = by_test (nat_eq s.ids.uid 0) (λ y. inl (ap (λ (k : Ids). nat_eq k.uid 0) (sym is.ids) ∙ y))
          (λ z. inr (eqb-true uid r.uid ((λ i. nat_eq uid (shown r at_r i).uid) ∙ (and_parts (nat_eq s.ids.uid s.file.uid) (nat_eq uid s.file.uid) (sym (ap (λ b. b || nat_eq s.ids.uid s.file.uid && nat_eq uid s.file.uid) z) ∙ gives)).1)))
        where
          gives : gives_uid s.ids s.file uid ≡ true
          gives = not-false _ (sym (ap (λ o. on_some o false (λ uid. not (gives_uid s.ids s.file uid))) e) ∙ passed_at (setattr_rules s a) none 3 (test.owner_uid s g) refl)

      -- as the policy wants it of a group that is given
      gid_from : (root owner present own among : Bool) (P : Type 0) → (root || owner && (present || own || among)) ≡ true → (present ≡ true → P) → ((root || owner) ≡ true → (root || (own || among)) ≡ true → P) → P
      gid_from true owner present own among P e p q = q refl refl
      gid_from false true true own among P e p q = p refl
      gid_from false true false own among P e p q = q refl e
      gid_from false false present own among P e p q = absurd (true_and_false e refl)

      gid_may : (gid : ℕ) → g.gid ≡ Some gid → (gid ≡ r.gid) ⊎ ((is_owner ids r ≡ true) × ((nat_eq ids.uid 0 || in_group ids gid) ≡ true))
      gid_may gid e = gid_from (nat_eq s.ids.uid 0) (nat_eq s.ids.uid s.file.uid) (nat_eq gid s.file.gid) (nat_eq gid s.ids.gid) (list_any (nat_eq gid) s.ids.gids) _ gives
          (λ y. inl (eqb-true gid r.gid ((λ i. nat_eq gid (shown r at_r i).gid) ∙ y)))
          (λ y z. inr (sym (owns_is r at_r) ∙ y, (λ i. nat_eq (sym is.ids i).uid 0 || in_group (sym is.ids i) gid) ∙ z))
        where
          gives : gives_gid s.ids s.file gid ≡ true
          gives = not-false _ (sym (ap (λ o. on_some o false (λ gid. not (gives_gid s.ids s.file gid))) e) ∙ passed_at (setattr_rules s a) none 4 (test.owner_gid s g) refl)

      owner_writes : is_owner ids r ≡ true → is_writer ids r ≡ true
      owner_writes e = ap (λ b. b || may ids (rights_of r) right.Write) e

      -- a time, where the tests say so
      time_may : (set : TimeSetting) → (is_client_time set ≡ true → is_owner ids r ≡ true) → (is_server_time set ≡ true → is_writer ids r ≡ true) → (moment : Moment) → setting now set ≡ Some moment → (is_writer ids r ≡ true) × ((moment ≡ now) ⊎ (is_owner ids r ≡ true))
      time_may Leave client server moment e = absurd (not_both refl e)
      time_may ServerTime client server moment e = (server refl, inl (sym (same_some e)))
      time_may (ClientTime m) client server moment e = (owner_writes (client refl), inr (client refl))

      client : (b : Bool) → b ≡ true → (b ≡ true → (is_client_time g.atime || is_client_time g.mtime) ≡ true) → is_owner ids r ≡ true
      client b y h = owner_where (is_client_time g.atime || is_client_time g.mtime) (h y) (passed_at (setattr_rules s a) none 7 (test.owner_time s g) refl)

      server : (is_server_time g.atime || is_server_time g.mtime) ≡ true → is_writer ids r ≡ true
      server y = sym (writer_is r at_r) ∙ not-false _ (sym (ap (λ k. k && not (owns_or_may s right.Write)) y) ∙ passed_at (setattr_rules s a) none 8 (test.time_right s g) refl)

      may_give : MayGive ids now index ⊥ r (given_of now h)
      may_give = record {
        mode = mode_may;
        uid = uid_may;
        gid = gid_may;
        atime = time_may g.atime (λ y. client (is_client_time g.atime) y (λ y. ap (λ b. b || is_client_time g.mtime) y)) (λ y. server (ap (λ b. b || is_server_time g.mtime) y));
        mtime = time_may g.mtime (λ y. client (is_client_time g.mtime) y (λ y. or_right (is_client_time g.atime) _ y)) (λ y. server (or_right (is_server_time g.atime) _ y));
      }

      pub setattr_policy : Polite now (after_settings s.tree n h now)
      setattr_policy = policy exports caller now s.tree (after_settings s.tree n h now) index s.options is.options (passed_at (setattr_rules s a) none 0 (test.read_only s) refl) ⊥ (λ m. absurd m)
          (settled_from s.tree as_it_is h size_writes may_give) (keeps_settled (MayGo ids s.tree) s.tree n h now)

    -- ---- CREATE

    pub taken_policy : (how : CreateHow) → s.options.read_only ≡ false → ((attributes : Sattr) → how ≡ Unchecked attributes → (is_some attributes.size && not (owns_or_may s right.Write)) ≡ false) → Polite now (after_taking s.tree s.ids.uid s.file how now)
    taken_policy how rw may = policy exports caller now s.tree (after_taking s.tree s.ids.uid s.file how now) index s.options is.options rw ⊥ (λ m. absurd m)
        (settled_from s.tree as_it_is given (writes how may) (cleared_gives (is_some (size_taken how)) (writes how may))) (keeps_settled (MayGo ids s.tree) s.tree n given now)
      where
        given : Sattr
        given = with_cleared_mode s.ids.uid s.file (size_alone (size_taken how))

        writes : (how : CreateHow) → ((attributes : Sattr) → how ≡ Unchecked attributes → (is_some attributes.size && not (owns_or_may s right.Write)) ≡ false) → is_some (size_taken how) ≡ true → is_writer ids r ≡ true
        writes (Unchecked attributes) may e = sym (writer_is r at_r) ∙ not-false _ (sym (ap (λ b. b && not (owns_or_may s right.Write)) e) ∙ may attributes refl)
        writes (Guarded attributes) may e = absurd (true_and_false e refl)
        writes (Exclusive verifier) may e = absurd (true_and_false e refl)

-- CREATE of a file that is not there, or is
module _ (t : Tree) (exports : List (List Export)) (caller : Caller) (s : Subject) (is : IsSubject t exports caller s) (now : Moment) (law : Law s.tree) (a : Create) (tag : ℕ) where
  there : (f : Fattr) → found s a.place.name ≡ Some f → IsSubject t exports caller (record s { file = f })
  there f e = record {
    tree = is.tree;
    seen = (found_seen s a.place.name f e).1;
    options = ap (options_at exports caller) same ∙ is.options;
    ids = is.ids;
  }
    where
      same : f.fsid - 1 ≡ s.file.fsid - 1
      same = let live = found_lives s.tree law s.file.fileid f.fileid a.place.name (found_seen s a.place.name f e).0 in
          seen_place s.tree f (found_seen s a.place.name f e).1 live.file live.at_file ∙ live.volume ∙ sym (seen_place s.tree s.file is.seen live.dir live.at_dir.0)

  pub create_policy : first (create_rules s a) ≡ None → Policy exports caller now s.tree (on_some (found s a.place.name) (after_creating s a now tag) (λ f. after_taking s.tree s.ids.uid f a.how now))
  create_policy none = of (found s a.place.name) refl
    where
      rw : s.options.read_only ≡ false
      rw = passed_at (create_rules s a) none 0 (test.read_only s) refl

      of : (o : Option Fattr) → found s a.place.name ≡ o → Policy exports caller now s.tree (on_some o (after_creating s a now tag) (λ f. after_taking s.tree s.ids.uid f a.how now))
      of None e = let passed = passed_at (create_rules_with s a.place.name a.how None) (subst (λ o. first (create_rules_with s a.place.name a.how o) ≡ None) e none) in
          make_policy t exports caller s is now law rw a.place.name _ (may_make_file s law is.seen a none e).enter (passed 4 (test.search_right s) refl) (passed 6 (test.directory_write s) refl)
          (own_file t exports caller s is now (volume_index s.tree s.file.fileid) file_mode tag (Regular (zeros (on_some (size_in a.how) 0 (λ size. size)))) (attributes_in a.how) (verifier_in a.how)) refl
      of (Some f) e = taken_policy t exports caller (record s { file = f }) (there f e) now a.how rw (λ attributes how.
          passed_at (create_rules_with s a.place.name (Unchecked attributes) (Some f))
          (subst (λ h. first (create_rules_with s a.place.name h (Some f)) ≡ None) how (subst (λ o. first (create_rules_with s a.place.name a.how o) ≡ None) e none)) 6 _ refl)

-- ---- LINK and RENAME

module _ (t : Tree) (exports : List (List Export)) (caller : Caller) (one two : Subject) (is : IsSubject t exports caller one) (is_too : IsSubject t exports caller two) (same : one.file.fsid ≡ two.file.fsid) (now : Moment) (law : Law one.tree) where
  -- the same over one tree
  over_two : two ≡ record two { tree = one.tree }
  over_two = λ i. record two { tree = (is_too.tree ∙ sym is.tree) i }

  abbrev two_here : Subject
  two_here = record two { tree = one.tree }

  is_here : IsSubject t exports caller two_here
  is_here = subst (IsSubject t exports caller) over_two is_too

  same_place : one.file.fsid - 1 ≡ two.file.fsid - 1
  same_place = ap (λ n. n - 1) same

  same_options : one.options ≡ two.options
  same_options = same_some (sym is.options ∙ ap (options_at exports caller) same_place ∙ is_too.options)

  enters_two : (test.search_right two_here).1 ≡ false → (test.directory_write two_here).1 ≡ false → two.options.read_only ≡ false → (dir : File) → LivesAsDirectory one.tree two.file.fileid dir
      → Enters one.tree law (squash one.options caller.cred) now (one.file.fsid - 1) two.file.fileid dir
  enters_two x w rw dir at_dir = subst (λ (o : Options). Enters one.tree law (squash o caller.cred) now (one.file.fsid - 1) two.file.fileid dir) (sym same_options)
      (subst (λ index. Enters one.tree law (squash two.options caller.cred) now index two.file.fileid dir) (sym same_place) (enters t exports caller two_here is_here now law rw x w dir at_dir))

  pub link_policy : (name : List ℕ) → first (link_rules one two name) ≡ None → Policy exports caller now one.tree (after_link one.tree one.file.fileid two.file.fileid name now)
  link_policy name none =
      let kept : first (link_rules one two_here name) ≡ None = subst (λ u. first (link_rules one u name) ≡ None) over_two none in
      let passed = passed_at (link_rules one two_here name) kept in
      let rw = passed 0 (test.read_only one) refl in
      let may = may_link one.tree law one two_here refl refl is.seen is_here.seen same name kept in
      let new = after_link one.tree one.file.fileid two.file.fileid name now in
      policy exports caller now one.tree new (one.file.fsid - 1) one.options is.options rw (EntriesDiffer one.tree new)
      (λ m. m)
      (link_led one.tree law (squash one.options caller.cred) now (one.file.fsid - 1) (EntriesDiffer one.tree new) one.file.fileid two.file.fileid name may.file may.enter.dir may.at_file (at_place t exports caller one is may.file may.at_file)
      (enters_two (passed 5 (test.search_right two_here) refl) (passed 7 (test.directory_write two_here) refl) (ap (λ (o : Options). o.read_only) (sym same_options) ∙ rw) may.enter.dir may.enter.at_dir))
      (keeps_linked (MayGo (squash one.options caller.cred) one.tree) one.tree one.file.fileid two.file.fileid name now)

  -- ---- what RENAME takes away

  module _ (a : Rename) (none : first (rename_rules one two_here a) ≡ None) (may : MayRename one.tree one.file.fileid a.from.name two.file.fileid a.to.name) where
    passed : (index : ℕ) (rule : Test) → slice_get (rename_rules one two_here a) index ≡ Some rule → rule.1 ≡ false
    passed index rule e = passed_at (rename_rules one two_here a) none index rule e

    moved : (f : Fattr) × (found one a.from.name ≡ Some f)
    moved = some_from_is_none (found one a.from.name) (passed 11 (test.no_entry one a.from.name) refl)

    -- the entry under the old name
    entry_from : (e : Entry) × (entry_named a.from.name (entries_in may.source.kind) ≡ Some e) × (e.number ≡ moved.0.fileid)
    entry_from = let dots = no_dots a.from.name (passed 3 (test.dot_name a.from.name) refl) in
        present_name one.tree one.file.fileid may.source may.at_source a.from.name moved.0.fileid (found_seen one a.from.name moved.0 moved.1).0 dots.0 dots.1

    moved_number : may.entry.number ≡ moved.0.fileid
    moved_number = ap (λ (e : Entry). e.number) (same_some (sym may.found ∙ entry_from.1)) ∙ entry_from.2

    -- the entry under the new one
    entry_to : (f : Fattr) → found two_here a.to.name ≡ Some f → (e : Entry) × (entry_named a.to.name (entries_in may.target.kind) ≡ Some e) × (e.number ≡ f.fileid)
    entry_to f is = let dots = no_dots a.to.name (passed 4 (test.dot_name a.to.name) refl) in
        present_name one.tree two.file.fileid may.target may.at_target a.to.name f.fileid (found_seen two_here a.to.name f is).0 dots.0 dots.1

    module _ (apart : IsApart one.tree one.file.fileid a.from.name two.file.fileid a.to.name may) where
      is_other : (o : Option Fattr) → found two_here a.to.name ≡ o → is_moved moved.0 o ≡ false
      is_other None is = refl
      is_other (Some f) is = let e = entry_to f is in apart_number moved.0.fileid f.fileid (λ same. apart e.0 e.1 (e.2 ∙ sym same ∙ sym moved_number))

      go : (lets_go one.ids one.file moved.0 && on_some (found two_here a.to.name) true (lets_go two.ids two.file)) ≡ true
      go = rename_lets_go one two_here a moved.0 moved.1 (is_other (found two_here a.to.name) refl) none

      leaves : MayLeave (MayGo (squash one.options caller.cred) one.tree) one.tree one.file.fileid a.from.name
      leaves = may_leave t exports caller one is law may.source may.at_source.0 moved.0 (found_seen one a.from.name moved.0 moved.1).1 (and_parts _ _ go).0 a.from.name entry_from.0 entry_from.1 entry_from.2

      -- of what the new name names
      replaced : (old : Entry) → entry_named a.to.name (entries_in may.target.kind) ≡ Some old → (o : Option Fattr) → found two_here a.to.name ≡ o → on_some o true (lets_go two.ids two.file) ≡ true → MayLeave (MayGo (squash two.options caller.cred) one.tree) one.tree two.file.fileid a.to.name
      replaced old there None is go = absurd (not_both (absent_name one.tree two.file.fileid may.target may.at_target a.to.name (none_under two_here a.to.name law is)).2 there)
      replaced old there (Some f) is go = let e = entry_to f is in
          may_leave t exports caller two_here is_here law may.target may.at_target.0 f (found_seen two_here a.to.name f is).1 go a.to.name e.0 e.1 e.2

      leaves_too : (old : Entry) → entry_named a.to.name (entries_in may.target.kind) ≡ Some old → MayLeave (MayGo (squash one.options caller.cred) one.tree) one.tree two.file.fileid a.to.name
      leaves_too old there = subst (λ (o : Options). MayLeave (MayGo (squash o caller.cred) one.tree) one.tree two.file.fileid a.to.name) (sym same_options) (replaced old there (found two_here a.to.name) refl (and_parts _ _ go).1)

  pub rename_policy : (a : Rename) → first (rename_rules one two a) ≡ None → Policy exports caller now one.tree (after_rename one.tree one.file.fileid a.from.name two.file.fileid a.to.name now)
  rename_policy a none =
      let kept : first (rename_rules one two_here a) ≡ None = subst (λ u. first (rename_rules one u a) ≡ None) over_two none in
      let passed = passed_at (rename_rules one two_here a) kept in
      let rw = passed 0 (test.read_only one) refl in
      let may = may_rename one.tree law one two_here refl refl is.seen is_here.seen same a kept in
      let new = after_rename one.tree one.file.fileid a.from.name two.file.fileid a.to.name now in
      elim (rename_led one.tree law (squash one.options caller.cred) now (one.file.fsid - 1) one.file.fileid a.from.name two.file.fileid a.to.name may
      (enters t exports caller one is now law rw (passed 9 (test.search_right one) refl) (passed 12 (test.directory_write one) refl) may.source may.at_source)
      (enters_two (passed 10 (test.search_right two_here) refl) (passed 13 (test.directory_write two_here) refl) (ap (λ (o : Options). o.read_only) (sym same_options) ∙ rw) may.target may.at_target))
      as (λ x. Policy exports caller now one.tree new) [
        | inl e ↦ subst (Policy exports caller now one.tree) (sym e) (policy_itself exports caller now one.tree)
        | inr both ↦ policy exports caller now one.tree new (one.file.fsid - 1) one.options is.options rw (EntriesDiffer one.tree new) (λ m. m) both.1
            (keeps_rename (MayGo (squash one.options caller.cred) one.tree) one.tree law now one.file.fileid a.from.name two.file.fileid a.to.name may (leaves a kept may) (leaves_too a kept may))
      ]

-- ---- a call

pub granted_policy : (c : Scene) → Law c.tree → (doing : Doing) → doing_of c.args ≡ Some doing → (one two : Subject) (tag : ℕ) → IsGranted c one two → Policy c.exports c.caller c.now c.tree (doing.effect one two c.now tag)
granted_policy c law doing e one two tag granted =
    subst (λ t. Policy c.exports c.caller c.now t (doing.effect one two c.now tag)) are.first.tree (by c.args e (rules_kept c one two granted))
  where
    are : AreSubjects c one two
    are = are_subjects c one two granted

    is : IsSubject c.tree c.exports c.caller one
    is = are.first

    lawful : Law one.tree
    lawful = subst Law (sym are.first.tree) law

    reported_as : (d : Doing) → Some d ≡ Some doing → Policy c.exports c.caller c.now one.tree (d.effect one two c.now tag) → Policy c.exports c.caller c.now one.tree (doing.effect one two c.now tag)
    reported_as d e h = subst (λ (d : Doing). Policy c.exports c.caller c.now one.tree (d.effect one two c.now tag)) (same_some e) h

    leaves : Policy c.exports c.caller c.now one.tree one.tree
    leaves = policy_itself c.exports c.caller c.now one.tree

    by : (args : NfsArgs) → doing_of args ≡ Some doing → first (rules_of one two args) ≡ None → Policy c.exports c.caller c.now one.tree (doing.effect one two c.now tag)
    by nfs.Null e none = absurd (not_both refl e)
    by (nfs.Getattr file) e none = reported_as getattr e leaves
    by (nfs.Setattr a) e none = reported_as (setattr a) e (setattr_policy c.tree c.exports c.caller one is c.now a none)
    by (nfs.Lookup a) e none = reported_as (lookup a) e leaves
    by (nfs.Access a) e none = reported_as (access a) e leaves
    by (nfs.Readlink file) e none = reported_as (readlink file) e leaves
    by (nfs.Read a) e none = reported_as (read a) e leaves
    by (nfs.Write a) e none = reported_as (write a) e (write_policy c.tree c.exports c.caller one is c.now a none)
    by (nfs.Create a) e none = reported_as (create a) e (create_policy c.tree c.exports c.caller one is c.now lawful a tag none)
    by (nfs.Mkdir a) e none = reported_as (mkdir a) e (mkdir_policy c.tree c.exports c.caller one is c.now lawful a tag none)
    by (nfs.Symlink a) e none = reported_as (symlink a) e (symlink_policy c.tree c.exports c.caller one is c.now lawful a tag none)
    by (nfs.Mknod a) e none = reported_as (mknod a) e leaves
    by (nfs.Remove a) e none = reported_as (remove a) e (remove_policy c.tree c.exports c.caller one is c.now lawful a.name none)
    by (nfs.Rmdir a) e none = reported_as (rmdir a) e (rmdir_policy c.tree c.exports c.caller one is c.now lawful a.name none)
    by (nfs.Rename a) e none = reported_as (rename a) e (rename_policy c.tree c.exports c.caller one two is are.second are.volume c.now lawful a none)
    by (nfs.Link a) e none = reported_as (link a) e (link_policy c.tree c.exports c.caller one two is are.second are.volume c.now lawful a.place.name none)
    by (nfs.Readdir a) e none = reported_as (readdir a) e leaves
    by (nfs.Readdirplus a) e none = reported_as (readdirplus a) e leaves
    by (nfs.Fsstat file) e none = reported_as (fsstat file) e leaves
    by (nfs.Fsinfo file) e none = reported_as (fsinfo file) e leaves
    by (nfs.Pathconf file) e none = reported_as (pathconf file) e leaves
    by (nfs.Commit a) e none = reported_as (commit a) e leaves

pub changes_are_confined : ChangesAreConfined
changes_are_confined c law done new before after h = of (doing_of c.args) refl done h
  where
    same : new ≡ c.tree → Policy c.exports c.caller c.now c.tree new
    same e = subst (Policy c.exports c.caller c.now c.tree) (sym e) (policy_itself c.exports c.caller c.now c.tree)

    performed : (doing : Doing) → doing_of c.args ≡ Some doing → (done : Done) → Performs c doing done new before after → Policy c.exports c.caller c.now c.tree new
    performed doing is Granted h = subst (Policy c.exports c.caller c.now c.tree) (sym h.new_is) (granted_policy c law doing is h.one h.two h.tag h.granted)
    performed doing is (Denied rule uid) h = same h.new_is
    performed doing is (Memory refused) h = same h.new_is

    of : (o : Option Doing) → doing_of c.args ≡ o → (done : Option Done) → PerformsAs c o done new before after → Policy c.exports c.caller c.now c.tree new
    of None is None h = same h.0
    of None is (Some done) h = absurd h
    of (Some doing) is None h = absurd h
    of (Some doing) is (Some done) h = performed doing is done h
