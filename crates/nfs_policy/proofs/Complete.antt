-- What is there before a granted call, and after it.
use Rattle.std.proofs.Common.{inl, inr, ◌⊎◌, arith, ◌≡◌, ◌≢◌, ℕ, ◌-◌, Bool, true, false, not, List, [], ◌∷◌, Option, Some, None, is_some, option_map, slice_get, refl, sym, ap, subst, ◌∙◌}
use Rattle.std.specs.Prelude.{Contains, IsSome, nat_eq, if◌then◌else◌}
use Rattle.std.proofs.lemmas.Bool.{true≢false, eqb-false}
use Rattle.nfs_args.specs.declared.args.NfsArgs.{NfsArgs}
use Rattle.nfs_args.specs.declared.args.NfsArgs.TheVariants as nfs
use Rattle.nfs_args.specs.declared.create.Create.{Create}
use Rattle.nfs_args.specs.declared.create.CreateHow.{CreateHow}
use Rattle.nfs_args.specs.declared.rename.Rename.{Rename}
use Rattle.nfs_attrs.specs.declared.fattr.Fattr.{Fattr}
use Rattle.nfs_attrs.specs.declared.moment.Moment.{Moment}
use Rattle.nfs_attrs.specs.declared.sattr.Sattr.{Sattr}
use Rattle.nfs_handles.specs.Handles.{handle_at, handle_text}
use Rattle.nfs_handles.specs.NumberedFiles.{TaggedFile, at as file_at}
use Rattle.nfs_inodes.proofs.Follows.{lives_alike}
use Rattle.nfs_inodes.proofs.Lists.{by_number, head_or_tail, same_some, not_both}
use Rattle.nfs_inodes.proofs.Maps.{at_next, at_with_same, at_with_other, at_without_other, at_push_same, at_push_other}
use Rattle.nfs_inodes.proofs.law.Unlinks.{entry_is, empty_elsewhere, other_file}
use Rattle.nfs_inodes.proofs.Views.{mapped}
use Rattle.nfs_inodes.specs.Changes.{with_new_file, with_file, without_file, entered, with_entry, left, without_entry, touched, released, moved_to, moved, with_named_file, after_write_at, file_with_bytes, resized_to, after_resize, with_given, after_set, after_unlink, carried, after_rename}
use Rattle.nfs_inodes.specs.Conditions.{MayUnlink, MayRename, MayReplace}
use Rattle.nfs_inodes.specs.Law.{Law, Lives}
use Rattle.nfs_inodes.specs.Reading.{attributes_of, attributes_at, dot, dot_dot, entry_at, entry_named, listing, numbered_files, path_of, type_of}
use Rattle.nfs_inodes.specs.Tree.{Tree, File, Kind, Regular, Directory, Link, Entry, at, on_some, entries_in, parent_in, is_directory, names_of, nlink}
use Rattle.nfs_procs.specs.Changers.{setattr, write, create, mkdir, symlink, remove, rmdir, rename, link, given_of, sets_something, after_settings, after_taking, after_creating, with_cleared_mode, cleared_mode, has_bytes, size_alone, size_taken, mode_alone}
use Rattle.nfs_procs.specs.Doing.{Doing}
use Rattle.nfs_procs.specs.Performing.{IsGranted}
use Rattle.nfs_procs.specs.Procedures.{doing_of}
use Rattle.nfs_procs.specs.Readers.{getattr, lookup, access, readlink, read, readdir, readdirplus, mknod, fsstat, fsinfo, pathconf, commit}
use Rattle.nfs_procs.specs.Scenes.{Scene}
use Rattle.nfs_rules.proofs.Firsts.{passed_at}
use Rattle.nfs_rules.proofs.Removals.{may_remove, may_remove_directory, some_from_is_none}
use Rattle.nfs_rules.proofs.Renames.{may_rename}
use Rattle.nfs_rules.proofs.SeenFiles.{seen_lives, seen_place, found_seen}
use Rattle.nfs_rules.specs.Subjects.{Subject}
use Rattle.nfs_rules.specs.Table.{rules_of, lookup_rules, remove_rules, rmdir_rules}
use Rattle.nfs_rules.specs.Tests as test
use Rattle.nfs_rules.specs.Tests.{first, found, is_link_type}
use Rattle.nfs_policy.specs.Complete.{HasPath, HasFound, HasVolume, HasListed, HasChanged, HasBoth, IsShown, HasMade}
use Rattle.nfs_policy.proofs.Granted.{AreSubjects, are_subjects, rules_kept}

map_some : {A B : Type 0} (h : A → B) (o : Option A) → is_some o ≡ true → is_some (option_map h o) ≡ true
map_some h None there = there
map_some h (Some x) there = refl

-- a file lives under the number
abbrev IsThere : Tree → ℕ → Type 0
IsThere t n = is_some (at n t.files) ≡ true

shown_attributes : (t : Tree) (n : ℕ) → IsThere t n → IsSome (attributes_at t n)
shown_attributes t n there = map_some (λ (f : File). attributes_of n f (nlink t.files n f)) (at n t.files) there

shown_handle : (t : Tree) (n : ℕ) → IsThere t n → IsSome (handle_at (numbered_files t) n)
shown_handle t n there = map_some (λ (file : TaggedFile File). handle_text t.key file.tag n) (file_at (numbered_files t) n) (lives_alike t n ∙ there)

is_shown : (t : Tree) (n : ℕ) → IsThere t n → IsShown t n
is_shown t n there = (shown_attributes t n there, shown_handle t n there)

seen_there : (t : Tree) (f : Fattr) → attributes_at t f.fileid ≡ Some f → IsThere t f.fileid
seen_there t f seen = ap is_some (seen_lives t f seen).1

-- ---- what stays through a change

module _ (m : ℕ) where
  stays_changed : (t : Tree) (n : ℕ) (h : File → File) → IsThere t m → IsThere (on_some (at n t.files) t (λ f. with_file t n (h f))) m
  stays_changed t n h there = by (at n t.files) refl
    where
      by : (o : Option File) → at n t.files ≡ o → IsThere (on_some o t (λ f. with_file t n (h f))) m
      by None e = there
      by (Some f) e = by_number m n
          (λ s. ap is_some (ap (λ k. at k (with_file t n (h f)).files) s ∙ at_with_same n f (h f) t.files e))
          (λ o. ap is_some (at_with_other n m (h f) t.files o) ∙ there)

  stays_without : (t : Tree) (n : ℕ) → m ≢ n → IsThere t m → IsThere (without_file t n) m
  stays_without t n o there = ap is_some (at_without_other n m t.files o) ∙ there

  stays_new : (t : Tree) (f : File) → at t.next t.files ≡ None → IsThere t m → IsThere (with_new_file t f) m
  stays_new t f none there = by_number m t.next
      (λ s. ap is_some (ap (λ k. at k (with_new_file t f).files) s ∙ at_push_same t.next f t.files none))
      (λ o. ap is_some (at_push_other t.next m f t.files o) ∙ there)

  stays_entered : (t : Tree) (d n : ℕ) (name : List ℕ) (now : Moment) → IsThere t m → IsThere (with_entry t d name n now) m
  stays_entered t d n name now = stays_changed t d (λ f. entered f name n now)

  stays_left : (t : Tree) (d : ℕ) (name : List ℕ) (now : Moment) → IsThere t m → IsThere (without_entry t d name now) m
  stays_left t d name now = stays_changed t d (λ f. left f name now)

  stays_touched : (t : Tree) (n : ℕ) (now : Moment) → IsThere t m → IsThere (touched t n now) m
  stays_touched t n now = stays_changed t n (λ f. record f { ctime = now })

  stays_released : (t : Tree) (n : ℕ) (now : Moment) → m ≢ n → IsThere t m → IsThere (released t n now) m
  stays_released t n now o there = by (nat_eq (names_of n t.files) 0)
    where
      by : (b : Bool) → IsThere (if b then without_file t n else touched t n now) m
      by true = stays_without t n o there
      by false = stays_touched t n now there

  stays_unlinked : (t : Tree) (d : ℕ) (name : List ℕ) (now : Moment) → ((e : Entry) → entry_at t d name ≡ Some e → m ≢ e.number) → IsThere t m → IsThere (after_unlink t d name now) m
  stays_unlinked t d name now apart there = by (entry_at t d name) refl
    where
      by : (o : Option Entry) → entry_at t d name ≡ o → IsThere (on_some o t (λ e. released (without_entry t d name now) e.number now)) m
      by None e = there
      by (Some e) is = stays_released (without_entry t d name now) e.number now (apart e is) (stays_left t d name now there)

  stays_carried : (t : Tree) (from n to : ℕ) (name new_name : List ℕ) (now : Moment) → IsThere t m → IsThere (carried t from name n to new_name now) m
  stays_carried t from n to name new_name now there =
      let u = without_entry t from name now in
      stays_entered (moved u n to now) to n new_name now (stays_changed u n (λ f. moved_to f to now) (stays_left t from name now there))

  stays_renamed : (t : Tree) (from to : ℕ) (name new_name : List ℕ) (now : Moment)
      → ((e old : Entry) → entry_at t from name ≡ Some e → entry_at t to new_name ≡ Some old → e.number ≢ old.number → m ≢ old.number) → IsThere t m → IsThere (after_rename t from name to new_name now) m
  stays_renamed t from to name new_name now apart there = by (entry_at t from name) refl
    where
      over : (e old : Entry) → entry_at t from name ≡ Some e → entry_at t to new_name ≡ Some old → (b : Bool) → nat_eq e.number old.number ≡ b
          → IsThere (if b then t else carried (after_unlink t to new_name now) from name e.number to new_name now) m
      over e old is was true same = there
      over e old is was false other = stays_carried (after_unlink t to new_name now) from e.number to name new_name now
          (stays_unlinked t to new_name now (λ g found. apart e g is found (λ s. eqb-false e.number old.number other (s ∙ ap (λ (k : Entry). k.number) (same_some (sym found ∙ was))))) there)

      onto : (e : Entry) → entry_at t from name ≡ Some e → (o : Option Entry) → entry_at t to new_name ≡ o
          → IsThere (on_some o (carried t from name e.number to new_name now) (λ old. if nat_eq e.number old.number then t else carried (after_unlink t to new_name now) from name e.number to new_name now)) m
      onto e is None was = stays_carried t from e.number to name new_name now there
      onto e is (Some old) was = over e old is was (nat_eq e.number old.number) refl

      by : (o : Option Entry) → entry_at t from name ≡ o → IsThere (on_some o t (λ e. on_some (entry_at t to new_name) (carried t from name e.number to new_name now) (λ old. if nat_eq e.number old.number then t else carried (after_unlink t to new_name now) from name e.number to new_name now))) m
      by None is = there
      by (Some e) is = onto e is (entry_at t to new_name) refl

  stays_resized : (t : Tree) (n : ℕ) (size : Option ℕ) (now : Moment) → IsThere t m → IsThere (on_some size t (λ size. after_resize t n size now)) m
  stays_resized t n None now there = there
  stays_resized t n (Some size) now there = stays_changed t n (λ f. resized_to f size now) there

  stays_settled : (t : Tree) (n : ℕ) (a : Sattr) (now : Moment) → IsThere t m → IsThere (after_settings t n a now) m
  stays_settled t n a now there = by (sets_something a)
    where
      by : (b : Bool) → IsThere (if b then after_set (on_some a.size t (λ size. after_resize t n size now)) n (given_of now a) now else t) m
      by true = stays_changed (on_some a.size t (λ size. after_resize t n size now)) n (λ f. with_given f (given_of now a) now) (stays_resized t n a.size now there)
      by false = there

  stays_written : (t : Tree) (n offset : ℕ) (bytes : List ℕ) (now : Moment) → IsThere t m → IsThere (after_write_at t n offset bytes now) m
  stays_written t n offset [] now there = there
  stays_written t n offset (byte ∷ bytes) now there = stays_changed t n (λ f. file_with_bytes f offset (byte ∷ bytes) now) there

  stays_taken : (t : Tree) (uid : ℕ) (f : Fattr) (how : CreateHow) (now : Moment) → IsThere t m → IsThere (after_taking t uid f how now) m
  stays_taken t uid f how now there = stays_settled t f.fileid (with_cleared_mode uid f (size_alone (size_taken how))) now there

-- ---- what a granted call is about

module _ (c : Scene) (law : Law c.tree) (one two : Subject) (granted : IsGranted c one two) where
  are : AreSubjects c one two
  are = are_subjects c one two granted

  lawful : Law one.tree
  lawful = subst Law (sym are.first.tree) law

  same_tree : two.tree ≡ one.tree
  same_tree = are.second.tree ∙ sym are.first.tree

  kept : (args : NfsArgs) → c.args ≡ args → first (rules_of one two args) ≡ None
  kept args is = subst (λ a. first (rules_of one two a) ≡ None) is (rules_kept c one two granted)

  there : IsThere one.tree one.file.fileid
  there = seen_there one.tree one.file are.first.seen

  there_too : IsThere one.tree two.file.fileid
  there_too = subst (λ t. IsThere t two.file.fileid) same_tree (seen_there two.tree two.file are.second.seen)

  no_next : at one.tree.next one.tree.files ≡ None
  no_next = at_next 0 one.tree.next one.tree.files lawful.rising

  -- ---- the path, the file found, the volume

  pub has_path : HasPath c one two
  has_path handle is =
      let m = mapped (λ (h : File). attributes_of one.file.fileid h (nlink one.tree.files one.file.fileid h)) (at one.file.fileid one.tree.files) one.file are.first.seen in
      let passed : not (is_link_type one.file.file_type) ≡ false = passed_at (rules_of one two (nfs.Readlink handle)) (kept (nfs.Readlink handle) is) 0 (test.not_link one) refl in
      ap (λ o. is_some (on_some o None (λ (f : File). path_of f.kind))) m.1
      ∙ path_there m.0.kind (ap (λ (f : Fattr). not (is_link_type f.file_type)) m.2 ∙ passed)
    where
      path_there : (k : Kind) → not (is_link_type (type_of k)) ≡ false → is_some (path_of k) ≡ true
      path_there (Regular bytes) e = absurd (true≢false e)
      path_there (Directory parent next_cookie entries) e = absurd (true≢false e)
      path_there (Link path) e = refl

  pub has_found : HasFound c one two
  has_found a is =
      let f = some_from_is_none (found one a.name) (passed_at (lookup_rules one a.name) (kept (nfs.Lookup a) is) 4 (test.no_entry one a.name) refl) in
      (f.0, f.1, shown_handle one.tree f.0.fileid (seen_there one.tree f.0 (found_seen one a.name f.0 f.1).1))

  pub has_volume : HasVolume c one two
  has_volume handle is =
      let lives = seen_lives one.tree one.file are.first.seen in
      let placed = lawful.placed one.file.fileid lives.0 lives.1 in
      let volume : IsSome (slice_get one.tree.volumes (one.file.fsid - 1)) = ap (λ k. is_some (slice_get one.tree.volumes k)) (seen_place one.tree one.file are.first.seen lives.0 lives.1) ∙ ap is_some placed.1 in
      (volume, map_some _ (slice_get one.tree.volumes (one.file.fsid - 1)) volume)

  pub has_listed : HasListed c one two
  has_listed a is e listed = is_shown one.tree e.number (of lives.0.kind refl (subst (λ (l : List Entry). Contains l e) (ap (λ o. on_some o [] (λ (f : File). listing one.file.fileid f.kind)) lives.1) listed))
    where
      lives : (h : File) × Lives one.tree one.file.fileid h
      lives = seen_lives one.tree one.file are.first.seen

      under : (parent next_cookie : ℕ) (entries : List Entry) → lives.0.kind ≡ Directory parent next_cookie entries → (o : Entry) → (o ≡ e) ⊎ Contains entries e → o.number ≡ parent → IsThere one.tree e.number
      under parent next_cookie entries s o (inl same) number =
          let home = lawful.homes one.file.fileid lives.0 (lives.1, ap is_directory s) in
          let to : parent_in lives.0.kind ≡ e.number = ap parent_in s ∙ sym number ∙ ap (λ (k : Entry). k.number) same in
          ap (λ k. is_some (at k one.tree.files)) (sym to) ∙ ap is_some home.1.0
      under parent next_cookie entries s o (inr there) number =
          ap is_some (lawful.entries one.file.fileid lives.0 e lives.1 (subst (λ (es : List Entry). Contains es e) (ap entries_in (sym s)) there)).1

      itself : Entry
      itself = record { cookie = 1; name = dot; number = one.file.fileid }

      above : ℕ → Entry
      above parent = record { cookie = 2; name = dot_dot; number = parent }

      one_of : (parent next_cookie : ℕ) (entries : List Entry) → lives.0.kind ≡ Directory parent next_cookie entries → (itself ≡ e) ⊎ Contains (above parent ∷ entries) e → IsThere one.tree e.number
      one_of parent next_cookie entries s (inl same) = subst (IsThere one.tree) (ap (λ (k : Entry). k.number) same) there
      one_of parent next_cookie entries s (inr rest) = under parent next_cookie entries s (above parent) (head_or_tail (above parent) e entries rest) refl

      of : (k : Kind) → lives.0.kind ≡ k → Contains (listing one.file.fileid k) e → IsThere one.tree e.number
      of (Regular bytes) s listed = absurd (let l = listed.1 in omega (arith, l))
      of (Link path) s listed = absurd (let l = listed.1 in omega (arith, l))
      of (Directory parent next_cookie entries) s listed = one_of parent next_cookie entries s (head_or_tail itself e (above parent ∷ entries) listed)

  -- ---- the files of its handles afterwards

  off_unlinked : (d : ℕ) (name : List ℕ) → MayUnlink one.tree d name → (e : Entry) → entry_at one.tree d name ≡ Some e → d ≢ e.number
  off_unlinked d name may e is s =
      let same : e ≡ may.entry = same_some (sym is ∙ entry_is one.tree d name may.dir may.at_dir.0 ∙ may.found) in
      other_file one.tree d name c.now may (ap (λ (k : Entry). k.number) (sym same) ∙ sym s)

  module _ (from to : ℕ) (name new_name : List ℕ) (may : MayRename one.tree from name to new_name) (e old : Entry) (is : entry_at one.tree from name ≡ Some e) (was : entry_at one.tree to new_name ≡ Some old) (apart : e.number ≢ old.number) where
    entry_same : e ≡ may.entry
    entry_same = same_some (sym is ∙ entry_is one.tree from name may.source may.at_source.0 ∙ may.found)

    found_old : entry_named new_name (entries_in may.target.kind) ≡ Some old
    found_old = sym (entry_is one.tree to new_name may.target may.at_target.0) ∙ was

    replaced : MayReplace one.tree old.number may.file
    replaced = may.replaced old found_old (λ s. apart (ap (λ (k : Entry). k.number) entry_same ∙ sym s))

    from_apart : from ≢ old.number
    from_apart s = empty_elsewhere one.tree from old.number name may.source replaced.replaced may.entry may.at_source.0 may.found replaced.at_replaced replaced.empty (sym s)

    to_apart : to ≢ old.number
    to_apart s = empty_elsewhere one.tree to old.number new_name may.target replaced.replaced old may.at_target.0 found_old replaced.at_replaced replaced.empty (sym s)

  abbrev d : ℕ
  d = one.file.fileid

  made_there : (m : ℕ) (name : List ℕ) (f : File) → IsThere one.tree m → IsThere (with_named_file one.tree d name f c.now) m
  made_there m name f is = stays_entered m (with_new_file one.tree f) d one.tree.next name c.now (stays_new m one.tree f no_next is)

  new_there : (name : List ℕ) (f : File) → IsThere (with_named_file one.tree d name f c.now) one.tree.next
  new_there name f = stays_entered one.tree.next (with_new_file one.tree f) d one.tree.next name c.now (ap is_some (at_push_same one.tree.next f one.tree.files no_next))

  may_move : (a : Rename) → c.args ≡ nfs.Rename a → MayRename one.tree d a.from.name two.file.fileid a.to.name
  may_move a is = may_rename one.tree lawful one two refl same_tree are.first.seen are.second.seen are.volume a (kept (nfs.Rename a) is)

  after : (args : NfsArgs) (doing : Doing) (tag : ℕ) → doing_of args ≡ Some doing → c.args ≡ args → IsThere (doing.effect one two c.now tag) d
  after args doing tag e is = by args e is
    where
      reported_as : (k : Doing) → Some k ≡ Some doing → IsThere (k.effect one two c.now tag) d → IsThere (doing.effect one two c.now tag) d
      reported_as k e h = subst (λ (k : Doing). IsThere (k.effect one two c.now tag) d) (same_some e) h

      created : (a : Create) (o : Option Fattr) → IsThere (on_some o (after_creating one a c.now tag) (λ f. after_taking one.tree one.ids.uid f a.how c.now)) d
      created a None = made_there d a.place.name _ there
      created a (Some f) = stays_taken d one.tree one.ids.uid f a.how c.now there

      by : (args : NfsArgs) → doing_of args ≡ Some doing → c.args ≡ args → IsThere (doing.effect one two c.now tag) d
      by nfs.Null e is = absurd (not_both refl e)
      by (nfs.Getattr file) e is = reported_as getattr e there
      by (nfs.Setattr a) e is = reported_as (setattr a) e (stays_settled d one.tree d (with_cleared_mode one.ids.uid one.file a.attributes) c.now there)
      by (nfs.Lookup a) e is = reported_as (lookup a) e there
      by (nfs.Access a) e is = reported_as (access a) e there
      by (nfs.Readlink file) e is = reported_as (readlink file) e there
      by (nfs.Read a) e is = reported_as (read a) e there
      by (nfs.Write a) e is = reported_as (write a) e (stays_settled d (after_write_at one.tree d a.offset a.content c.now) d (mode_alone (cleared_mode one.ids.uid one.file (has_bytes a.content))) c.now
          (stays_written d one.tree d a.offset a.content c.now there))
      by (nfs.Create a) e is = reported_as (create a) e (created a (found one a.place.name))
      by (nfs.Mkdir a) e is = reported_as (mkdir a) e (made_there d a.place.name _ there)
      by (nfs.Symlink a) e is = reported_as (symlink a) e (made_there d a.place.name _ there)
      by (nfs.Mknod a) e is = reported_as (mknod a) e there
      by (nfs.Remove a) e is =
          let none = kept (nfs.Remove a) is in
          let f = some_from_is_none (found one a.name) (passed_at (remove_rules one a.name) none 6 (test.no_entry one a.name) refl) in
          reported_as (remove a) e (stays_unlinked d one.tree d a.name c.now (off_unlinked d a.name (may_remove one lawful are.first.seen a.name none f.0 f.1).may) there)
      by (nfs.Rmdir a) e is =
          let none = kept (nfs.Rmdir a) is in
          let f = some_from_is_none (found one a.name) (passed_at (rmdir_rules one a.name) none 7 (test.no_entry one a.name) refl) in
          reported_as (rmdir a) e (stays_unlinked d one.tree d a.name c.now (off_unlinked d a.name (may_remove_directory one lawful are.first.seen a.name none f.0 f.1).may) there)
      by (nfs.Rename a) e is = reported_as (rename a) e (stays_renamed d one.tree d two.file.fileid a.from.name a.to.name c.now (from_apart d two.file.fileid a.from.name a.to.name (may_move a is)) there)
      by (nfs.Link a) e is = reported_as (link a) e (stays_entered d (touched one.tree d c.now) two.file.fileid d a.place.name c.now (stays_touched d one.tree d c.now there))
      by (nfs.Readdir a) e is = reported_as (readdir a) e there
      by (nfs.Readdirplus a) e is = reported_as (readdirplus a) e there
      by (nfs.Fsstat file) e is = reported_as (fsstat file) e there
      by (nfs.Fsinfo file) e is = reported_as (fsinfo file) e there
      by (nfs.Pathconf file) e is = reported_as (pathconf file) e there
      by (nfs.Commit a) e is = reported_as (commit a) e there

  pub has_changed : HasChanged c one two
  has_changed doing tag e fits = shown_attributes (doing.effect one two c.now tag) d (after c.args doing tag e refl)

  pub has_both : HasBoth c one two
  has_both = (
    λ a tag is. shown_attributes ((rename a).effect one two c.now tag) two.file.fileid (stays_renamed two.file.fileid one.tree d two.file.fileid a.from.name a.to.name c.now (to_apart d two.file.fileid a.from.name a.to.name (may_move a is)) there_too),
    λ a tag is. shown_attributes ((link a).effect one two c.now tag) two.file.fileid (stays_entered two.file.fileid (touched one.tree d c.now) two.file.fileid d a.place.name c.now (stays_touched two.file.fileid one.tree d c.now there_too)),
  )

  pub has_made : HasMade c one two
  has_made = (
    λ a tag is. created a tag (found one a.place.name) refl,
    λ a tag is. is_shown ((mkdir a).effect one two c.now tag) one.tree.next (new_there a.place.name _),
    λ a tag is. is_shown ((symlink a).effect one two c.now tag) one.tree.next (new_there a.place.name _),
  )
    where
      created : (a : Create) (tag : ℕ) (o : Option Fattr) → found one a.place.name ≡ o
          → IsShown (on_some o (after_creating one a c.now tag) (λ f. after_taking one.tree one.ids.uid f a.how c.now)) (on_some o one.tree.next (λ f. f.fileid))
      created a tag None e = is_shown (after_creating one a c.now tag) one.tree.next (new_there a.place.name _)
      created a tag (Some f) e = is_shown (after_taking one.tree one.ids.uid f a.how c.now) f.fileid (stays_taken f.fileid one.tree one.ids.uid f a.how c.now (seen_there one.tree f (found_seen one a.place.name f e).1))
