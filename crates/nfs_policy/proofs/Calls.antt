-- What calls do and answer in a tree without some bytes.
use Rattle.std.proofs.Common.{◌≡◌, ◌≢◌, ℕ, ◌-◌, Bool, true, false, List, [], map, length, take, drop, Option, Some, None, option_map, refl, sym, ap, subst, ◌∙◌}
use Rattle.std.specs.Prelude.{nat_eq, min, slice_get, Ok, if◌then◌else◌}
use Rattle.nfs_args.specs.declared.answer.NfsAnswer.TheVariants as answer
use Rattle.nfs_args.specs.declared.args.NfsArgs.{NfsArgs}
use Rattle.nfs_args.specs.declared.args.NfsArgs.TheVariants as nfs
use Rattle.nfs_args.specs.declared.byte_range.ByteRange.{ByteRange}
use Rattle.nfs_args.specs.declared.create.Create.{Create}
use Rattle.nfs_args.specs.declared.create.CreateHow.{CreateHow}
use Rattle.nfs_args.specs.declared.write.Stability.TheVariants.{FileSync}
use Rattle.nfs_attrs.specs.declared.fattr.Fattr.{Fattr}
use Rattle.nfs_attrs.specs.declared.moment.Moment.{Moment}
use Rattle.nfs_attrs.specs.declared.sattr.Sattr.{Sattr}
use Rattle.nfs_dirs.specs.Pages.{fits, fits_plus, chosen, is_end, entry_reported, entry_plus_reported, entry_plus_with}
use Rattle.nfs_exports.specs.declared.export_table.Export.{Export}
use Rattle.nfs_inodes.proofs.Lists.{same_some, not_both, by_test}
use Rattle.nfs_inodes.proofs.Maps.{same_number}
use Rattle.nfs_inodes.specs.Changes.{after_resize, after_set, after_write_at}
use Rattle.nfs_inodes.specs.Reading.{bytes_at, entries_beyond}
use Rattle.nfs_inodes.specs.Tree.{Tree, File, Entry, at, on_some, bytes_in}
use Rattle.nfs_procs.specs.Changers.{changed, given_of, sets_something, after_settings, setattr, write, after_writing, made_of, after_taking, after_creating, with_cleared_mode, cleared_mode, has_bytes, size_alone, size_taken, mode_alone, create, mkdir, symlink, remove, rmdir, rename, link, file_mode, directory_mode, link_mode, attributes_in, verifier_in}
use Rattle.nfs_procs.specs.Doing.{Doing, change}
use Rattle.nfs_procs.specs.NewFiles.{new_file_of}
use Rattle.nfs_procs.specs.Performing.{AppendsAnswer, Performs}
use Rattle.nfs_procs.specs.Procedures.{PerformsAs, doing_of}
use Rattle.nfs_procs.specs.Readers.{handle_in, getattr, lookup, access, readlink, read, data_of, page_at, readdir, page_plus_at, readdirplus, mknod, room_in, fsstat, fsinfo, pathconf, commit, max_transfer, verifier_of}
use Rattle.nfs_procs.specs.Scenes.{Scene, verdict_in, subjects_in, seen_in}
use Rattle.nfs_procs.specs.declared.done.Done.{Done}
use Rattle.nfs_procs.specs.declared.done.Done.TheVariants.{Granted, Denied, Memory}
use Rattle.nfs_rules.specs.Rights.{may}
use Rattle.nfs_rules.specs.Rules.{status_of}
use Rattle.nfs_rules.specs.Subjects.{Caller, Subject, subject_at}
use Rattle.nfs_rules.specs.Table.{size_in}
use Rattle.nfs_rules.specs.Tests.{found}
use Rattle.nfs_rules.specs.Verdicts.{handles_in, subjects_at, verdict}
use Rattle.nfs_rules.specs.declared.rights.Right.TheVariants.{Execute}
use Rattle.nfs_xdr.specs.Written.{Written}
use Rattle.nfs_policy.specs.Shape.{blank, blank_where, AgreeOutside}
use Rattle.nfs_policy.specs.Reading.{ReadsNot, CallsAreConfined}
use Rattle.nfs_policy.proofs.Blanks.{at_blank, attributes_blank, listing_blank, handle_blank, path_blank, totals_blank, next_tag_outside}
use Rattle.nfs_policy.proofs.Changes.{blank_twice, set_blank, unlink_blank, rename_blank, link_blank, make_file_blank, mkdir_blank, make_link_blank, write_blank, resize_blank}
use Rattle.nfs_policy.proofs.Wants.{wants_blank}
use Rattle.nfs_policy.proofs.Rules.{veiled, found_veiled, subject_blank, subjects_blank, both_veiled, verdict_blank}

module _ (p : ℕ → Bool) where
  -- ---- effects

  -- what is done is done to the bytes too, and otherwise doesn't depend on them
  abbrev pub DoesBlank : Doing → Type 0
  DoesBlank doing = (one two : Subject) (now : Moment) (tag : ℕ) → blank p (doing.effect (veiled p one) (veiled p two) now tag) ≡ blank p (doing.effect one two now tag)

  settings_size : (t : Tree) (n : ℕ) (size : Option ℕ) (now : Moment) → blank p (on_some size (blank p t) (λ size. after_resize (blank p t) n size now)) ≡ blank p (on_some size t (λ size. after_resize t n size now))
  settings_size t n None now = blank_twice p t
  settings_size t n (Some size) now = resize_blank p t n size now

  settings_where : (b : Bool) (t : Tree) (n : ℕ) (a : Sattr) (now : Moment)
      → blank p (if b then after_set (on_some a.size (blank p t) (λ size. after_resize (blank p t) n size now)) n (given_of now a) now else blank p t) ≡ blank p (if b then after_set (on_some a.size t (λ size. after_resize t n size now)) n (given_of now a) now else t)
  settings_where true t n a now = sym (set_blank p (on_some a.size (blank p t) (λ size. after_resize (blank p t) n size now)) n (given_of now a) now)
      ∙ ap (λ u. after_set u n (given_of now a) now) (settings_size t n a.size now)
      ∙ set_blank p (on_some a.size t (λ size. after_resize t n size now)) n (given_of now a) now
  settings_where false t n a now = blank_twice p t

  settings_blank : (t : Tree) (n : ℕ) (a : Sattr) (now : Moment) → blank p (after_settings (blank p t) n a now) ≡ blank p (after_settings t n a now)
  settings_blank t n a now = settings_where (sets_something a) t n a now

  exactly : (t u : Tree) → t ≡ blank p u → blank p t ≡ blank p u
  exactly t u e = ap (blank p) e ∙ blank_twice p u

  taking_blank : (t : Tree) (uid : ℕ) (f : Fattr) (how : CreateHow) (now : Moment) → blank p (after_taking (blank p t) uid f how now) ≡ blank p (after_taking t uid f how now)
  taking_blank t uid f how now = settings_blank t f.fileid (with_cleared_mode uid f (size_alone (size_taken how))) now

  writing_blank : (t : Tree) (n offset : ℕ) (bytes : List ℕ) (mode : Option ℕ) (now : Moment) → blank p (after_writing (blank p t) n offset bytes mode now) ≡ blank p (after_writing t n offset bytes mode now)
  writing_blank t n offset bytes mode now = sym (settings_blank (after_write_at (blank p t) n offset bytes now) n (mode_alone mode) now)
      ∙ ap (λ u. blank p (after_settings u n (mode_alone mode) now)) (write_blank p t n offset bytes now)
      ∙ settings_blank (after_write_at t n offset bytes now) n (mode_alone mode) now

  create_case : (dir : Subject) (a : Create) (now : Moment) (tag : ℕ) (o : Option Fattr) → blank p (on_some o (after_creating (veiled p dir) a now tag) (λ f. after_taking (blank p dir.tree) dir.ids.uid f a.how now)) ≡ blank p (on_some o (after_creating dir a now tag) (λ f. after_taking dir.tree dir.ids.uid f a.how now))
  create_case dir a now tag None = exactly (after_creating (veiled p dir) a now tag) (after_creating dir a now tag)
      (make_file_blank p dir.tree dir.file.fileid (on_some (size_in a.how) 0 (λ size. size)) tag a.place.name (new_file_of file_mode dir.ids now (attributes_in a.how)) (verifier_in a.how) now)
  create_case dir a now tag (Some f) = taking_blank dir.tree dir.ids.uid f a.how now

  leaves : (one : Subject) → blank p (blank p one.tree) ≡ blank p one.tree
  leaves one = blank_twice p one.tree

  pub does_blank : (args : NfsArgs) (doing : Doing) → doing_of args ≡ Some doing → DoesBlank doing
  does_blank args doing e = by args doing e
    where
      -- an effect is given by its procedure
      reported_as : (d doing : Doing) → Some d ≡ Some doing → DoesBlank d → DoesBlank doing
      reported_as d doing e h = subst DoesBlank (same_some e) h

      exact : (d doing : Doing) → Some d ≡ Some doing → ((one two : Subject) (now : Moment) (tag : ℕ) → d.effect (veiled p one) (veiled p two) now tag ≡ blank p (d.effect one two now tag)) → DoesBlank doing
      exact d doing e h = reported_as d doing e (λ one two now tag. exactly (d.effect (veiled p one) (veiled p two) now tag) (d.effect one two now tag) (h one two now tag))

      by : (args : NfsArgs) (doing : Doing) → doing_of args ≡ Some doing → DoesBlank doing
      by nfs.Null doing e = absurd (not_both refl e)
      by (nfs.Getattr file) doing e = reported_as getattr doing e (λ one two now tag. leaves one)
      by (nfs.Setattr a) doing e = reported_as (setattr a) doing e (λ one two now tag. settings_blank one.tree one.file.fileid (with_cleared_mode one.ids.uid one.file a.attributes) now)
      by (nfs.Lookup a) doing e = reported_as (lookup a) doing e (λ one two now tag. leaves one)
      by (nfs.Access a) doing e = reported_as (access a) doing e (λ one two now tag. leaves one)
      by (nfs.Readlink file) doing e = reported_as (readlink file) doing e (λ one two now tag. leaves one)
      by (nfs.Read a) doing e = reported_as (read a) doing e (λ one two now tag. leaves one)
      by (nfs.Write a) doing e = reported_as (write a) doing e (λ one two now tag. writing_blank one.tree one.file.fileid a.offset a.content (cleared_mode one.ids.uid one.file (has_bytes a.content)) now)
      by (nfs.Create a) doing e = reported_as (create a) doing e (λ one two now tag.
          ap (λ o. blank p (on_some o (after_creating (veiled p one) a now tag) (λ f. after_taking (blank p one.tree) one.ids.uid f a.how now))) (found_veiled p one a.place.name)
          ∙ create_case one a now tag (found one a.place.name))
      by (nfs.Mkdir a) doing e = exact (mkdir a) doing e (λ one two now tag. mkdir_blank p one.tree one.file.fileid tag a.place.name (new_file_of directory_mode one.ids now a.attributes) now)
      by (nfs.Symlink a) doing e = exact (symlink a) doing e (λ one two now tag. make_link_blank p one.tree one.file.fileid tag a.place.name a.path (record (new_file_of link_mode one.ids now a.attributes) { mode = link_mode }) now)
      by (nfs.Mknod a) doing e = reported_as (mknod a) doing e (λ one two now tag. leaves one)
      by (nfs.Remove a) doing e = exact (remove a) doing e (λ one two now tag. unlink_blank p one.tree one.file.fileid a.name now)
      by (nfs.Rmdir a) doing e = exact (rmdir a) doing e (λ one two now tag. unlink_blank p one.tree one.file.fileid a.name now)
      by (nfs.Rename a) doing e = exact (rename a) doing e (λ one two now tag. rename_blank p one.tree one.file.fileid two.file.fileid a.from.name a.to.name now)
      by (nfs.Link a) doing e = exact (link a) doing e (λ one two now tag. link_blank p one.tree one.file.fileid two.file.fileid a.place.name now)
      by (nfs.Readdir a) doing e = reported_as (readdir a) doing e (λ one two now tag. leaves one)
      by (nfs.Readdirplus a) doing e = reported_as (readdirplus a) doing e (λ one two now tag. leaves one)
      by (nfs.Fsstat file) doing e = reported_as (fsstat file) doing e (λ one two now tag. leaves one)
      by (nfs.Fsinfo file) doing e = reported_as (fsinfo file) doing e (λ one two now tag. leaves one)
      by (nfs.Pathconf file) doing e = reported_as (pathconf file) doing e (λ one two now tag. leaves one)
      by (nfs.Commit a) doing e = reported_as (commit a) doing e (λ one two now tag. leaves one)

  -- ---- answers

  -- what is answered doesn't show the bytes
  abbrev pub AnswersAt : Doing → Subject → Subject → Tree → Type 0
  AnswersAt doing one two new = doing.granted (veiled p one) (veiled p two) (blank p new) ≡ doing.granted one two new

  -- it reads no file whose bytes are blanked
  abbrev pub ReadsOther : NfsArgs → Subject → Type 0
  ReadsOther args one = (a : ByteRange) → args ≡ nfs.Read a → p one.file.fileid ≡ false

  changed_blank : (new : Tree) (s : Subject) → changed (blank p new) (veiled p s) ≡ changed new s
  changed_blank new s = λ i. change (Some s.file) (attributes_blank p new s.file.fileid i)

  handle_in_blank : (t : Tree) (f : Fattr) → handle_in (blank p t) f ≡ handle_in t f
  handle_in_blank t f = λ i. on_some (handle_blank p t f.fileid i) [] (λ handle. handle)

  made_blank : (new : Tree) (n : ℕ) (dir : Subject) → made_of (blank p new) n (veiled p dir) ≡ made_of new n dir
  made_blank new n dir = λ i. record { file = handle_blank p new n i; attributes = attributes_blank p new n i; dir = changed_blank new dir i }

  pub bytes_other : (t : Tree) (n : ℕ) → p n ≡ false → bytes_at (blank p t) n ≡ bytes_at t n
  bytes_other t n out = ap (λ o. on_some o [] (λ (f : File). bytes_in f.kind)) (at_blank p n t.files ∙ ap (λ b. option_map (blank_where b) (at n t.files)) out) ∙ of (at n t.files)
    where
      of : (o : Option File) → on_some (option_map (blank_where false) o) [] (λ (f : File). bytes_in f.kind) ≡ on_some o [] (λ (f : File). bytes_in f.kind)
      of None = refl
      of (Some f) = refl

  plus_blank : (t : Tree) (searchable : Bool) (e : Entry) → entry_plus_reported (blank p t) searchable e ≡ entry_plus_reported t searchable e
  plus_blank t searchable e = λ i. entry_plus_with e (if searchable then attributes_blank p t e.number i else None) (if searchable then handle_blank p t e.number i else None)

  page_blank : (t : Tree) (f : Fattr) (cookie count : ℕ) → page_at (blank p t) f cookie count ≡ page_at t f cookie count
  page_blank t f cookie count = λ i. record {
    attributes = Some f;
    verifier = 0;
    entries = map entry_reported (chosen (fits count) (entries_beyond cookie (listing_blank p t f.fileid i)));
    eof = is_end (fits count) (entries_beyond cookie (listing_blank p t f.fileid i));
  }

  page_plus_blank : (t : Tree) (f : Fattr) (searchable : Bool) (cookie dircount maxcount : ℕ) → page_plus_at (blank p t) f searchable cookie dircount maxcount ≡ page_plus_at t f searchable cookie dircount maxcount
  page_plus_blank t f searchable cookie dircount maxcount = λ i. record {
    attributes = Some f;
    verifier = 0;
    entries = map (λ e. plus_blank t searchable e i) (chosen (fits_plus dircount maxcount searchable) (entries_beyond cookie (listing_blank p t f.fileid i)));
    eof = is_end (fits_plus dircount maxcount searchable) (entries_beyond cookie (listing_blank p t f.fileid i));
  }

  pub answers_blank : (args : NfsArgs) (doing : Doing) → doing_of args ≡ Some doing → (one two : Subject) (new : Tree) → ReadsOther args one → AnswersAt doing one two new
  answers_blank args doing e one two new reads = by args e reads
    where
      reported_as : (d : Doing) → Some d ≡ Some doing → AnswersAt d one two new → AnswersAt doing one two new
      reported_as d e h = subst (λ d. AnswersAt d one two new) (same_some e) h

      by : (args : NfsArgs) → doing_of args ≡ Some doing → ReadsOther args one → AnswersAt doing one two new
      by nfs.Null e reads = absurd (not_both refl e)
      by (nfs.Getattr file) e reads = reported_as getattr e refl
      by (nfs.Setattr a) e reads = reported_as (setattr a) e (λ i. answer.Setattr (Ok (changed_blank new one i)))
      by (nfs.Lookup a) e reads = reported_as (lookup a) e (λ i. answer.Lookup (Ok (record { file = on_some (found_veiled p one a.name i) [] (λ f. handle_in_blank one.tree f i); attributes = found_veiled p one a.name i; dir = Some one.file })))
      by (nfs.Access a) e reads = reported_as (access a) e refl
      by (nfs.Readlink file) e reads = reported_as (readlink file) e (λ i. answer.Readlink (Ok (record { attributes = Some one.file; path = on_some (path_blank p one.tree one.file.fileid i) [] (λ path. path) })))
      by (nfs.Read a) e reads = reported_as (read a) e (λ i. answer.Read (Ok (data_of one.file a.offset (take (min a.count max_transfer) (drop a.offset (bytes_other one.tree one.file.fileid (reads a refl) i))))))
      by (nfs.Write a) e reads = reported_as (write a) e (λ i. answer.Write (Ok (record { file = changed_blank new one i; count = length a.content; committed = FileSync; verifier = verifier_of one.tree })))
      by (nfs.Create a) e reads = reported_as (create a) e (λ i. answer.Create (Ok (made_blank new (on_some (found_veiled p one a.place.name i) one.tree.next (λ f. f.fileid)) one i)))
      by (nfs.Mkdir a) e reads = reported_as (mkdir a) e (λ i. answer.Mkdir (Ok (made_blank new one.tree.next one i)))
      by (nfs.Symlink a) e reads = reported_as (symlink a) e (λ i. answer.Symlink (Ok (made_blank new one.tree.next one i)))
      by (nfs.Mknod a) e reads = reported_as (mknod a) e refl
      by (nfs.Remove a) e reads = reported_as (remove a) e (λ i. answer.Remove (Ok (changed_blank new one i)))
      by (nfs.Rmdir a) e reads = reported_as (rmdir a) e (λ i. answer.Rmdir (Ok (changed_blank new one i)))
      by (nfs.Rename a) e reads = reported_as (rename a) e (λ i. answer.Rename (Ok (record { from = changed_blank new one i; to = changed_blank new two i })))
      by (nfs.Link a) e reads = reported_as (link a) e (λ i. answer.Link (Ok (record { attributes = attributes_blank p new one.file.fileid i; dir = changed_blank new two i })))
      by (nfs.Readdir a) e reads = reported_as (readdir a) e (λ i. answer.Readdir (Ok (page_blank one.tree one.file a.cookie a.count i)))
      by (nfs.Readdirplus a) e reads = reported_as (readdirplus a) e (λ i. answer.Readdirplus (Ok (page_plus_blank one.tree one.file (may one.ids one.file Execute) a.cookie a.dircount a.maxcount i)))
      by (nfs.Fsstat file) e reads = reported_as (fsstat file) e (λ i. answer.Fsstat (Ok (room_in (slice_get one.tree.volumes (one.file.fsid - 1)) (totals_blank p one.tree (one.file.fsid - 1) i) one.file)))
      by (nfs.Fsinfo file) e reads = reported_as (fsinfo file) e refl
      by (nfs.Pathconf file) e reads = reported_as (pathconf file) e refl
      by (nfs.Commit a) e reads = reported_as (commit a) e refl

-- ---- a call in two trees that agree outside f

abbrev seen_at : Tree → List (List Export) → Caller → List ℕ → Option Fattr
seen_at t exports caller handle = option_map (λ s. s.file) (subject_at t exports caller handle)

module _ (f : ℕ) (c : Scene) (other : Tree) (agree : AgreeOutside f c.tree other) where
  abbrev p : ℕ → Bool
  p = nat_eq f

  abbrev pub d : Scene
  d = record c { tree = other }

  pub same_verdict : verdict_in c ≡ verdict_in d
  same_verdict = sym (verdict_blank p c.tree c.exports c.caller c.args) ∙ ap (λ t. verdict t c.exports c.caller c.args) agree ∙ verdict_blank p other c.exports c.caller c.args

  same_subjects : option_map (both_veiled p c.tree c.exports c.caller) (subjects_in c) ≡ option_map (both_veiled p c.tree c.exports c.caller) (subjects_in d)
  same_subjects = sym (subjects_blank p c.tree c.exports c.caller (handles_in c.args)) ∙ ap (λ t. subjects_at t c.exports c.caller (handles_in c.args)) agree ∙ subjects_blank p other c.exports c.caller (handles_in c.args)

  file_blank : (t : Tree) (handle : List ℕ) → seen_at (blank p t) c.exports c.caller handle ≡ seen_at t c.exports c.caller handle
  file_blank t handle = ap (option_map (λ s. s.file)) (subject_blank p t c.exports c.caller handle) ∙ of (subject_at t c.exports c.caller handle)
    where
      of : (o : Option Subject) → option_map (λ (s : Subject). s.file) (option_map (veiled p) o) ≡ option_map (λ s. s.file) o
      of None = refl
      of (Some s) = refl

  pub same_seen : seen_in c ≡ seen_in d
  same_seen = λ i handle. (sym (file_blank c.tree handle) ∙ ap (λ t. seen_at t c.exports c.caller handle) agree ∙ file_blank other handle) i

  pub same_uid : option_map (λ s. s.0.ids.uid) (subjects_in c) ≡ option_map (λ s. s.0.ids.uid) (subjects_in d)
  same_uid = sym (of (subjects_in c)) ∙ ap (option_map (λ (s : Subject × Subject). s.0.ids.uid)) same_subjects ∙ of (subjects_in d)
    where
      of : (o : Option (Subject × Subject)) → option_map (λ (s : Subject × Subject). s.0.ids.uid) (option_map (both_veiled p c.tree c.exports c.caller) o) ≡ option_map (λ (s : Subject × Subject). s.0.ids.uid) o
      of None = refl
      of (Some s) = refl

  -- the subjects in the other tree
  pub others : (one two : Subject) → subjects_in c ≡ Some (one, two) → (one' two' : Subject) × (subjects_in d ≡ Some (one', two')) × (veiled p one ≡ veiled p one') × (veiled p two ≡ veiled p two')
  others one two e = of (subjects_in d) refl (sym (ap (option_map (both_veiled p c.tree c.exports c.caller)) e) ∙ same_subjects)
    where
      of : (o : Option (Subject × Subject)) → subjects_in d ≡ o → Some (veiled p one, veiled p two) ≡ option_map (both_veiled p c.tree c.exports c.caller) o → (one' two' : Subject) × (subjects_in d ≡ Some (one', two')) × (veiled p one ≡ veiled p one') × (veiled p two ≡ veiled p two')
      of None is e = absurd (not_both refl (sym e))
      of (Some s) is e = let same = same_some e in (s.0, s.1, is, ap (λ (s : Subject × Subject). s.0) same, ap (λ (s : Subject × Subject). s.1) same)

  pub apart : (n : ℕ) → n ≢ f → p n ≡ false
  apart n o = by_test (nat_eq f n) (λ t. absurd (o (sym (same_number f n t)))) (λ n. n)

  module _ (doing : Doing) (is : doing_of c.args ≡ Some doing) where
    -- the effect and the answer
    pub same_effect : (one two one' two' : Subject) (now : Moment) (tag : ℕ) → veiled p one ≡ veiled p one' → veiled p two ≡ veiled p two' → AgreeOutside f (doing.effect one two now tag) (doing.effect one' two' now tag)
    same_effect one two one' two' now tag e g = sym (does_blank p c.args doing is one two now tag) ∙ (λ i. blank p (doing.effect (e i) (g i) now tag)) ∙ does_blank p c.args doing is one' two' now tag

    same_wants : (one two one' two' : Subject) → veiled p one ≡ veiled p one' → veiled p two ≡ veiled p two' → doing.takes_memory one two ≡ doing.takes_memory one' two'
    same_wants one two one' two' e g = sym (wants_blank p c.args doing is one two) ∙ (λ i. doing.takes_memory (e i) (g i)) ∙ wants_blank p c.args doing is one' two'

    pub same_answer : (one two one' two' : Subject) (new new' : Tree) → veiled p one ≡ veiled p one' → veiled p two ≡ veiled p two' → AgreeOutside f new new' → ReadsOther p c.args one → doing.granted one two new ≡ doing.granted one' two' new'
    same_answer one two one' two' new new' e g agree reads = sym (answers_blank p c.args doing is one two new reads) ∙ (λ i. doing.granted (e i) (g i) (agree i))
        ∙ answers_blank p c.args doing is one' two' new' (λ a r. ap p (sym (λ i. (e i).file.fileid)) ∙ reads a r)

    abbrev Goes : (Tree → Type 0) → Tree → Type 0
    Goes P new = (other_new : Tree) × P other_new × AgreeOutside f new other_new

    pub stays : (new : Tree) → new ≡ c.tree → AgreeOutside f new other
    stays new e = ap (blank p) e ∙ agree

    performs : ReadsNot f c → (done : Done) (new : Tree) (before after : Written) → Performs c doing done new before after → Goes (λ new. Performs d doing done new before after) new
    performs reads Granted new before after h =
        let o = others h.one h.two h.granted.subjects in
        let new' = doing.effect o.0 o.1 c.now h.tag in
        let same : AgreeOutside f new new' = ap (blank p) h.new_is ∙ same_effect h.one h.two o.0 o.1 c.now h.tag o.3 o.4 in (
          new',
          record {
            one = o.0;
            two = o.1;
            granted = record { subjects = o.2; verdict = sym same_verdict ∙ h.granted.verdict };
            tag = h.tag;
            tag_is = next_tag_outside f c.tree other agree h.tag h.tag_is;
            new_is = refl;
            written = subst (λ a. AppendsAnswer a before after) (same_answer h.one h.two o.0 o.1 new new' o.3 o.4 same (λ a e. apart h.one.file.fileid (reads a h.one h.two e h.granted))) h.written;
          },
          same,
        )
    performs reads (Denied rule uid) new before after h = (
      other,
      record {
        verdict = sym same_verdict ∙ h.verdict;
        uid_is = h.uid_is ∙ same_uid;
        new_is = refl;
        written = subst (λ s. AppendsAnswer (doing.denied (status_of rule) s) before after) same_seen h.written;
      },
      stays new h.new_is,
    )
    performs reads (Memory refused) new before after h =
        let o = others h.one h.two h.granted.subjects in (
          other,
          record {
            one = o.0;
            two = o.1;
            granted = record { subjects = o.2; verdict = sym same_verdict ∙ h.granted.verdict };
            takes = sym (same_wants h.one h.two o.0 o.1 o.3 o.4) ∙ h.takes;
            new_is = refl;
            written = h.written;
          },
          stays new h.new_is,
        )

pub calls_are_confined : CallsAreConfined
calls_are_confined f c other agree reads done new before after h = of (doing_of c.args) refl done h
  where
    of : (o : Option Doing) → doing_of c.args ≡ o → (done : Option Done) → PerformsAs c o done new before after → (other_new : Tree) × PerformsAs (record c { tree = other }) o done other_new before after × AgreeOutside f new other_new
    of None is None h = (other, (refl, h.1), ap (blank (nat_eq f)) h.0 ∙ agree)
    of None is (Some done) h = absurd h
    of (Some doing) is None h = absurd h
    of (Some doing) is (Some done) h = performs f c other agree doing is reads done new before after h
