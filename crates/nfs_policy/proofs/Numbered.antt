-- Granted calls change the numbered files by puts, changes and removals, one after another, and leave the volumes.
use Rattle.std.proofs.Common.{◌≡◌, ℕ, ◌-◌, ◌<◌, ◌^◌, Bool, true, false, List, [], ◌∷◌, ◌++◌, Option, Some, None, refl, sym, subst, ◌∙◌, arith}
use Rattle.std.specs.Prelude.{nat_eq, if◌then◌else◌}
use Rattle.nfs_args.specs.declared.args.NfsArgs.{NfsArgs}
use Rattle.nfs_args.specs.declared.args.NfsArgs.TheVariants as nfs
use Rattle.nfs_args.specs.declared.create.Create.{Create}
use Rattle.nfs_args.specs.declared.create.CreateHow.{CreateHow}
use Rattle.nfs_attrs.specs.declared.fattr.Fattr.{Fattr}
use Rattle.nfs_attrs.specs.declared.moment.Moment.{Moment}
use Rattle.nfs_attrs.specs.declared.sattr.Sattr.{Sattr}
use Rattle.nfs_handles.proofs.Runs.{runs_keep}
use Rattle.nfs_handles.specs.Runs.{Change, Put, Changed, Taken, Runs}
use Rattle.nfs_inodes.proofs.Lists.{same_some, not_both}
use Rattle.nfs_inodes.proofs.Numbers.{numbered_born, numbered_changed, numbered_gone}
use Rattle.nfs_inodes.specs.Changes.{with_new_file, with_file, without_file, entered, with_entry, left, without_entry, touched, released, moved_to, moved, with_named_file, after_write_at, file_with_bytes, resized_to, after_resize, with_given, after_set, after_link, after_unlink, carried, after_rename}
use Rattle.nfs_inodes.specs.Law.{Law}
use Rattle.nfs_inodes.specs.Reading.{entry_at, numbered_files}
use Rattle.nfs_inodes.specs.Tree.{Tree, File, Entry, at, on_some, names_of}
use Rattle.nfs_procs.specs.Changers.{setattr, write, create, mkdir, symlink, remove, rmdir, rename, link, given_of, sets_something, after_settings, after_writing, after_taking, after_creating, with_cleared_mode, cleared_mode, has_bytes, size_alone, size_taken, mode_alone}
use Rattle.nfs_procs.specs.Doing.{Doing}
use Rattle.nfs_procs.specs.Performing.{IsGranted}
use Rattle.nfs_procs.specs.Procedures.{doing_of}
use Rattle.nfs_procs.specs.Readers.{getattr, lookup, access, readlink, read, readdir, readdirplus, mknod, fsstat, fsinfo, pathconf, commit}
use Rattle.nfs_procs.specs.Scenes.{Scene}
use Rattle.nfs_rules.proofs.NewFiles.{may_make_directory, may_make_link, may_make_file}
use Rattle.nfs_rules.specs.Subjects.{Subject}
use Rattle.nfs_rules.specs.Table.{rules_of, create_rules}
use Rattle.nfs_rules.specs.Tests.{first, found}
use Rattle.nfs_policy.proofs.Granted.{AreSubjects, are_subjects, rules_kept}

pub record Goes (t u : Tree) : Type 0 where
  pub changes : List (Change File)
  pub runs : Runs (numbered_files t) changes (numbered_files u)
  pub volumes : u.volumes ≡ t.volumes
  pub limits : u.limits ≡ t.limits

pub goes_itself : (t : Tree) → Goes t t
goes_itself t = record { changes = []; runs = refl; volumes = refl; limits = refl }

pub goes_on : (t u v : Tree) → Goes t u → Goes u v → Goes t v
goes_on t u v a b = record {
  changes = a.changes ++ b.changes;
  runs = runs_keep.joined (numbered_files t) (numbered_files u) (numbered_files v) a.changes b.changes a.runs b.runs;
  volumes = b.volumes ∙ a.volumes;
  limits = b.limits ∙ a.limits;
}

-- ---- one change

changes_one : (t : Tree) (n : ℕ) (h : File → File) → ((f : File) → (h f).tag ≡ f.tag) → Goes t (on_some (at n t.files) t (λ f. with_file t n (h f)))
changes_one t n h tags = by (at n t.files) refl
  where
    by : (o : Option File) → at n t.files ≡ o → Goes t (on_some o t (λ f. with_file t n (h f)))
    by None e = goes_itself t
    by (Some f) e = record { changes = Changed n (h f) ∷ []; runs = (tt, numbered_changed t n f (h f) e (tags f)); volumes = refl; limits = refl }

takes_one : (t : Tree) (n : ℕ) → Goes t (without_file t n)
takes_one t n = record { changes = Taken n ∷ []; runs = (tt, numbered_gone t n); volumes = refl; limits = refl }

puts_one : (t : Tree) (f : File) → f.tag < 2 ^ 32 → t.next < 2 ^ 64 - 1 → Goes t (with_new_file t f)
puts_one t f fits room = record { changes = Put f.tag f ∷ []; runs = ((fits, λ e. omega (arith, room, e)), numbered_born t f); volumes = refl; limits = refl }

-- ---- operations

enters : (t : Tree) (d n : ℕ) (name : List ℕ) (now : Moment) → Goes t (with_entry t d name n now)
enters t d n name now = changes_one t d (λ f. entered f name n now) (λ f. refl)

touches : (t : Tree) (n : ℕ) (now : Moment) → Goes t (touched t n now)
touches t n now = changes_one t n (λ f. record f { ctime = now }) (λ f. refl)

releases : (t : Tree) (n : ℕ) (now : Moment) → Goes t (released t n now)
releases t n now = by (nat_eq (names_of n t.files) 0)
  where
    by : (b : Bool) → Goes t (if b then without_file t n else touched t n now)
    by true = takes_one t n
    by false = touches t n now

makes : (t : Tree) (d : ℕ) (name : List ℕ) (f : File) (now : Moment) → f.tag < 2 ^ 32 → t.next < 2 ^ 64 - 1 → Goes t (with_named_file t d name f now)
makes t d name f now fits room = goes_on t (with_new_file t f) (with_named_file t d name f now) (puts_one t f fits room) (enters (with_new_file t f) d t.next name now)

links : (t : Tree) (n d : ℕ) (name : List ℕ) (now : Moment) → Goes t (after_link t n d name now)
links t n d name now = goes_on t (touched t n now) (after_link t n d name now) (touches t n now) (enters (touched t n now) d n name now)

unlinks : (t : Tree) (d : ℕ) (name : List ℕ) (now : Moment) → Goes t (after_unlink t d name now)
unlinks t d name now = by (entry_at t d name)
  where
    by : (o : Option Entry) → Goes t (on_some o t (λ e. released (without_entry t d name now) e.number now))
    by None = goes_itself t
    by (Some e) = goes_on t (without_entry t d name now) (released (without_entry t d name now) e.number now)
        (changes_one t d (λ f. left f name now) (λ f. refl))
        (releases (without_entry t d name now) e.number now)

carries : (t : Tree) (from n to : ℕ) (name new_name : List ℕ) (now : Moment) → Goes t (carried t from name n to new_name now)
carries t from n to name new_name now =
    let u = without_entry t from name now in
    let v = moved u n to now in
    goes_on t u (with_entry v to new_name n now) (changes_one t from (λ f. left f name now) (λ f. refl))
    (goes_on u v (with_entry v to new_name n now) (changes_one u n (λ f. moved_to f to now) (λ f. refl)) (enters v to n new_name now))

renames : (t : Tree) (from to : ℕ) (name new_name : List ℕ) (now : Moment) → Goes t (after_rename t from name to new_name now)
renames t from to name new_name now = by (entry_at t from name)
  where
    over : (n : ℕ) (b : Bool) → Goes t (if b then t else carried (after_unlink t to new_name now) from name n to new_name now)
    over n true = goes_itself t
    over n false = let u = after_unlink t to new_name now in goes_on t u (carried u from name n to new_name now) (unlinks t to new_name now) (carries u from n to name new_name now)

    onto : (n : ℕ) (o : Option Entry) → Goes t (on_some o (carried t from name n to new_name now) (λ old. if nat_eq n old.number then t else carried (after_unlink t to new_name now) from name n to new_name now))
    onto n None = carries t from n to name new_name now
    onto n (Some old) = over n (nat_eq n old.number)

    by : (o : Option Entry) → Goes t (on_some o t (λ e. on_some (entry_at t to new_name) (carried t from name e.number to new_name now) (λ old. if nat_eq e.number old.number then t else carried (after_unlink t to new_name now) from name e.number to new_name now)))
    by None = goes_itself t
    by (Some e) = onto e.number (entry_at t to new_name)

writes : (t : Tree) (n offset : ℕ) (bytes : List ℕ) (now : Moment) → Goes t (after_write_at t n offset bytes now)
writes t n offset [] now = goes_itself t
writes t n offset (byte ∷ bytes) now = changes_one t n (λ f. file_with_bytes f offset (byte ∷ bytes) now) (λ f. refl)

resizes : (t : Tree) (n : ℕ) (size : Option ℕ) (now : Moment) → Goes t (on_some size t (λ size. after_resize t n size now))
resizes t n None now = goes_itself t
resizes t n (Some size) now = changes_one t n (λ f. resized_to f size now) (λ f. refl)

settles : (t : Tree) (n : ℕ) (a : Sattr) (now : Moment) → Goes t (after_settings t n a now)
settles t n a now = by (sets_something a)
  where
    by : (b : Bool) → Goes t (if b then after_set (on_some a.size t (λ size. after_resize t n size now)) n (given_of now a) now else t)
    by true = let u = on_some a.size t (λ size. after_resize t n size now) in
        goes_on t u (after_set u n (given_of now a) now) (resizes t n a.size now) (changes_one u n (λ f. with_given f (given_of now a) now) (λ f. refl))
    by false = goes_itself t

-- bytes, and a mode after them
writes_all : (t : Tree) (n offset : ℕ) (bytes : List ℕ) (mode : Option ℕ) (now : Moment) → Goes t (after_writing t n offset bytes mode now)
writes_all t n offset bytes mode now = let u = after_write_at t n offset bytes now in
    goes_on t u (after_settings u n (mode_alone mode) now) (writes t n offset bytes now) (settles u n (mode_alone mode) now)

taken : (t : Tree) (uid : ℕ) (f : Fattr) (how : CreateHow) (now : Moment) → Goes t (after_taking t uid f how now)
taken t uid f how now = settles t f.fileid (with_cleared_mode uid f (size_alone (size_taken how))) now

-- ---- a granted call

pub granted_goes : (c : Scene) → Law c.tree → (doing : Doing) → doing_of c.args ≡ Some doing → (one two : Subject) (tag : ℕ) → tag < 2 ^ 32 → IsGranted c one two → Goes c.tree (doing.effect one two c.now tag)
granted_goes c law doing e one two tag fits granted = subst (λ t. Goes t (doing.effect one two c.now tag)) are.first.tree (by c.args e (rules_kept c one two granted))
  where
    are : AreSubjects c one two
    are = are_subjects c one two granted

    l : Law one.tree
    l = subst Law (sym are.first.tree) law

    reported_as : (d : Doing) → Some d ≡ Some doing → Goes one.tree (d.effect one two c.now tag) → Goes one.tree (doing.effect one two c.now tag)
    reported_as d e h = subst (λ (d : Doing). Goes one.tree (d.effect one two c.now tag)) (same_some e) h

    stays : Goes one.tree one.tree
    stays = goes_itself one.tree

    creates : (a : Create) → first (create_rules one a) ≡ None → (o : Option Fattr) → found one a.place.name ≡ o → Goes one.tree (on_some o (after_creating one a c.now tag) (λ f. after_taking one.tree one.ids.uid f a.how c.now))
    creates a none None e = makes one.tree one.file.fileid a.place.name _ c.now fits (may_make_file one l are.first.seen a none e).number
    creates a none (Some f) e = taken one.tree one.ids.uid f a.how c.now

    by : (args : NfsArgs) → doing_of args ≡ Some doing → first (rules_of one two args) ≡ None → Goes one.tree (doing.effect one two c.now tag)
    by nfs.Null e none = absurd (not_both refl e)
    by (nfs.Getattr file) e none = reported_as getattr e stays
    by (nfs.Setattr a) e none = reported_as (setattr a) e (settles one.tree one.file.fileid (with_cleared_mode one.ids.uid one.file a.attributes) c.now)
    by (nfs.Lookup a) e none = reported_as (lookup a) e stays
    by (nfs.Access a) e none = reported_as (access a) e stays
    by (nfs.Readlink file) e none = reported_as (readlink file) e stays
    by (nfs.Read a) e none = reported_as (read a) e stays
    by (nfs.Write a) e none = reported_as (write a) e (writes_all one.tree one.file.fileid a.offset a.content (cleared_mode one.ids.uid one.file (has_bytes a.content)) c.now)
    by (nfs.Create a) e none = reported_as (create a) e (creates a none (found one a.place.name) refl)
    by (nfs.Mkdir a) e none = reported_as (mkdir a) e (makes one.tree one.file.fileid a.place.name _ c.now fits (may_make_directory one l are.first.seen a.place.name none).make.number)
    by (nfs.Symlink a) e none = reported_as (symlink a) e (makes one.tree one.file.fileid a.place.name _ c.now fits (may_make_link one l are.first.seen a.place.name a.path none).make.number)
    by (nfs.Mknod a) e none = reported_as (mknod a) e stays
    by (nfs.Remove a) e none = reported_as (remove a) e (unlinks one.tree one.file.fileid a.name c.now)
    by (nfs.Rmdir a) e none = reported_as (rmdir a) e (unlinks one.tree one.file.fileid a.name c.now)
    by (nfs.Rename a) e none = reported_as (rename a) e (renames one.tree one.file.fileid two.file.fileid a.from.name a.to.name c.now)
    by (nfs.Link a) e none = reported_as (link a) e (links one.tree one.file.fileid two.file.fileid a.place.name c.now)
    by (nfs.Readdir a) e none = reported_as (readdir a) e stays
    by (nfs.Readdirplus a) e none = reported_as (readdirplus a) e stays
    by (nfs.Fsstat file) e none = reported_as (fsstat file) e stays
    by (nfs.Fsinfo file) e none = reported_as (fsinfo file) e stays
    by (nfs.Pathconf file) e none = reported_as (pathconf file) e stays
    by (nfs.Commit a) e none = reported_as (commit a) e stays
