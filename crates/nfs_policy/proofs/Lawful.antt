-- Granted calls keep the law of the tree.
use Rattle.std.proofs.Common.{◌≡◌, ℕ, ◌<◌, ◌^◌, Bool, true, false, List, Option, Some, None, refl, sym, ap, subst, ◌∙◌}
use Rattle.std.specs.Prelude.{if◌then◌else◌}
use Rattle.nfs_args.specs.declared.args.NfsArgs.{NfsArgs}
use Rattle.nfs_args.specs.declared.args.NfsArgs.TheVariants as nfs
use Rattle.nfs_args.specs.declared.create.Create.{Create}
use Rattle.nfs_args.specs.declared.create.CreateHow.{CreateHow}
use Rattle.nfs_args.specs.declared.create.CreateHow.TheVariants.{Unchecked, Guarded, Exclusive}
use Rattle.nfs_args.specs.declared.setattr.Setattr.{Setattr}
use Rattle.nfs_args.specs.declared.write.Write.{Write}
use Rattle.nfs_attrs.specs.declared.fattr.Fattr.{Fattr}
use Rattle.nfs_attrs.specs.declared.moment.Moment.{Moment}
use Rattle.nfs_attrs.specs.declared.sattr.Sattr.{Sattr}
use Rattle.nfs_exports.specs.declared.export_table.Export.{Export}
use Rattle.nfs_inodes.proofs.Lists.{same_some, not_both}
use Rattle.nfs_inodes.proofs.Maps.{at_with_same}
use Rattle.nfs_inodes.proofs.law.NewFiles.{law_after_make_file, law_after_mkdir, law_after_make_link}
use Rattle.nfs_inodes.proofs.law.Operations.{law_after_link, law_after_write_at}
use Rattle.nfs_inodes.proofs.law.Renames.{law_after_rename}
use Rattle.nfs_inodes.proofs.law.Settings.{law_after_resize, law_after_set, resized_is}
use Rattle.nfs_inodes.proofs.law.Unlinks.{law_after_unlink}
use Rattle.nfs_inodes.specs.Changes.{resized_to, after_resize, after_set, after_write_at, zeros}
use Rattle.nfs_inodes.specs.Conditions.{MayMake, MayResize}
use Rattle.nfs_inodes.specs.Law.{Law, Lives}
use Rattle.nfs_inodes.specs.Tree.{Tree, File, at, on_some}
use Rattle.nfs_procs.proofs.GivenSettings.{lives_written}
use Rattle.nfs_procs.specs.Changers.{setattr, write, create, mkdir, symlink, remove, rmdir, rename, link, given_of, sets_something, file_mode, directory_mode, link_mode, attributes_in, verifier_in, after_settings, after_writing, after_taking, after_creating, with_cleared_mode, cleared_mode, has_bytes, size_alone, size_taken, mode_alone}
use Rattle.nfs_procs.specs.NewFiles.{new_file_of}
use Rattle.nfs_procs.specs.Doing.{Doing}
use Rattle.nfs_procs.specs.Performing.{IsGranted}
use Rattle.nfs_procs.specs.Procedures.{doing_of}
use Rattle.nfs_procs.specs.Readers.{getattr, lookup, access, readlink, read, readdir, readdirplus, mknod, fsstat, fsinfo, pathconf, commit}
use Rattle.nfs_procs.specs.Scenes.{Scene}
use Rattle.nfs_rules.proofs.Links.{may_link}
use Rattle.nfs_rules.proofs.NewFiles.{may_make_directory, may_make_link, may_make_file}
use Rattle.nfs_rules.proofs.Removals.{may_remove, may_remove_directory, some_from_is_none}
use Rattle.nfs_rules.proofs.Renames.{may_rename}
use Rattle.nfs_rules.proofs.SeenFiles.{seen_lives, found_seen}
use Rattle.nfs_rules.proofs.Sizes.{may_write, may_set_size, may_resize_present}
use Rattle.nfs_rules.proofs.Firsts.{passed_at}
use Rattle.nfs_rules.specs.Subjects.{Caller, Subject}
use Rattle.nfs_rules.specs.Table.{rules_of, setattr_rules, write_rules, create_rules, remove_rules, rmdir_rules, size_in}
use Rattle.nfs_rules.specs.Tests as test
use Rattle.nfs_rules.specs.Tests.{first, found}
use Rattle.nfs_policy.proofs.Changes.{length_zeros}
use Rattle.nfs_policy.proofs.Granted.{IsSubject, AreSubjects, are_subjects, rules_kept}

-- ---- SETATTR and CREATE of what is there

module _ (t : Tree) (law : Law t) (n : ℕ) (now : Moment) where
  record IsSized (u : Tree) : Type 0 where
    lawful : Law u
    file : File
    at_file : Lives u n file

  sized_by : (f : File) → Lives t n f → (size : Option ℕ) → ((k : ℕ) → size ≡ Some k → MayResize t n k) → IsSized (on_some size t (λ size. after_resize t n size now))
  sized_by f at_f None may = record { lawful = law; file = f; at_file = at_f }
  sized_by f at_f (Some size) may = record {
    lawful = law_after_resize t n size now (may size refl) law;
    file = resized_to f size now;
    at_file = ap (λ (u : Tree). at n u.files) (resized_is t n size now f at_f) ∙ at_with_same n f (resized_to f size now) t.files at_f;
  }

  settled : (f : File) → Lives t n f → (g : Sattr) → ((k : ℕ) → g.size ≡ Some k → MayResize t n k) → Law (after_settings t n g now)
  settled f at_f g may = by (sets_something g)
    where
      by : (b : Bool) → Law (if b then after_set (on_some g.size t (λ size. after_resize t n size now)) n (given_of now g) now else t)
      by true = let z = sized_by f at_f g.size may in law_after_set (on_some g.size t (λ size. after_resize t n size now)) n (given_of now g) now z.file z.at_file z.lawful
      by false = law

module _ (s : Subject) (law : Law s.tree) (t : Tree) (exports : List (List Export)) (caller : Caller) (is : IsSubject t exports caller s) (now : Moment) where
  given : (a : Setattr) → first (setattr_rules s a) ≡ None → Law (after_settings s.tree s.file.fileid (with_cleared_mode s.ids.uid s.file a.attributes) now)
  given a none = let lives = seen_lives s.tree s.file is.seen in
      settled s.tree law s.file.fileid now lives.0 lives.1 (with_cleared_mode s.ids.uid s.file a.attributes) (may_set_size s law is.seen a none)

  written : (a : Write) → first (write_rules s a) ≡ None → (mode : Option ℕ) → Law (after_writing s.tree s.file.fileid a.offset a.content mode now)
  written a none mode = let lives = seen_lives s.tree s.file is.seen in
      let there = lives_written s.tree s.file.fileid a.offset a.content now lives.0 lives.1 in
      settled (after_write_at s.tree s.file.fileid a.offset a.content now) (law_after_write_at s.tree s.file.fileid a.offset a.content now (may_write s law is.seen a none) law)
      s.file.fileid now there.0 there.1 (mode_alone mode) (λ k e. absurd (not_both refl e))

  taken : (a : Create) → first (create_rules s a) ≡ None → (f : Fattr) → found s a.place.name ≡ Some f → (how : CreateHow) → a.how ≡ how → Law (after_taking s.tree s.ids.uid f how now)
  taken a none f e how same = let lives = seen_lives s.tree f (found_seen s a.place.name f e).1 in
      settled s.tree law f.fileid now lives.0 lives.1 (with_cleared_mode s.ids.uid f (size_alone (size_taken how))) (may how same)
    where
      may : (how : CreateHow) → a.how ≡ how → (k : ℕ) → size_taken how ≡ Some k → MayResize s.tree f.fileid k
      may (Unchecked attributes) same k size = may_resize_present s law a none f e attributes same k size
      may (Guarded attributes) same k size = absurd (not_both refl size)
      may (Exclusive verifier) same k size = absurd (not_both refl size)

  created : (a : Create) (tag : ℕ) → tag < 2 ^ 32 → first (create_rules s a) ≡ None → (o : Option Fattr) → found s a.place.name ≡ o → Law (on_some o (after_creating s a now tag) (λ f. after_taking s.tree s.ids.uid f a.how now))
  created a tag fits none None e = let size = on_some (size_in a.how) 0 (λ (size : ℕ). size) in
      law_after_make_file s.tree s.file.fileid tag a.place.name (zeros size) (new_file_of file_mode s.ids now (attributes_in a.how)) (verifier_in a.how) now
      (subst (MayMake s.tree s.file.fileid a.place.name) (sym (length_zeros size)) (may_make_file s law is.seen a none e)) fits law
  created a tag fits none (Some f) e = taken a none f e a.how refl

-- ---- a granted call

pub granted_law : (c : Scene) → Law c.tree → (doing : Doing) → doing_of c.args ≡ Some doing → (one two : Subject) (tag : ℕ) → tag < 2 ^ 32 → IsGranted c one two → Law (doing.effect one two c.now tag)
granted_law c law doing e one two tag fits granted = by c.args e (rules_kept c one two granted)
  where
    are : AreSubjects c one two
    are = are_subjects c one two granted

    is : IsSubject c.tree c.exports c.caller one
    is = are.first

    l : Law one.tree
    l = subst Law (sym are.first.tree) law

    reported_as : (d : Doing) → Some d ≡ Some doing → Law (d.effect one two c.now tag) → Law (doing.effect one two c.now tag)
    reported_as d e h = subst (λ (d : Doing). Law (d.effect one two c.now tag)) (same_some e) h

    by : (args : NfsArgs) → doing_of args ≡ Some doing → first (rules_of one two args) ≡ None → Law (doing.effect one two c.now tag)
    by nfs.Null e none = absurd (not_both refl e)
    by (nfs.Getattr file) e none = reported_as getattr e l
    by (nfs.Setattr a) e none = reported_as (setattr a) e (given one l c.tree c.exports c.caller is c.now a none)
    by (nfs.Lookup a) e none = reported_as (lookup a) e l
    by (nfs.Access a) e none = reported_as (access a) e l
    by (nfs.Readlink file) e none = reported_as (readlink file) e l
    by (nfs.Read a) e none = reported_as (read a) e l
    by (nfs.Write a) e none = reported_as (write a) e (written one l c.tree c.exports c.caller is c.now a none (cleared_mode one.ids.uid one.file (has_bytes a.content)))
    by (nfs.Create a) e none = reported_as (create a) e (created one l c.tree c.exports c.caller is c.now a tag fits none (found one a.place.name) refl)
    by (nfs.Mkdir a) e none = reported_as (mkdir a) e (law_after_mkdir one.tree one.file.fileid tag a.place.name (new_file_of directory_mode one.ids c.now a.attributes) c.now (may_make_directory one l is.seen a.place.name none) fits l)
    by (nfs.Symlink a) e none = reported_as (symlink a) e (law_after_make_link one.tree one.file.fileid tag a.place.name a.path (record (new_file_of link_mode one.ids c.now a.attributes) { mode = link_mode }) c.now (may_make_link one l is.seen a.place.name a.path none) fits l)
    by (nfs.Mknod a) e none = reported_as (mknod a) e l
    by (nfs.Remove a) e none = let f = some_from_is_none (found one a.name) (passed_at (remove_rules one a.name) none 6 (test.no_entry one a.name) refl) in
        reported_as (remove a) e (law_after_unlink one.tree one.file.fileid a.name c.now (may_remove one l is.seen a.name none f.0 f.1).may l)
    by (nfs.Rmdir a) e none = let f = some_from_is_none (found one a.name) (passed_at (rmdir_rules one a.name) none 7 (test.no_entry one a.name) refl) in
        reported_as (rmdir a) e (law_after_unlink one.tree one.file.fileid a.name c.now (may_remove_directory one l is.seen a.name none f.0 f.1).may l)
    by (nfs.Rename a) e none = reported_as (rename a) e (law_after_rename one.tree one.file.fileid a.from.name two.file.fileid a.to.name c.now
        (may_rename one.tree l one two refl (are.second.tree ∙ sym are.first.tree) is.seen are.second.seen are.volume a none) l)
    by (nfs.Link a) e none = reported_as (link a) e (law_after_link one.tree one.file.fileid two.file.fileid a.place.name c.now
        (may_link one.tree l one two refl (are.second.tree ∙ sym are.first.tree) is.seen are.second.seen are.volume a.place.name none) l)
    by (nfs.Readdir a) e none = reported_as (readdir a) e l
    by (nfs.Readdirplus a) e none = reported_as (readdirplus a) e l
    by (nfs.Fsstat file) e none = reported_as (fsstat file) e l
    by (nfs.Fsinfo file) e none = reported_as (fsinfo file) e l
    by (nfs.Pathconf file) e none = reported_as (pathconf file) e l
    by (nfs.Commit a) e none = reported_as (commit a) e l
