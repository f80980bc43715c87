-- Whether a call wants memory doesn't depend on the bytes that are blanked.
use Rattle.std.proofs.Common.{◌≡◌, ℕ, ◌+◌, Bool, true, false, List, [], length, Option, Some, None, option_map, refl, ap, subst, ◌∙◌}
use Rattle.std.specs.Prelude.{not, nat_eq, nat_lt, ◌&&◌}
use Rattle.nfs_args.specs.declared.args.NfsArgs.{NfsArgs}
use Rattle.nfs_args.specs.declared.args.NfsArgs.TheVariants as nfs
use Rattle.nfs_args.specs.declared.create.CreateHow.{CreateHow}
use Rattle.nfs_inodes.proofs.Lists.{same_some, not_both}
use Rattle.nfs_inodes.specs.Reading.{bytes_at}
use Rattle.nfs_inodes.specs.Tree.{Tree, File, Kind, Regular, Directory, Link, at, on_some, bytes_in}
use Rattle.nfs_procs.specs.Changers.{setattr, write, create, mkdir, symlink, remove, rmdir, rename, link, grows, grows_to, size_taken, taking_grows, names_apart}
use Rattle.nfs_procs.specs.Doing.{Doing}
use Rattle.nfs_procs.specs.Procedures.{doing_of}
use Rattle.nfs_procs.specs.Readers.{getattr, lookup, access, readlink, read, readdir, readdirplus, mknod, fsstat, fsinfo, pathconf, commit}
use Rattle.nfs_rules.specs.Subjects.{Subject}
use Rattle.nfs_policy.specs.Shape.{blank, blank_kind, blank_where}
use Rattle.nfs_policy.proofs.Blanks.{at_blank, entry_blank}
use Rattle.nfs_policy.proofs.Changes.{length_zeros}
use Rattle.nfs_policy.proofs.Rules.{veiled, found_veiled}

module _ (p : ℕ → Bool) where
  length_blank : (t : Tree) (n : ℕ) → length (bytes_at (blank p t) n) ≡ length (bytes_at t n)
  length_blank t n = ap (λ o. length (on_some o [] (λ (f : File). bytes_in f.kind))) (at_blank p n t.files) ∙ of (p n) (at n t.files)
    where
      of_kind : (k : Kind) → length (bytes_in (blank_kind k)) ≡ length (bytes_in k)
      of_kind (Regular bytes) = length_zeros (length bytes)
      of_kind (Directory parent next_cookie entries) = refl
      of_kind (Link path) = refl

      of : (b : Bool) (o : Option File) → length (on_some (option_map (blank_where b) o) [] (λ (f : File). bytes_in f.kind)) ≡ length (on_some o [] (λ (f : File). bytes_in f.kind))
      of b None = refl
      of true (Some f) = of_kind f.kind
      of false (Some f) = refl

  grows_blank : (t : Tree) (n offset count : ℕ) → grows (blank p t) n offset count ≡ grows t n offset count
  grows_blank t n offset count = λ i. nat_lt 0 count && nat_lt (length_blank t n i) (offset + count)

  grows_to_blank : (t : Tree) (n : ℕ) (size : Option ℕ) → grows_to (blank p t) n size ≡ grows_to t n size
  grows_to_blank t n None = refl
  grows_to_blank t n (Some size) = grows_blank t n 0 size

  taking_blank : (t : Tree) (n : ℕ) (how : CreateHow) → taking_grows (blank p t) n how ≡ taking_grows t n how
  taking_blank t n how = grows_to_blank t n (size_taken how)

  names_blank : (t : Tree) (from to : ℕ) (name new_name : List ℕ) → names_apart (blank p t) from name to new_name ≡ names_apart t from name to new_name
  names_blank t from to name new_name = λ i. on_some (entry_blank p t from name i) true (λ e. on_some (entry_blank p t to new_name i) true (λ old. not (nat_eq old.number e.number)))

  abbrev pub WantsBlank : Doing → Type 0
  WantsBlank doing = (one two : Subject) → doing.takes_memory (veiled p one) (veiled p two) ≡ doing.takes_memory one two

  pub wants_blank : (args : NfsArgs) (doing : Doing) → doing_of args ≡ Some doing → WantsBlank doing
  wants_blank args doing e = by args e
    where
      reported_as : (d : Doing) → Some d ≡ Some doing → WantsBlank d → WantsBlank doing
      reported_as d e h = subst WantsBlank (same_some e) h

      by : (args : NfsArgs) → doing_of args ≡ Some doing → WantsBlank doing
      by nfs.Null e = absurd (not_both refl e)
      by (nfs.Getattr file) e = reported_as getattr e (λ one two. refl)
      by (nfs.Setattr a) e = reported_as (setattr a) e (λ one two. grows_to_blank one.tree one.file.fileid a.attributes.size)
      by (nfs.Lookup a) e = reported_as (lookup a) e (λ one two. refl)
      by (nfs.Access a) e = reported_as (access a) e (λ one two. refl)
      by (nfs.Readlink file) e = reported_as (readlink file) e (λ one two. refl)
      by (nfs.Read a) e = reported_as (read a) e (λ one two. refl)
      by (nfs.Write a) e = reported_as (write a) e (λ one two. refl)
      by (nfs.Create a) e = reported_as (create a) e (λ one two i. on_some (found_veiled p one a.place.name i) true (λ f. taking_blank one.tree f.fileid a.how i))
      by (nfs.Mkdir a) e = reported_as (mkdir a) e (λ one two. refl)
      by (nfs.Symlink a) e = reported_as (symlink a) e (λ one two. refl)
      by (nfs.Mknod a) e = reported_as (mknod a) e (λ one two. refl)
      by (nfs.Remove a) e = reported_as (remove a) e (λ one two. refl)
      by (nfs.Rmdir a) e = reported_as (rmdir a) e (λ one two. refl)
      by (nfs.Rename a) e = reported_as (rename a) e (λ one two. names_blank one.tree one.file.fileid two.file.fileid a.from.name a.to.name)
      by (nfs.Link a) e = reported_as (link a) e (λ one two. refl)
      by (nfs.Readdir a) e = reported_as (readdir a) e (λ one two. refl)
      by (nfs.Readdirplus a) e = reported_as (readdirplus a) e (λ one two. refl)
      by (nfs.Fsstat file) e = reported_as (fsstat file) e (λ one two. refl)
      by (nfs.Fsinfo file) e = reported_as (fsinfo file) e (λ one two. refl)
      by (nfs.Pathconf file) e = reported_as (pathconf file) e (λ one two. refl)
      by (nfs.Commit a) e = reported_as (commit a) e (λ one two. refl)
