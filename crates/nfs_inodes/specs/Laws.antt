-- What the laws say of every lawful tree: what its operations keep, and what its handles name.
use Rattle.std.specs.Prelude.{◌≡◌, ℕ, ◌^◌, ◌<◌, ◌≤◌, List, length, Option, Some, None, is_some, if◌then◌else◌}
use Rattle.nfs_attrs.specs.declared.moment.Moment.{Moment}
use Rattle.nfs_handles.specs.Handles.{handle_at, reading, number}
use Rattle.nfs_handles.specs.Runs.{Change, Runs}
use Rattle.nfs_handles.specs.declared.reading.Reading.TheVariants.{Live, Stale}
use Rattle.nfs_inodes.specs.declared.given_attributes.GivenAttributes.{GivenAttributes}
use Rattle.nfs_inodes.specs.declared.new_file.NewFile.{NewFile}
use Rattle.nfs_inodes.specs.Tree.{Tree, File, at}
use Rattle.nfs_inodes.specs.Law.{Law, Lives, LivesAsDirectory, IsReached}
use Rattle.nfs_inodes.specs.Changes.{after_make_file, after_mkdir, after_make_link, after_link, after_write_at, after_resize, after_set}
use Rattle.nfs_inodes.specs.Changes.{after_unlink, after_rename, after_add_volume}
use Rattle.nfs_inodes.specs.Conditions.{MayMake, MayMakeDirectory, MayMakeLink, MayLink, MayWrite, MayResize, MayUnlink, MayRename, MayAddVolume}
use Rattle.nfs_inodes.specs.Reading.{number_under, numbered_files}

abbrev pub RootsAreReached : Type 0
RootsAreReached = (t : Tree) → Law t → (n : ℕ) (f : File) → LivesAsDirectory t n f → IsReached t n f

-- Each operation, where it may be done and with a tag that fits into a handle, leads from a lawful tree to such a one.
pub record Leads (To : Tree → Tree → Type 0) : Type 0 where
  pub files : (t : Tree) (d tag : ℕ) (name bytes : List ℕ) (given : NewFile) (verifier : Option (List ℕ)) (now : Moment)
      → MayMake t d name (length bytes) → tag < 2 ^ 32 → Law t → To t (after_make_file t d name bytes given verifier tag now)
  pub directories : (t : Tree) (d tag : ℕ) (name : List ℕ) (given : NewFile) (now : Moment)
      → MayMakeDirectory t d name → tag < 2 ^ 32 → Law t → To t (after_mkdir t d name given tag now)
  pub links : (t : Tree) (d tag : ℕ) (name path : List ℕ) (given : NewFile) (now : Moment)
      → MayMakeLink t d name path → tag < 2 ^ 32 → Law t → To t (after_make_link t d name path given tag now)
  pub names : (t : Tree) (n d : ℕ) (name : List ℕ) (now : Moment)
      → MayLink t n d name → Law t → To t (after_link t n d name now)
  pub bytes : (t : Tree) (n offset : ℕ) (bytes : List ℕ) (now : Moment)
      → MayWrite t n offset (length bytes) → Law t → To t (after_write_at t n offset bytes now)
  pub sizes : (t : Tree) (n size : ℕ) (now : Moment)
      → MayResize t n size → Law t → To t (after_resize t n size now)
  pub attributes : (t : Tree) (n : ℕ) (given : GivenAttributes) (now : Moment) (f : File)
      → Lives t n f → Law t → To t (after_set t n given now)
  pub removals : (t : Tree) (d : ℕ) (name : List ℕ) (now : Moment)
      → MayUnlink t d name → Law t → To t (after_unlink t d name now)
  pub renames : (t : Tree) (from : ℕ) (name : List ℕ) (to : ℕ) (new_name : List ℕ) (now : Moment)
      → MayRename t from name to new_name → Law t → To t (after_rename t from name to new_name now)
  pub volumes : (t : Tree) (max_bytes max_files tag : ℕ) (path : List ℕ) (given : NewFile) (now : Moment)
      → MayAddVolume t path max_bytes max_files → tag < 2 ^ 32 → Law t → To t (after_add_volume t path max_bytes max_files given tag now)

abbrev pub ChangesKeepTheLaw : Type 0
ChangesKeepTheLaw = Leads (λ t u. Law u)

-- ---- handles

-- changes of the numbered files, one after another, lead from the first tree to the second
pub record Follows (t u : Tree) : Type 0 where
  pub changes : List (Change File)
  pub run : Runs (numbered_files t) changes (numbered_files u)

-- a tree follows itself, and each operation is followed by the next
pub record ChangesFollow : Type 0 where
  pub itself : (t : Tree) → Follows t t
  pub joined : (t u w : Tree) → Follows t u → Follows u w → Follows t w
  pub operations : Leads Follows

-- A handle of a file that lives reads as it and as no other, and that for good: for as long as the file lives it names it, and no file ever after.
pub record HandlesAreForGood : Type 0 where
  pub read : (t : Tree) (n : ℕ) (handle : List ℕ) → Law t → handle_at (numbered_files t) n ≡ Some handle → reading (numbered_files t) handle ≡ Live (number n)
  pub once : (t : Tree) (m n : ℕ) (handle : List ℕ) → Law t → handle_at (numbered_files t) m ≡ Some handle
      → handle_at (numbered_files t) n ≡ Some handle → m ≡ n
  pub for_good : (t u : Tree) (n : ℕ) (handle : List ℕ) → Law t → Follows t u → reading (numbered_files t) handle ≡ Live (number n)
      → reading (numbered_files u) handle ≡ (if is_some (at n u.files) then Live (number n) else Stale)
  pub gone : (t u : Tree) (n : ℕ) → Law t → Follows t u → n < t.next → at n t.files ≡ None → at n u.files ≡ None
  pub next : (t u : Tree) → Follows t u → t.next ≤ u.next
  pub key : (t u : Tree) → Follows t u → u.key ≡ t.key

-- ---- what is found

-- both live, in one volume
pub record LiveTogether (t : Tree) (d n : ℕ) : Type 0 where
  pub dir : File
  pub at_dir : LivesAsDirectory t d dir
  pub file : File
  pub at_file : Lives t n file
  pub volume : file.volume ≡ dir.volume

abbrev pub FoundLives : Type 0
FoundLives = (t : Tree) (d n : ℕ) (name : List ℕ) → Law t → number_under t d name ≡ Some n → LiveTogether t d n
