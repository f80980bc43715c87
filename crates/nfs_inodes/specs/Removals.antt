-- What is done to the kept files where an entry goes, and what it needs.
use Rattle.std.specs.Prelude.{◌≡◌, ℕ, ◌+◌, ◌≤◌, Bool, ◌||◌, true, false, nat_le, List, length, Some, slice_get}
use Rattle.nfs_attrs.specs.declared.moment.Moment.{Moment}
use Rattle.nfs_handles.specs.NumberedFiles.{NumberedFiles, TaggedFile, at, value_at, without}
use Rattle.nfs_inodes.specs.declared.limits.Limits.{Limits}
use Rattle.nfs_inodes.specs.declared.stored_file.StoredFile.{StoredFile}
use Rattle.nfs_inodes.specs.declared.stored_volume.StoredVolume.{StoredVolume}
use Rattle.nfs_inodes.specs.declared.removal.Freed.{Freed}
use Rattle.nfs_inodes.specs.declared.removal.Standing.{Standing}
use Rattle.nfs_inodes.specs.Tree.{on_some, is_directory, bytes_in}
use Rattle.nfs_inodes.specs.Changes.{left}
use Rattle.nfs_inodes.specs.Conditions.{MayUnlink}
use Rattle.nfs_inodes.specs.Counts.{Agrees, tree_in}
use Rattle.nfs_inodes.specs.Storage.{file_of, kind_of, HasRoom, counted_tree_of}
use Rattle.nfs_inodes.specs.StoredFiles.{Revalues}

-- the file under a number takes an entry with no growth
abbrev pub HasRoomAt : NumberedFiles StoredFile → ℕ → Type 0
HasRoomAt files d = (i : StoredFile) → value_at files d ≡ Some i → HasRoom i

-- number d is that of a file with so many links and more
pub record LosesEntry (files : NumberedFiles StoredFile) (d links : ℕ) : Type 0 where
  pub dir : TaggedFile StoredFile
  pub at_dir : at files d ≡ Some dir
  pub nlink : links ≤ dir.value.nlink

-- a directory without the entry of a name, and so many links less
pub record Leaves (name : List ℕ) (links : ℕ) (now : Moment) (old new : StoredFile) : Type 0 where
  pub file : file_of 0 new ≡ left (file_of 0 old) name now
  pub nlink : new.nlink + links ≡ old.nlink
  pub room : HasRoom old → HasRoom new

-- a file with one entry has no other
abbrev pub is_last : StoredFile → Bool
is_last i = is_directory (kind_of i.node) || nat_le i.nlink 1

-- what is known of the file that is kept under number n
pub record Stands (files : NumberedFiles StoredFile) (n : ℕ) (file : Standing) : Type 0 where
  pub directory : file.directory ≡ on_some (value_at files n) false (λ f. is_directory (kind_of f.node))
  pub last : file.last ≡ on_some (value_at files n) true is_last

-- number n is that of a file whose last entry has gone, or that has another
abbrev pub HasEntries : Bool → NumberedFiles StoredFile → ℕ → Type 0
HasEntries last files n = (file : TaggedFile StoredFile) × (at files n ≡ Some file) × (is_last file.value ≡ last)

-- file n has gone, and gives this back
pub record Goes (old : NumberedFiles StoredFile) (n : ℕ) (freed : Freed) (new : NumberedFiles StoredFile) : Type 0 where
  pub file : TaggedFile StoredFile
  pub at_file : at old n ≡ Some file
  pub last : is_last file.value ≡ true
  pub new_is : new ≡ without old n
  pub index : freed.volume ≡ file.value.volume
  pub bytes : freed.bytes ≡ length (bytes_in (file_of 0 file.value).kind)
  pub files : freed.files ≡ 1

-- a file with a link less
pub record LosesLink (now : Moment) (old new : StoredFile) : Type 0 where
  pub file : file_of 0 new ≡ record (file_of 0 old) { ctime = now }
  pub nlink : new.nlink + 1 ≡ old.nlink
  pub room : HasRoom old → HasRoom new

-- file n has another entry, and gives nothing back
pub record Stays (old : NumberedFiles StoredFile) (n : ℕ) (now : Moment) (freed : Freed) (new : NumberedFiles StoredFile) : Type 0 where
  pub loses : Revalues old n (LosesLink now) new
  pub more : is_last loses.was.value ≡ false
  pub index : freed.volume ≡ loses.was.value.volume
  pub bytes : freed.bytes ≡ 0
  pub files : freed.files ≡ 0

-- the totals of the volume of this index have so many bytes and files
pub record HasTotals (stored_volumes : List StoredVolume) (index bytes files : ℕ) : Type 0 where
  pub stored_volume : StoredVolume
  pub at_index : slice_get stored_volumes index ≡ Some stored_volume
  pub has_bytes : bytes ≤ stored_volume.bytes
  pub has_files : files ≤ stored_volume.files

-- what is kept agrees with the tree, whose directory d may lose the entry of a name, which names file n
pub record Removes (limits : Limits) (files : NumberedFiles StoredFile) (stored_volumes : List StoredVolume) (d : ℕ) (name : List ℕ) (n : ℕ) : Type 0 where
  pub agree : Agrees (counted_tree_of limits files stored_volumes)
  pub may : MayUnlink (tree_in (counted_tree_of limits files stored_volumes)) d name
  pub number : n ≡ may.entry.number
