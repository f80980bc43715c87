-- What is done to the kept files of a tree.
use Rattle.std.specs.Prelude.{◌≡◌, ℕ, ◌≢◌, ◌+◌, ◌-◌, ◌<◌, ◌≤◌, ◌^◌, true, List, [], ◌∷◌, ◌++◌, length, Some, None}
use Rattle.nfs_attrs.specs.declared.moment.Moment.{Moment}
use Rattle.nfs_handles.specs.NumberedFiles.{NumberedFiles, TaggedFile, at, value_at, with_value}
use Rattle.nfs_handles.specs.Tags.{IsNextTag}
use Rattle.nfs_inodes.specs.Limits.{max_file_bytes, max_links}
use Rattle.nfs_inodes.specs.declared.given_attributes.GivenAttributes.{GivenAttributes}
use Rattle.nfs_inodes.specs.declared.stored_file.StoredFile.{StoredFile}
use Rattle.nfs_inodes.specs.Reading.{entry_named}
use Rattle.nfs_inodes.specs.Tree.{with_at, one_when, is_directory, is_regular, bytes_in, entries_in, next_cookie_in}
use Rattle.nfs_inodes.specs.declared.stored_files.Growth.{Growth}
use Rattle.nfs_inodes.specs.Changes.{entered, file_with_bytes, resized_to, with_given}
use Rattle.nfs_inodes.specs.Storage.{file_of, kind_of, counted_file_of, counted_files}

-- number d is that of a directory, which takes an entry more
pub record TakesEntry (files : NumberedFiles StoredFile) (d : ℕ) : Type 0 where
  pub dir : TaggedFile StoredFile
  pub at_dir : at files d ≡ Some dir
  pub is_dir : is_directory (file_of 0 dir.value).kind ≡ true
  pub next_cookie : next_cookie_in (file_of 0 dir.value).kind + 1 < 2 ^ 64
  pub nlink : dir.value.nlink ≤ max_links
  pub below : d < files.next

-- no entry of directory d has this name
abbrev pub HasNoEntry : NumberedFiles StoredFile → ℕ → List ℕ → Type 0
HasNoEntry files d name = (dir : StoredFile) → value_at files d ≡ Some dir → entry_named name (entries_in (kind_of dir.node)) ≡ None

-- of the file under a number the kept value has changed, from one to another
pub record Revalues (old : NumberedFiles StoredFile) (n : ℕ) (From : StoredFile → StoredFile → Type 0) (new : NumberedFiles StoredFile) : Type 0 where
  pub was : TaggedFile StoredFile
  pub at_was : at old n ≡ Some was
  pub value : StoredFile
  pub from : From was.value value
  pub new_is : new ≡ with_value old n value

-- the same file with the same links, whatever room there is
pub record SameFile (old new : StoredFile) : Type 0 where
  pub file : file_of 0 new ≡ file_of 0 old
  pub nlink : new.nlink ≡ old.nlink

-- a directory with one entry more
pub record Enters (name : List ℕ) (number : ℕ) (links : ℕ) (now : Moment) (old new : StoredFile) : Type 0 where
  pub file : file_of 0 new ≡ entered (file_of 0 old) name number now
  pub nlink : new.nlink ≡ old.nlink + links

-- a new file, of the next tag, with its entry in directory d
pub record AddsFile (old : NumberedFiles StoredFile) (d : ℕ) (name : List ℕ) (stored_file : StoredFile) (now : Moment) (new : NumberedFiles StoredFile) : Type 0 where
  pub tag : ℕ
  pub tag_is : IsNextTag old tag
  pub dir : TaggedFile StoredFile
  pub at_dir : at old d ≡ Some dir
  pub value : StoredFile
  pub enters : Enters name old.next (one_when (is_directory (file_of 0 stored_file).kind)) now dir.value value
  pub files : counted_files new.files ≡ with_at d (counted_file_of dir.tag value) (counted_files old.files ++ (old.next, counted_file_of tag stored_file) ∷ [])
  pub next : new.next ≡ old.next + 1
  pub key : new.key ≡ old.key

-- nothing of what is kept for clients has changed
pub record SameFiles (old new : NumberedFiles StoredFile) : Type 0 where
  pub files : counted_files new.files ≡ counted_files old.files
  pub next : new.next ≡ old.next
  pub key : new.key ≡ old.key

-- ---- links

-- number n is that of a file other than d, which takes a link more
pub record TakesLink (files : NumberedFiles StoredFile) (n d : ℕ) : Type 0 where
  pub file : TaggedFile StoredFile
  pub at_file : at files n ≡ Some file
  pub nlink : file.value.nlink ≤ max_links
  pub other : d ≢ n

pub record GainsLink (now : Moment) (old new : StoredFile) : Type 0 where
  pub file : file_of 0 new ≡ record (file_of 0 old) { ctime = now }
  pub nlink : new.nlink ≡ old.nlink + 1

-- file n has a link more, and directory d an entry more, which names it
pub record LinksFile (old : NumberedFiles StoredFile) (n d : ℕ) (name : List ℕ) (now : Moment) (new : NumberedFiles StoredFile) : Type 0 where
  pub file : TaggedFile StoredFile
  pub at_file : at old n ≡ Some file
  pub file_now : StoredFile
  pub gains : GainsLink now file.value file_now
  pub dir : TaggedFile StoredFile
  pub at_dir : at old d ≡ Some dir
  pub dir_now : StoredFile
  pub enters : Enters name n 0 now dir.value dir_now
  pub files : counted_files new.files ≡ with_at d (counted_file_of dir.tag dir_now) (with_at n (counted_file_of file.tag file_now) (counted_files old.files))
  pub next : new.next ≡ old.next
  pub key : new.key ≡ old.key

-- ---- bytes

-- number n is that of a regular file, which takes so many bytes at an offset
pub record TakesBytes (files : NumberedFiles StoredFile) (n offset count : ℕ) : Type 0 where
  pub file : TaggedFile StoredFile
  pub at_file : at files n ≡ Some file
  pub regular : is_regular (file_of 0 file.value).kind ≡ true
  pub large : offset + count ≤ max_file_bytes

-- file n ends before this offset
pub record TakesGrowth (files : NumberedFiles StoredFile) (n end : ℕ) : Type 0 where
  pub file : TaggedFile StoredFile
  pub at_file : at files n ≡ Some file
  pub beyond : length (bytes_in (file_of 0 file.value).kind) < end

-- a file with these bytes at the offset, which has grown by so many
pub record Writes (offset : ℕ) (bytes : List ℕ) (growth : Growth) (now : Moment) (old new : StoredFile) : Type 0 where
  pub file : file_of 0 new ≡ file_with_bytes (file_of 0 old) offset bytes now
  pub nlink : new.nlink ≡ old.nlink
  pub index : growth.volume ≡ old.volume
  pub grown : growth.bytes ≡ offset + length bytes - length (bytes_in (file_of 0 old).kind)

-- number n is that of a regular file, which takes a size
pub record TakesSize (files : NumberedFiles StoredFile) (n size : ℕ) : Type 0 where
  pub file : TaggedFile StoredFile
  pub at_file : at files n ≡ Some file
  pub regular : is_regular (file_of 0 file.value).kind ≡ true
  pub large : size ≤ max_file_bytes

-- a file of another size
pub record Resizes (was size : ℕ) (now : Moment) (old new : StoredFile) : Type 0 where
  pub file : file_of 0 new ≡ resized_to (file_of 0 old) size now
  pub nlink : new.nlink ≡ old.nlink
  pub size_was : was ≡ length (bytes_in (file_of 0 old).kind)

-- ---- attributes

-- a file lives under number n
pub record IsThere (files : NumberedFiles StoredFile) (n : ℕ) : Type 0 where
  pub file : TaggedFile StoredFile
  pub at_file : at files n ≡ Some file

-- the same file with the attributes that are given
pub record SetsAttributes (given : GivenAttributes) (now : Moment) (old new : StoredFile) : Type 0 where
  pub file : file_of 0 new ≡ with_given (file_of 0 old) given now
  pub nlink : new.nlink ≡ old.nlink
