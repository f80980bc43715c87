-- What the tree's own steps need.
use Rattle.std.specs.Prelude.{◌≡◌, ℕ, ◌≢◌, ◌+◌, ◌-◌, ◌<◌, ◌≤◌, ◌^◌, All, true, false, List, [], Some, slice_get, length, if◌then◌else◌}
use Rattle.nfs_inodes.specs.declared.limits.Limits.{Limits}
use Rattle.nfs_inodes.specs.declared.stored_file.StoredFile.{StoredFile}
use Rattle.nfs_inodes.specs.declared.stored_volume.StoredVolume.{StoredVolume}
use Rattle.nfs_inodes.specs.Tree.{Tree, File, Kind, is_directory, entries_in, parent_in, next_cookie_in}
use Rattle.nfs_inodes.specs.Tree.{path_in, names_of, nlink, bytes_in, Volume, bytes_of, files_of}
use Rattle.nfs_inodes.specs.Conditions.{MayMake, IsNew}
use Rattle.nfs_inodes.specs.Storage.{file_of, kind_of}
use Rattle.nfs_inodes.specs.Law.{IsName, Lives}

-- the file with this tag
abbrev pub retagged : File → ℕ → File
retagged f tag = record f { tag = tag }

-- a new file may be added to directory d under a name
pub record MayAdd (t : Tree) (d : ℕ) (name : List ℕ) (stored_file : StoredFile) : Type 0 where
  pub may : MayMake t d name (length (bytes_in (file_of 0 stored_file).kind))
  pub is_new : IsNew t.limits d (length (bytes_in (file_of 0 stored_file).kind)) may.enter.dir (file_of 0 stored_file)
  pub links : is_directory (file_of 0 stored_file).kind ≡ true → nlink t.files d may.enter.dir < t.limits.links
  pub nlink : stored_file.nlink ≡ (if is_directory (file_of 0 stored_file).kind then 2 else 1)

-- what a new file of so many bytes in directory d is
pub record IsFresh (limits : Limits) (d size : ℕ) (k : Kind) : Type 0 where
  pub empty : entries_in k ≡ []
  pub bytes : length (bytes_in k) ≡ size
  pub path : length (path_in k) ≤ limits.link_path
  pub parent : is_directory k ≡ true → parent_in k ≡ d
  pub next_cookie : is_directory k ≡ true → 3 ≤ next_cookie_in k

-- a new file that is this may be added to directory d under a name
pub record MayAddKind (t : Tree) (d : ℕ) (name : List ℕ) (k : Kind) : Type 0 where
  pub may : MayMake t d name (length (bytes_in k))
  pub fresh : IsFresh t.limits d (length (bytes_in k)) k
  pub links : is_directory k ≡ true → nlink t.files d may.enter.dir < t.limits.links

-- the totals of the volume of this index take so many bytes and files more
pub record HasRoomFor (stored_volumes : List StoredVolume) (index bytes files : ℕ) : Type 0 where
  pub stored_volume : StoredVolume
  pub at_index : slice_get stored_volumes index ≡ Some stored_volume
  pub bytes_fit : stored_volume.bytes + bytes < 2 ^ 64
  pub files_fit : stored_volume.files + files < 2 ^ 64

-- the bytes in the totals of the volume of this index can become so many less and so many more
pub record HasBytes (stored_volumes : List StoredVolume) (index less more : ℕ) : Type 0 where
  pub stored_volume : StoredVolume
  pub at_index : slice_get stored_volumes index ≡ Some stored_volume
  pub has : less ≤ stored_volume.bytes
  pub fits : stored_volume.bytes - less + more < 2 ^ 64

-- a kept file is a directory that takes an entry of this name
pub record TakesName (stored_file : StoredFile) (name : List ℕ) : Type 0 where
  pub directory : is_directory (kind_of stored_file.node) ≡ true
  pub cookie : next_cookie_in (kind_of stored_file.node) < 2 ^ 64 - 1
  pub is_name : IsName name
  pub fresh : All (λ e. e.name ≢ name) (entries_in (kind_of stored_file.node))

-- a kept file is no directory, is in the volume of this index, and may have a link more
abbrev pub TakesLinkIn : Limits → StoredFile → ℕ → Type 0
TakesLinkIn limits f index = (is_directory (kind_of f.node) ≡ false) × (f.volume ≡ index) × (f.nlink < limits.links)

-- the volume of this index may have one file more, with so many bytes
pub record HasRoomIn (t : Tree) (index size : ℕ) : Type 0 where
  pub volume : Volume
  pub at_volume : slice_get t.volumes index ≡ Some volume
  pub files : files_of index t.files < volume.max_files
  pub bytes : bytes_of index t.files + size ≤ volume.max_bytes

-- a new file of so many bytes may have an entry of this name in a kept file, a directory
pub record TakesFile (t : Tree) (stored_file : StoredFile) (name : List ℕ) (size : ℕ) : Type 0 where
  pub entry : TakesName stored_file name
  pub number : t.next < 2 ^ 64 - 1
  pub room : HasRoomIn t stored_file.volume size
  pub large : size ≤ t.limits.file_size

-- file n is no directory, is in the volume of this index, and may have a link more
pub record MayGainLink (t : Tree) (n index : ℕ) : Type 0 where
  pub file : File
  pub at_file : Lives t n file
  pub not_directory : is_directory file.kind ≡ false
  pub volume : file.volume ≡ index
  pub links : names_of n t.files < t.limits.links
