-- What has to hold before an operation, beside memory.
use Rattle.std.specs.Prelude.{◌≡◌, ◌≢◌, ◌⊎◌, ℕ, ◌+◌, ◌-◌, ◌<◌, ◌≤◌, ◌^◌, ◌||◌, nat_le, true, false, List, [], length, Some, None, option_map, All, slice_get}
use Rattle.nfs_handles.specs.declared.number.Number.{Number}
use Rattle.nfs_inodes.specs.declared.removal.Standing.{Standing}
use Rattle.nfs_inodes.specs.declared.renaming.Route.{Route}
use Rattle.nfs_inodes.specs.Limits.{max_volumes, max_volume_bytes, max_volume_path_bytes}
use Rattle.nfs_inodes.specs.declared.limits.Limits.{Limits}
use Rattle.nfs_inodes.specs.Reading.{entry_named, entry_at}
use Rattle.nfs_inodes.specs.Tree.{Tree, File, Entry, Volume, is_directory, is_regular, parent_in, entries_in, next_cookie_in, bytes_in}
use Rattle.nfs_inodes.specs.Tree.{names_of, nlink, bytes_of, files_of}
use Rattle.nfs_inodes.specs.Law.{IsName, IsSound, Lives, LivesAsDirectory, climb}

-- directory d takes an entry of this name
pub record MayEnter (t : Tree) (d : ℕ) (name : List ℕ) : Type 0 where
  pub dir : File
  pub at_dir : LivesAsDirectory t d dir
  pub cookie : next_cookie_in dir.kind < 2 ^ 64 - 1
  pub is_name : IsName name
  pub fresh : All (λ e. e.name ≢ name) (entries_in dir.kind)

-- and a new file with so many bytes under it
pub record MayMake (t : Tree) (d : ℕ) (name : List ℕ) (size : ℕ) : Type 0 where
  pub enter : MayEnter t d name
  pub number : t.next < 2 ^ 64 - 1
  pub volume : Volume
  pub at_volume : slice_get t.volumes enter.dir.volume ≡ Some volume
  pub files : files_of enter.dir.volume t.files < volume.max_files
  pub bytes : bytes_of enter.dir.volume t.files + size ≤ volume.max_bytes
  pub large : size ≤ t.limits.file_size

-- and a new directory, which is a link more for it
pub record MayMakeDirectory (t : Tree) (d : ℕ) (name : List ℕ) : Type 0 where
  pub make : MayMake t d name 0
  pub links : nlink t.files d make.enter.dir < t.limits.links

-- and a link with this path
pub record MayMakeLink (t : Tree) (d : ℕ) (name path : List ℕ) : Type 0 where
  pub make : MayMake t d name 0
  pub long : length path ≤ t.limits.link_path

-- directory d takes an entry of this name for file n of its volume, which is no directory
pub record MayLink (t : Tree) (n d : ℕ) (name : List ℕ) : Type 0 where
  pub enter : MayEnter t d name
  pub file : File
  pub at_file : Lives t n file
  pub not_directory : is_directory file.kind ≡ false
  pub volume : file.volume ≡ enter.dir.volume
  pub links : names_of n t.files < t.limits.links

-- file n is regular, and it and its volume have room for so many bytes at an offset; no bytes need none
pub record MayWrite (t : Tree) (n offset count : ℕ) : Type 0 where
  pub file : File
  pub at_file : Lives t n file
  pub regular : is_regular file.kind ≡ true
  pub large : 0 < count → offset + count ≤ t.limits.file_size
  pub volume : Volume
  pub at_volume : slice_get t.volumes file.volume ≡ Some volume
  pub room : 0 < count → bytes_of file.volume t.files + (offset + count - length (bytes_in file.kind)) ≤ volume.max_bytes

-- so many bytes at an offset reach beyond the end of file n
pub record Grows (t : Tree) (n offset count : ℕ) : Type 0 where
  pub some : 0 < count
  pub file : File
  pub at_file : Lives t n file
  pub beyond : length (bytes_in file.kind) < offset + count

-- file n is regular, and it and its volume have room for so many bytes in all
pub record MayResize (t : Tree) (n size : ℕ) : Type 0 where
  pub file : File
  pub at_file : Lives t n file
  pub regular : is_regular file.kind ≡ true
  pub large : size ≤ t.limits.file_size
  pub volume : Volume
  pub at_volume : slice_get t.volumes file.volume ≡ Some volume
  pub room : bytes_of file.volume t.files + (size - length (bytes_in file.kind)) ≤ volume.max_bytes

-- directory d has an entry of this name, for a file that is no directory with entries
pub record MayUnlink (t : Tree) (d : ℕ) (name : List ℕ) : Type 0 where
  pub dir : File
  pub at_dir : LivesAsDirectory t d dir
  pub entry : Entry
  pub found : entry_named name (entries_in dir.kind) ≡ Some entry
  pub file : File
  pub at_file : Lives t entry.number file
  pub empty : entries_in file.kind ≡ []

-- the same, and the entry names file n, of which this is known
pub record MayUnlinkSeen (t : Tree) (d : ℕ) (name : List ℕ) (n : ℕ) (file : Standing) : Type 0 where
  pub may : MayUnlink t d name
  pub number : n ≡ may.entry.number
  pub directory : file.directory ≡ is_directory may.file.kind
  pub last : file.last ≡ (is_directory may.file.kind || nat_le (nlink t.files n may.file) 1)

-- neither a directory nor any above it is n
abbrev pub IsOff : Tree → ℕ → ℕ → Type 0
IsOff t d n = (steps : ℕ) → climb steps t.files d ≢ n

-- The entry of a name in directory from may go to a new name in directory to, which no entry there has.
pub record MayCarry (t : Tree) (from : ℕ) (name : List ℕ) (to : ℕ) (new_name : List ℕ) : Type 0 where
  pub source : File
  pub at_source : LivesAsDirectory t from source
  pub entry : Entry
  pub found : entry_named name (entries_in source.kind) ≡ Some entry
  pub file : File
  pub at_file : Lives t entry.number file
  pub target : File
  pub at_target : LivesAsDirectory t to target
  pub volume : file.volume ≡ target.volume
  pub is_name : IsName new_name
  pub fresh : All (λ e. e.name ≢ new_name) (entries_in target.kind)
  pub cookie : next_cookie_in target.kind < 2 ^ 64 - 1
  pub off : is_directory file.kind ≡ true → IsOff t to entry.number
  pub links : is_directory file.kind ≡ true → (to ≡ from) ⊎ (nlink t.files to target < t.limits.links)

-- a name in directory d is not that of file n
abbrev pub NamesOther : Tree → ℕ → List ℕ → ℕ → Type 0
NamesOther t d name n = (old : Entry) → entry_at t d name ≡ Some old → old.number ≢ n

-- two names are not those of one file
abbrev pub NameApart : Tree → ℕ → List ℕ → ℕ → List ℕ → Type 0
NameApart t from name to new_name = (e : Entry) → entry_at t from name ≡ Some e → NamesOther t to new_name e.number

-- a file may take the place of file n: both are directories, file n without entries, or neither is
pub record MayReplace (t : Tree) (n : ℕ) (file : File) : Type 0 where
  pub replaced : File
  pub at_replaced : Lives t n replaced
  pub alike : is_directory replaced.kind ≡ is_directory file.kind
  pub empty : entries_in replaced.kind ≡ []

-- The entry of a name in directory from may go to another name in directory to of the same volume. Where the
-- new name names another file that one may be replaced; a directory goes neither into itself nor below
-- itself; and a directory more is a link more for the one that takes it.
pub record MayRename (t : Tree) (from : ℕ) (name : List ℕ) (to : ℕ) (new_name : List ℕ) : Type 0 where
  pub source : File
  pub at_source : LivesAsDirectory t from source
  pub entry : Entry
  pub found : entry_named name (entries_in source.kind) ≡ Some entry
  pub file : File
  pub at_file : Lives t entry.number file
  pub target : File
  pub at_target : LivesAsDirectory t to target
  pub volume : file.volume ≡ target.volume
  pub is_name : IsName new_name
  pub cookie : NamesOther t to new_name entry.number → next_cookie_in target.kind < 2 ^ 64 - 1
  pub replaced : (old : Entry) → entry_named new_name (entries_in target.kind) ≡ Some old → old.number ≢ entry.number → MayReplace t old.number file
  pub off : NamesOther t to new_name entry.number → is_directory file.kind ≡ true → IsOff t to entry.number
  pub links : entry_named new_name (entries_in target.kind) ≡ None → is_directory file.kind ≡ true → (to ≡ from) ⊎ (nlink t.files to target < t.limits.links)

-- the same, where the file that the old name names, and that which the new one names, if it names one, are known
pub record MayRenameSeen (t : Tree) (route : Route) (name new_name : List ℕ) : Type 0 where
  pub may : MayRename t route.from.0 name route.to.0 new_name
  pub found : Some route.number.0 ≡ option_map (λ (e : Entry). e.number) (entry_at t route.from.0 name)
  pub names : option_map (λ (n : Number). n.0) route.replaced ≡ option_map (λ (e : Entry). e.number) (entry_at t route.to.0 new_name)

-- a volume more, of a path that no volume has
pub record MayAddVolume (t : Tree) (path : List ℕ) (max_bytes max_files : ℕ) : Type 0 where
  pub few : length t.volumes < max_volumes
  pub short : length path ≤ max_volume_path_bytes
  pub fresh : All (λ v. v.path ≢ path) t.volumes
  pub number : t.next < 2 ^ 64 - 1
  pub bytes : max_bytes ≤ max_volume_bytes
  pub files : 1 ≤ max_files
  pub many : max_files ≤ t.limits.files

-- what a new file in directory d is like, before it has a name
pub record IsNew (limits : Limits) (d size : ℕ) (dir f : File) : Type 0 where
  pub tag : f.tag < 2 ^ 32
  pub sound : IsSound limits f
  pub volume : f.volume ≡ dir.volume
  pub empty : entries_in f.kind ≡ []
  pub bytes : length (bytes_in f.kind) ≡ size
  pub parent : is_directory f.kind ≡ true → parent_in f.kind ≡ d
