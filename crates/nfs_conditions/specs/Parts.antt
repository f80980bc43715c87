-- The parts of conditions, each of which is tested by itself.
use Rattle.std.specs.Prelude.{◌≡◌, ◌≢◌, ℕ, ◌+◌, ◌-◌, ◌<◌, ◌≤◌, ◌^◌, Bool, true, false, nat_le, List, Some, None, slice_get}
use Rattle.nfs_attrs.specs.declared.fattr.Fattr.{Fattr}
use Rattle.nfs_inodes.specs.declared.limits.Limits.{Limits}
use Rattle.nfs_inodes.specs.Tree.{Tree, File, Entry, Volume, at, on_some, is_directory, next_cookie_in, nlink, bytes_of}
use Rattle.nfs_inodes.specs.Law.{IsName, Lives, LivesAsDirectory}
use Rattle.nfs_inodes.specs.Conditions.{MayReplace, IsOff}
use Rattle.nfs_inodes.specs.Reading.{entry_at, is_regular_type, totals_at}

-- ---- bytes

-- a file is regular, and so many bytes at an offset, if any, are within the limit
abbrev pub TakesBytes : Limits → Fattr → ℕ → ℕ → Type 0
TakesBytes limits f offset count = (is_regular_type f.file_type ≡ true) × (0 < count → offset + count ≤ limits.file_size)

-- whether the volume of this index may have so many bytes more
abbrev pub has_space : Tree → ℕ → ℕ → Bool
has_space t index bytes = on_some (slice_get t.volumes index) false
    (λ volume. on_some (totals_at t index) false (λ totals. nat_le (totals.bytes + bytes) volume.max_bytes))

-- the same of what is counted
pub record HasSpace (t : Tree) (index bytes : ℕ) : Type 0 where
  pub volume : Volume
  pub at_volume : slice_get t.volumes index ≡ Some volume
  pub fits : bytes_of index t.files + bytes ≤ volume.max_bytes

-- ---- an entry that goes to another name

-- whether file n is a directory
abbrev pub is_directory_at : Tree → ℕ → Bool
is_directory_at t n = on_some (at n t.files) false (λ f. is_directory f.kind)

-- file n is a directory of the volume with this id
pub record IsDirectoryIn (t : Tree) (n fsid : ℕ) : Type 0 where
  pub dir : File
  pub at_dir : LivesAsDirectory t n dir
  pub volume : fsid ≡ dir.volume + 1

-- file n lives, and d is a directory of its volume
pub record IsNear (t : Tree) (n d : ℕ) : Type 0 where
  pub file : File
  pub at_file : Lives t n file
  pub directory : IsDirectoryIn t d (file.volume + 1)

-- directory d has a cookie left for an entry
abbrev pub HasCookieLeft : Tree → ℕ → Type 0
HasCookieLeft t d = (dir : File) → LivesAsDirectory t d dir → next_cookie_in dir.kind < 2 ^ 64 - 1

-- where file n is a directory, neither directory d nor any above it is n
abbrev pub IsOffDirectory : Tree → ℕ → ℕ → Type 0
IsOffDirectory t d n = (file : File) → LivesAsDirectory t n file → IsOff t d n

-- directory d may have a link more
abbrev pub MayHaveLink : Tree → ℕ → Type 0
MayHaveLink t d = (dir : File) → Lives t d dir → nlink t.files d dir < t.limits.links

-- directory d may have a link more where file n of directory from, a directory, comes into another
abbrev pub HasLinkFor : Tree → ℕ → ℕ → ℕ → Type 0
HasLinkFor t n from d = d ≢ from → is_directory_at t n ≡ true → MayHaveLink t d

-- file n may take the place of file old
abbrev pub ReplacesFile : Tree → ℕ → ℕ → Type 0
ReplacesFile t old n = (file : File) → Lives t n file → MayReplace t old file

-- file n may come into directory d
pub record MayArrive (t : Tree) (n d : ℕ) : Type 0 where
  pub cookie : HasCookieLeft t d
  pub off : IsOffDirectory t d n

-- file n may have a name of file old in directory to: it is the same file, or may take its place
abbrev pub MayGoOver : Tree → ℕ → ℕ → ℕ → Type 0
MayGoOver t n old to = old ≢ n → ReplacesFile t old n × MayArrive t n to

-- file n of directory from may have a name in directory to that is free
abbrev pub MayGoTo : Tree → ℕ → ℕ → ℕ → Type 0
MayGoTo t n from to = HasLinkFor t n from to × MayArrive t n to

-- file n of directory from may have this name in directory to
pub record MayGo (t : Tree) (n from to : ℕ) (name : List ℕ) : Type 0 where
  pub is_name : IsName name
  pub near : IsNear t n to
  pub over : (old : Entry) → entry_at t to name ≡ Some old → MayGoOver t n old.number to
  pub free : entry_at t to name ≡ None → MayGoTo t n from to
