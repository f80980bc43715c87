-- The tree of files (RFC 1813, section 2.6), however it is kept: files by their numbers, and what is counted of them.
use Rattle.std.specs.Prelude.{ℕ, ◌+◌, Bool, true, false, List, [], length, sum_by, nat_eq, Option, Some, None, if◌then◌else◌}
use Rattle.std.specs.Map.{lookup, set_value, remove_entry}
use Rattle.nfs_attrs.specs.declared.moment.Moment.{Moment}
use Rattle.nfs_inodes.specs.declared.limits.Limits.{Limits}
pub use Rattle.nfs_entries.specs.Listing.{Entry}

-- what a file is: its bytes; its parent, its next cookie and its entries; or a path
pub data Kind : Type 0 where
  Regular : (bytes : List ℕ) → Kind
  Directory : (parent next_cookie : ℕ) (entries : List Entry) → Kind
  Link : (path : List ℕ) → Kind

pub record File : Type 0 where
  -- the index of its volume, from 0
  pub volume : ℕ
  pub kind : Kind
  pub mode : ℕ
  pub uid : ℕ
  pub gid : ℕ
  pub atime : Moment
  pub mtime : Moment
  pub ctime : Moment
  pub tag : ℕ
  -- that of the exclusive CREATE that made it
  pub verifier : Option (List ℕ)

-- a volume: its path, how many bytes and files it may have, and its root
pub record Volume : Type 0 where
  pub path : List ℕ
  pub max_bytes : ℕ
  pub max_files : ℕ
  pub root : ℕ

pub record Tree : Type 0 where
  -- by rising number
  pub files : List (ℕ × File)
  -- the number that the next new file takes
  pub next : ℕ
  pub key : List ℕ
  pub volumes : List Volume
  pub limits : Limits

-- the value under a number
abbrev pub at : {X : Type 0} → ℕ → List (ℕ × X) → Option X
at n files = lookup (nat_eq n) files

-- the same with another value under a number that has one
abbrev pub with_at : {X : Type 0} → ℕ → X → List (ℕ × X) → List (ℕ × X)
with_at n x files = set_value (nat_eq n) files x

-- the same without the number
abbrev pub without_at : {X : Type 0} → ℕ → List (ℕ × X) → List (ℕ × X)
without_at n files = remove_entry (nat_eq n) files

abbrev pub on_some : {X Y : Type 0} → Option X → Y → (X → Y) → Y
on_some None y f = y
on_some (Some x) y f = f x

abbrev pub is_directory : Kind → Bool
is_directory (Regular bytes) = false
is_directory (Directory parent next_cookie entries) = true
is_directory (Link path) = false

abbrev pub is_regular : Kind → Bool
is_regular (Regular bytes) = true
is_regular (Directory parent next_cookie entries) = false
is_regular (Link path) = false

abbrev pub entries_in : Kind → List Entry
entries_in (Regular bytes) = []
entries_in (Directory parent next_cookie entries) = entries
entries_in (Link path) = []

abbrev pub parent_in : Kind → ℕ
parent_in (Regular bytes) = 0
parent_in (Directory parent next_cookie entries) = parent
parent_in (Link path) = 0

abbrev pub next_cookie_in : Kind → ℕ
next_cookie_in (Regular bytes) = 0
next_cookie_in (Directory parent next_cookie entries) = next_cookie
next_cookie_in (Link path) = 0

abbrev pub bytes_in : Kind → List ℕ
bytes_in (Regular bytes) = bytes
bytes_in (Directory parent next_cookie entries) = []
bytes_in (Link path) = []

abbrev pub path_in : Kind → List ℕ
path_in (Regular bytes) = []
path_in (Directory parent next_cookie entries) = []
path_in (Link path) = path

-- 1 where it is so
abbrev pub one_when : Bool → ℕ
one_when true = 1
one_when false = 0

-- ---- names and links

-- how many of the entries name file n
abbrev pub names_in : ℕ → List Entry → ℕ
names_in n entries = sum_by (λ e. one_when (nat_eq e.number n)) entries

-- how many entries of all directories name file n
abbrev pub names_of : ℕ → List (ℕ × File) → ℕ
names_of n files = sum_by (λ e. names_in n (entries_in e.1.kind)) files

-- whether an entry names a directory
abbrev pub names_directory : List (ℕ × File) → Entry → Bool
names_directory files e = on_some (at e.number files) false (λ f. is_directory f.kind)

-- how many of the entries name directories
abbrev pub subdirectories : List (ℕ × File) → List Entry → ℕ
subdirectories files entries = sum_by (λ e. one_when (names_directory files e)) entries

-- the entries that name a file; for a directory, which has `.` and is `..` of each subdirectory, 2 and those
abbrev pub nlink : List (ℕ × File) → ℕ → File → ℕ
nlink files n f = if is_directory f.kind then 2 + subdirectories files (entries_in f.kind) else names_of n files

-- ---- the totals of a volume

-- the file counts for its volume so many bytes, and itself
abbrev pub bytes_for : ℕ → File → ℕ
bytes_for index f = if nat_eq f.volume index then length (bytes_in f.kind) else 0

abbrev pub one_for : ℕ → File → ℕ
one_for index f = one_when (nat_eq f.volume index)

-- how many bytes the regular files of a volume have
abbrev pub bytes_of : ℕ → List (ℕ × File) → ℕ
bytes_of index files = sum_by (λ e. bytes_for index e.1) files

-- how many files a volume has, its root too
abbrev pub files_of : ℕ → List (ℕ × File) → ℕ
files_of index files = sum_by (λ e. one_for index e.1) files
