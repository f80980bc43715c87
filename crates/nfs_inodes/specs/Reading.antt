-- What is read of the tree.
use Rattle.std.specs.Prelude.{ℕ, ◌+◌, Bool, true, false, List, [], ◌∷◌, length, nat_lt, bytes_eq, Option, Some, None, option_map}
use Rattle.std.specs.Prelude.{slice_get, map, if◌then◌else◌}
use Rattle.std.specs.List.{find}
use Rattle.nfs_attrs.specs.declared.fattr.Fattr.{Fattr}
use Rattle.nfs_attrs.specs.declared.file_type.FileType.{FileType}
use Rattle.nfs_attrs.specs.declared.file_type.FileType.TheVariants as file_type
pub use Rattle.nfs_content.specs.Bytes.{IsFirstChunk}
pub use Rattle.nfs_entries.specs.Listing.{has_name, entry_named, number_named, entries_beyond}
use Rattle.nfs_handles.specs.NumberedFiles.{NumberedFiles}
use Rattle.nfs_inodes.specs.declared.volumes.Totals.{Totals}
use Rattle.nfs_inodes.specs.Tree.{Tree, File, Kind, Entry, Volume, Regular, Directory, Link, at, on_some, entries_in, bytes_in, nlink, bytes_of, files_of}

-- ---- directories

-- the names `.` and `..`
abbrev pub dot : List ℕ
dot = 46 ∷ []

abbrev pub dot_dot : List ℕ
dot_dot = 46 ∷ 46 ∷ []

-- what directory d lists: itself, its parent, and its entries (RFC 1813, section 3.3.16)
abbrev pub listing : ℕ → Kind → List Entry
listing d (Regular bytes) = []
listing d (Directory parent next_cookie entries) = record { cookie = 1; name = dot; number = d }
    ∷ record { cookie = 2; name = dot_dot; number = parent } ∷ entries
listing d (Link path) = []

abbrev pub listing_at : Tree → ℕ → List Entry
listing_at t d = on_some (at d t.files) [] (λ f. listing d f.kind)

-- the first of some entries after a cookie
abbrev pub first_after : ℕ → List Entry → Option Entry
first_after cookie es = find (λ e. nat_lt cookie e.cookie) es

-- the number under a name in directory d
abbrev pub number_under : Tree → ℕ → List ℕ → Option ℕ
number_under t d name = number_named name (listing_at t d)

-- the entry of a name in directory d, which is neither `.` nor `..`
abbrev pub entry_at : Tree → ℕ → List ℕ → Option Entry
entry_at t d name = on_some (at d t.files) None (λ f. entry_named name (entries_in f.kind))

-- the entries of directory d; of another file none
abbrev pub entries_at : Tree → ℕ → List Entry
entries_at t d = on_some (at d t.files) [] (λ f. entries_in f.kind)

-- what directory d lists first after a cookie
abbrev pub entry_after : Tree → ℕ → ℕ → Option Entry
entry_after t d cookie = first_after cookie (listing_at t d)

abbrev pub cookie_of_next : Kind → Option ℕ
cookie_of_next (Regular bytes) = None
cookie_of_next (Directory parent next_cookie entries) = Some next_cookie
cookie_of_next (Link path) = None

-- the cookie that the next entry of a directory takes
abbrev pub next_cookie_at : Tree → ℕ → Option ℕ
next_cookie_at t d = on_some (at d t.files) None (λ f. cookie_of_next f.kind)

-- ---- attributes

abbrev pub type_of : Kind → FileType
type_of (Regular bytes) = file_type.Regular
type_of (Directory parent next_cookie entries) = file_type.Directory
type_of (Link path) = file_type.SymbolicLink

abbrev pub is_regular_type : FileType → Bool
is_regular_type file_type.Regular = true
is_regular_type other = false

abbrev pub is_directory_type : FileType → Bool
is_directory_type file_type.Directory = true
is_directory_type other = false

-- the bytes of a regular file, the bytes of a link's path, and 4096 for a directory
abbrev pub size_of : Kind → ℕ
size_of (Regular bytes) = length bytes
size_of (Directory parent next_cookie entries) = 4096
size_of (Link path) = length path

-- the attributes of file n (RFC 1813, section 2.6, fattr3)
abbrev pub attributes_of : ℕ → File → ℕ → Fattr
attributes_of n f links = record {
  file_type = type_of f.kind;
  mode = f.mode;
  nlink = links;
  uid = f.uid;
  gid = f.gid;
  size = size_of f.kind;
  used = size_of f.kind;
  rdev = record { specdata1 = 0; specdata2 = 0 };
  fsid = f.volume + 1;
  fileid = n;
  atime = f.atime;
  mtime = f.mtime;
  ctime = f.ctime;
}

abbrev pub attributes_at : Tree → ℕ → Option Fattr
attributes_at t n = option_map (λ f. attributes_of n f (nlink t.files n f)) (at n t.files)

-- what file n is
abbrev pub kind_at : Tree → ℕ → Option Kind
kind_at t n = on_some (at n t.files) None (λ f. Some f.kind)

-- ---- content

-- the bytes of a regular file; of another none
abbrev pub bytes_at : Tree → ℕ → List ℕ
bytes_at t n = on_some (at n t.files) [] (λ f. bytes_in f.kind)

abbrev pub path_of : Kind → Option (List ℕ)
path_of (Regular bytes) = None
path_of (Directory parent next_cookie entries) = None
path_of (Link path) = Some path

-- the path of a link
abbrev pub path_at : Tree → ℕ → Option (List ℕ)
path_at t n = on_some (at n t.files) None (λ f. path_of f.kind)

-- that of the exclusive CREATE that made the file
abbrev pub verifier_at : Tree → ℕ → Option (List ℕ)
verifier_at t n = on_some (at n t.files) None (λ f. f.verifier)

-- ---- places

-- the index of the first value that passes
abbrev pub index_where : {X : Type 0} → (X → Bool) → List X → Option ℕ
index_where p [] = None
index_where p (x ∷ xs) = if p x then Some 0 else option_map (λ n. n + 1) (index_where p xs)

-- the index of the volume of a path
abbrev pub volume_named : Tree → List ℕ → Option ℕ
volume_named t path = index_where (λ (v : Volume). bytes_eq v.path path) t.volumes

-- how many bytes and files the volume of this index has
abbrev pub totals_at : Tree → ℕ → Option Totals
totals_at t index = option_map (λ (v : Volume). record { bytes = bytes_of index t.files; files = files_of index t.files }) (slice_get t.volumes index)

-- ---- handles

-- the files with their tags
abbrev pub numbered_files : Tree → NumberedFiles File
numbered_files t = record { files = map (λ e. (e.0, record { tag = e.1.tag; value = e.1 })) t.files; next = t.next; key = t.key }
