-- The law of the tree, where file x may as yet be named by no entry; 0 is no file.
use Rattle.std.specs.Prelude.{suc, zero, ◌≡◌, ◌≢◌, ℕ, ◌≤◌, ◌<◌, true, false, List, [], ◌∷◌, length, Some, None, All, AllPairs, Contains, slice_get, filter}
use Rattle.nfs_inodes.specs.Limits.{max_name_bytes, max_volumes, max_volume_bytes, max_volume_path_bytes, AreLimits}
use Rattle.nfs_inodes.specs.declared.limits.Limits.{Limits}
use Rattle.nfs_inodes.specs.Tree.{Tree, File, Entry, Volume, at, on_some, is_directory, entries_in, parent_in, next_cookie_in, bytes_in}
use Rattle.nfs_inodes.specs.Tree.{path_in, names_of, nlink, bytes_of, files_of}
use Rattle.nfs_inodes.specs.Reading.{numbered_files}
use Rattle.nfs_handles.specs.NumberedFiles.{IsNumbered}

-- 1 to 255 bytes, none 0 or `/`, neither `.` nor `..`
pub record IsName (name : List ℕ) : Type 0 where
  pub some : 1 ≤ length name
  pub few : length name ≤ max_name_bytes
  pub bytes : All (λ byte. (byte ≢ 0) × (byte ≢ 47)) name
  pub no_dot : name ≢ 46 ∷ []
  pub no_dot_dot : name ≢ 46 ∷ 46 ∷ []

-- no two entries have one name
abbrev pub AreApart : List Entry → Type 0
AreApart entries = AllPairs (λ e g. e.name ≢ g.name) entries

-- what is true of one file alone
pub record IsSound (limits : Limits) (f : File) : Type 0 where
  pub mode : f.mode < 4096
  pub bytes : length (bytes_in f.kind) ≤ limits.file_size
  pub path : length (path_in f.kind) ≤ limits.link_path
  pub names : All (λ e. IsName e.name) (entries_in f.kind)
  pub cookies : All (λ e. (3 ≤ e.cookie) × (e.cookie < next_cookie_in f.kind)) (entries_in f.kind)
  pub next_cookie : is_directory f.kind ≡ true → 3 ≤ next_cookie_in f.kind
  pub apart : AllPairs (λ e g. (e.name ≢ g.name) × (e.cookie < g.cookie)) (entries_in f.kind)

-- numbers rise, all above the low one and below the next one
abbrev pub AreRising : {X : Type 0} → ℕ → List (ℕ × X) → ℕ → Type 0
AreRising low [] next = low < next
AreRising low (e ∷ es) next = (low < e.0) × AreRising e.0 es next

-- the parent of a directory
abbrev pub parent_of : List (ℕ × File) → ℕ → ℕ
parent_of files n = on_some (at n files) 0 (λ f. parent_in f.kind)

-- where so many steps to the parent lead
abbrev pub climb : ℕ → List (ℕ × File) → ℕ → ℕ
climb zero files n = n
climb (suc steps) files n = climb steps files (parent_of files n)

-- the directories among the files
abbrev pub directories : List (ℕ × File) → List (ℕ × File)
directories files = filter (λ e. is_directory e.1.kind) files

-- a number is the root of a volume
abbrev pub IsRoot : List Volume → ℕ → Type 0
IsRoot volumes n = (index : ℕ) × (v : Volume) × (slice_get volumes index ≡ Some v) × (v.root ≡ n)

-- a file lives under a number
abbrev pub Lives : Tree → ℕ → File → Type 0
Lives t n f = at n t.files ≡ Some f

abbrev pub LivesAsDirectory : Tree → ℕ → File → Type 0
LivesAsDirectory t n f = (at n t.files ≡ Some f) × (is_directory f.kind ≡ true)

-- what a volume may be made for
pub record IsWithin (limits : Limits) (v : Volume) : Type 0 where
  pub bytes : v.max_bytes ≤ max_volume_bytes
  pub files : v.max_files ≤ limits.files

-- at most 64 volumes, with different paths of at most 255 bytes
pub record AreVolumes (limits : Limits) (volumes : List Volume) : Type 0 where
  pub few : length volumes ≤ max_volumes
  pub within : All (IsWithin limits) volumes
  pub paths : All (λ v. length v.path ≤ max_volume_path_bytes) volumes
  pub apart : AllPairs (λ v w. v.path ≢ w.path) volumes

pub record LawBut (x : ℕ) (t : Tree) : Type 0 where
  -- the next number is below 2^64, the key has 8 bytes, and each tag fits into a handle
  pub numbers : IsNumbered (numbered_files t)
  pub rising : AreRising 0 t.files t.next
  pub sound : (n : ℕ) (f : File) → Lives t n f → IsSound t.limits f
  pub placed : (n : ℕ) (f : File) → Lives t n f → (v : Volume) × (slice_get t.volumes f.volume ≡ Some v)
  -- every entry names a file of the same volume, and what isn't there isn't named
  pub entries : (d : ℕ) (f : File) (e : Entry) → Lives t d f → Contains (entries_in f.kind) e → (g : File) × Lives t e.number g × (g.volume ≡ f.volume)
  pub absent : (n : ℕ) → at n t.files ≡ None → names_of n t.files ≡ 0
  -- a root is a directory of its volume, its own parent, and no entry names it
  pub roots : (index : ℕ) (v : Volume) → slice_get t.volumes index ≡ Some v
      → (f : File) × LivesAsDirectory t v.root f × (parent_in f.kind ≡ v.root) × (f.volume ≡ index) × (names_of v.root t.files ≡ 0)
  -- every other directory is named by one entry, which stands in its parent
  pub once : (n : ℕ) (f : File) → n ≢ x → LivesAsDirectory t n f → (IsRoot t.volumes n → ⊥) → names_of n t.files ≡ 1
  pub parents : (d : ℕ) (f : File) (e : Entry) (g : File) → Lives t d f → Contains (entries_in f.kind) e → LivesAsDirectory t e.number g → parent_in g.kind ≡ d
  pub stands : (n : ℕ) (f : File) → n ≢ x → LivesAsDirectory t n f → (IsRoot t.volumes n → ⊥)
      → (p : File) × Lives t (parent_in f.kind) p × (e : Entry) × Contains (entries_in p.kind) e × (e.number ≡ n)
  -- a parent is a directory of the same volume, and steps to the parent lead to the root
  pub homes : (n : ℕ) (f : File) → LivesAsDirectory t n f → (p : File) × LivesAsDirectory t (parent_in f.kind) p × (p.volume ≡ f.volume)
  pub reached : (n : ℕ) (f : File) → LivesAsDirectory t n f
      → (steps : ℕ) × (v : Volume) × (slice_get t.volumes f.volume ≡ Some v) × (climb steps t.files n ≡ v.root)
  -- every other file has a name
  pub named : (n : ℕ) (f : File) → n ≢ x → Lives t n f → is_directory f.kind ≡ false → 1 ≤ names_of n t.files
  pub links : (n : ℕ) (f : File) → Lives t n f → nlink t.files n f ≤ t.limits.links
  pub limits : AreLimits t.limits
  pub volumes : AreVolumes t.limits t.volumes
  pub bytes : (index : ℕ) (v : Volume) → slice_get t.volumes index ≡ Some v → bytes_of index t.files ≤ v.max_bytes
  pub count : (index : ℕ) (v : Volume) → slice_get t.volumes index ≡ Some v → files_of index t.files ≤ v.max_files

abbrev pub Law : Tree → Type 0
Law t = LawBut 0 t

-- steps to the parent lead to the root of the file's volume, at most as many as there are directories
pub record IsReached (t : Tree) (n : ℕ) (f : File) : Type 0 where
  pub volume : Volume
  pub at_volume : slice_get t.volumes f.volume ≡ Some volume
  pub steps : ℕ
  pub few : steps ≤ length (directories t.files)
  pub root : climb steps t.files n ≡ volume.root
