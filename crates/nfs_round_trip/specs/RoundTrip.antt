-- A description that is written of a tree loads, and is that tree again.
use Rattle.std.specs.Prelude.{◌≡◌, ◌⊎◌, ℕ, ◌+◌, ◌≤◌, ◌<◌, true, List, length, map, All, Contains, Result, Ok, Err, slice_index}
use Rattle.nfs_exports.specs.Tables.{exports_of, pattern_count}
use Rattle.nfs_exports.specs.declared.export_table.Export.{Export}
use Rattle.nfs_inodes.specs.Changes.{with_key}
use Rattle.nfs_inodes.specs.Law.{Law, Lives}
use Rattle.nfs_inodes.specs.Tree.{Tree, File, Volume, nlink}
use Rattle.nfs_load.specs.Descriptions.{Describes}
use Rattle.nfs_load.specs.Paths.{volume_path_in}
use Rattle.nfs_load.specs.declared.load_error.LoadError.{LoadError}
use Rattle.nfs_load.specs.declared.load_error.LoadError.TheVariants.{Memory}
use Rattle.nfs_load.specs.declared.loaded.Loaded.{Loaded}
use Rattle.nfs_describe.specs.Places.{AreWalks, FilePath, IsWalk}
use Rattle.nfs_describe.specs.Texts.{Says, most_text_bytes}
use Rattle.nfs_read_back.specs.ReadBack.{IsExport, is_said}
use Rattle.nfs_round_trip.specs.Copies.{CanBeSaid, copied, copied_volume, new_number}

-- One tree is another again, with new numbers for its files: each is there as it was, with as many links, none is there twice, and none is added.
pub record IsCopy (t : Tree) (number : ℕ → ℕ) (u : Tree) : Type 0 where
  pub each : (n : ℕ) (f : File) → Lives t n f → (tag : ℕ) × Lives u (number n) (copied number tag f)
      × (nlink u.files (number n) (copied number tag f) ≡ nlink t.files n f)
  pub once : (m n : ℕ) (f g : File) → Lives t m f → Lives t n g → number m ≡ number n → m ≡ n
  pub all : (k : ℕ) (h : File) → Lives u k h → (n : ℕ) × (f : File) × Lives t n f × (number n ≡ k)
  pub volumes : u.volumes ≡ map (copied_volume number) t.volumes
  pub key : u.key ≡ t.key
  pub limits : u.limits ≡ t.limits
  pub next : u.next ≡ 1 + length u.files

-- A tree is another again, with the numbers of the order in which the walks of all volumes come to its files.
pub record IsRestored (t u : Tree) : Type 0 where
  pub walks : List (List FilePath)
  pub are_walks : AreWalks t walks
  pub copy : IsCopy t (new_number walks) u

-- a volume whose line can be written: a path of one word
pub record IsVolumeSaid (v : Volume) : Type 0 where
  pub word : is_said v.path ≡ true
  pub path : volume_path_in v.path ≡ Ok v.path

-- A lawful tree and its exports, all within what lines can say: what was loaded, and what clients made of it.
pub record IsDescribable (t : Tree) (table : List (List Export)) : Type 0 where
  pub law : Law t
  pub some : 1 ≤ length t.volumes
  pub volumes : All IsVolumeSaid t.volumes
  pub files : (n : ℕ) (f : File) → Lives t n f → CanBeSaid f
  pub lists : length table ≡ length t.volumes
  pub few : pattern_count table ≤ 256
  pub exports : (place : ℕ) (e : Export) → Contains (exports_of table place) e → IsExport e

-- Such a tree is one under each key of 8 bytes.
abbrev pub KeysStayDescribable : Type 0
KeysStayDescribable = (t : Tree) (table : List (List Export)) (key : List ℕ) → length key ≡ 8 → ((i : ℕ) → slice_index key i < 256) → IsDescribable t table
    → IsDescribable (with_key t key) table

-- A text that describes a tree with its exports says, when it is loaded, that tree with these exports; or memory is wanted.
abbrev pub DescriptionsLoadAgain : Type 0
DescriptionsLoadAgain = (t : Tree) (table : List (List Export)) (text : List ℕ) → IsDescribable t table → Says t table text → length text ≤ most_text_bytes
    → (result : Result Loaded LoadError) → Describes text result
    → (result ≡ Err Memory) ⊎ ((loaded : Loaded) × (result ≡ Ok loaded) × IsRestored t loaded.tree × (loaded.table ≡ table))

-- What a description loads is such a tree.
abbrev pub LoadedAreDescribable : Type 0
LoadedAreDescribable = (text : List ℕ) (loaded : Loaded) → Describes text (Ok loaded) → IsDescribable loaded.tree loaded.table

-- Of any tree there is at most one walk from a root.
abbrev pub WalksAreOne : Type 0
WalksAreOne = (t : Tree) (root : ℕ) (one two : List FilePath) → IsWalk t root one → IsWalk t root two → one ≡ two

-- Of a tree with its exports there is at most one description.
abbrev pub DescriptionsAreOne : Type 0
DescriptionsAreOne = (t : Tree) (table : List (List Export)) (one two : List ℕ) → Says t table one → Says t table two → one ≡ two

-- What is loaded from it has the same description.
abbrev pub DescriptionsAreKept : Type 0
DescriptionsAreKept = (t : Tree) (table : List (List Export)) (text : List ℕ) → IsDescribable t table → Says t table text → length text ≤ most_text_bytes
    → (loaded : Loaded) → Describes text (Ok loaded) → Says loaded.tree loaded.table text
