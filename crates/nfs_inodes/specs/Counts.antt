-- What is kept beside the tree: the links of each file and the totals of each volume, equal to what counting afresh would give.
use Rattle.std.specs.Prelude.{suc, zero, ◌≡◌, ℕ, ◌+◌, ◌<◌, ◌^◌, List, [], ◌∷◌, map, Some, slice_get}
use Rattle.nfs_inodes.specs.Tree.{Tree, File, Volume, at, nlink, bytes_of, files_of}
use Rattle.nfs_inodes.specs.declared.limits.Limits.{Limits}
use Rattle.nfs_inodes.specs.Law.{Law}

pub record CountedFile : Type 0 where
  pub file : File
  pub nlink : ℕ

pub record CountedVolume : Type 0 where
  pub volume : Volume
  pub bytes : ℕ
  pub files : ℕ

pub record CountedTree : Type 0 where
  pub files : List (ℕ × CountedFile)
  pub next : ℕ
  pub key : List ℕ
  pub volumes : List CountedVolume
  pub limits : Limits

abbrev pub files_in : List (ℕ × CountedFile) → List (ℕ × File)
files_in files = map (λ e. (e.0, e.1.file)) files

abbrev pub tree_in : CountedTree → Tree
tree_in k = record { files = files_in k.files; next = k.next; key = k.key; volumes = map (λ c. c.volume) k.volumes; limits = k.limits }

-- so many bytes and files more in the volume of this index
abbrev pub with_totals : List CountedVolume → ℕ → ℕ → ℕ → List CountedVolume
with_totals [] index bytes files = []
with_totals (c ∷ cs) zero bytes files = record { volume = c.volume; bytes = c.bytes + bytes; files = c.files + files } ∷ cs
with_totals (c ∷ cs) (suc index) bytes files = c ∷ with_totals cs index bytes files

pub record IsCounted (all : List (ℕ × File)) (index : ℕ) (c : CountedVolume) : Type 0 where
  pub bytes : c.bytes ≡ bytes_of index all
  pub files : c.files ≡ files_of index all

pub record Agrees (k : CountedTree) : Type 0 where
  pub law : Law (tree_in k)
  pub links : (n : ℕ) (h : CountedFile) → at n k.files ≡ Some h → h.nlink ≡ nlink (files_in k.files) n h.file
  pub totals : (index : ℕ) (c : CountedVolume) → slice_get k.volumes index ≡ Some c → IsCounted (files_in k.files) index c
  pub limits : (index : ℕ) (c : CountedVolume) → slice_get k.volumes index ≡ Some c → (c.volume.max_bytes < 2 ^ 64) × (c.volume.max_files < 2 ^ 64)
