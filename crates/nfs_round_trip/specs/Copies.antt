-- A tree as it is made again from its description.
use Rattle.std.specs.Prelude.{ℕ, suc, ◌+◌, ◌<◌, ◌^◌, List, [], ◌∷◌, ◌++◌, length, Contains, None, nat_eq, if◌then◌else◌}
use Rattle.std.specs.List.{flat_map}
use Rattle.hex.specs.Hex.{IsBytes}
use Rattle.nfs_describe.specs.Places.{FilePath}
use Rattle.nfs_describe.specs.Texts.{first_name}
use Rattle.nfs_load.specs.Moments.{IsTime}
use Rattle.nfs_inodes.specs.Tree.{File, Kind, Entry, Volume, Regular, Directory, Link, on_some}

-- ---- new numbers

-- the files of some places after others, each where it comes first
abbrev pub first_seen : List FilePath → List FilePath → List ℕ
first_seen before [] = []
first_seen before (p ∷ after) = on_some (first_name p.number before) (p.number ∷ first_seen (before ++ p ∷ []) after)
    (λ first. first_seen (before ++ p ∷ []) after)

-- where a number stands among others, counted from k on
abbrev pub counted_from : ℕ → List ℕ → ℕ → ℕ
counted_from k [] n = k
counted_from k (m ∷ ms) n = if nat_eq m n then k else counted_from (suc k) ms n

-- A file's new number: its place, from 1 on, among the files of all walks in the order in which they come first.
abbrev pub new_number : List (List FilePath) → ℕ → ℕ
new_number walks n = counted_from 1 (flat_map (first_seen []) walks) n

-- ---- files

-- the same names in the same order, each for the file's new number, with cookies from this one on
abbrev pub copied_entries : (ℕ → ℕ) → ℕ → List Entry → List Entry
copied_entries number cookie [] = []
copied_entries number cookie (e ∷ entries) = record { cookie = cookie; name = e.name; number = number e.number } ∷ copied_entries number (cookie + 1) entries

-- the same bytes, the same entries, or the same path
abbrev pub copied_kind : (ℕ → ℕ) → Kind → Kind
copied_kind number (Regular bytes) = Regular bytes
copied_kind number (Directory parent next_cookie entries) = Directory (number parent) (3 + length entries) (copied_entries number 3 entries)
copied_kind number (Link path) = Link path

-- that of a link isn't described
abbrev pub copied_mode : Kind → ℕ → ℕ
copied_mode (Regular bytes) mode = mode
copied_mode (Directory parent next_cookie entries) mode = mode
copied_mode (Link path) mode = 511

-- a file as it is made again, with some tag
abbrev pub copied : (ℕ → ℕ) → ℕ → File → File
copied number tag f = record {
  volume = f.volume;
  kind = copied_kind number f.kind;
  mode = copied_mode f.kind f.mode;
  uid = f.uid;
  gid = f.gid;
  atime = f.atime;
  mtime = f.mtime;
  ctime = f.ctime;
  tag = tag;
  verifier = None;
}

abbrev pub copied_volume : (ℕ → ℕ) → Volume → Volume
copied_volume number v = record v { root = number v.root }

-- a content, the names in a directory and what a link holds are bytes
abbrev pub HoldsBytes : Kind → Type 0
HoldsBytes (Regular bytes) = IsBytes bytes
HoldsBytes (Directory parent next_cookie entries) = (e : Entry) → Contains entries e → IsBytes e.name
HoldsBytes (Link path) = IsBytes path

-- what lines can say of a file: bytes, and an owner, a group and times of 32 bits
pub record CanBeSaid (f : File) : Type 0 where
  pub uid : f.uid < 2 ^ 32
  pub gid : f.gid < 2 ^ 32
  pub atime : IsTime f.atime
  pub mtime : IsTime f.mtime
  pub ctime : IsTime f.ctime
  pub holds : HoldsBytes f.kind
