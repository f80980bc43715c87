-- The mount list: which clients mount which volumes (RFC 1813, appendix I, section 5.2).
use Rattle.std.specs.Prelude.{◌≢◌, ℕ, ◌-◌, ◌≤◌, Bool, false, not, ◌&&◌, List, [], ◌∷◌, ◌++◌, length, drop, nat_eq, if◌then◌else◌, AllPairs, filter}
use Rattle.std.specs.List.{list_any}
use Rattle.nfs_exports.specs.declared.addr.Addr.{Addr}
use Rattle.nfs_inodes.specs.Reading.{volume_named}
use Rattle.nfs_inodes.specs.Tree.{Tree, on_some}
use Rattle.nfs_mount.specs.declared.mount.Mount.{Mount}

-- the most pairs of the list
abbrev pub max_mounts : ℕ
max_mounts = 1024

-- no pair is there twice
pub record IsMountList (mounts : List Mount) : Type 0 where
  pub few : length mounts ≤ max_mounts
  pub apart : AllPairs (λ m n. m ≢ n) mounts

-- ---- pairs

abbrev pub pair : Addr → ℕ → Mount
pair addr volume = record { addr = addr; volume = volume }

abbrev pub same : Mount → Mount → Bool
same m n = nat_eq m.addr.0 n.addr.0 && nat_eq m.volume n.volume

abbrev pub is_in : Mount → List Mount → Bool
is_in m mounts = list_any (same m) mounts

abbrev pub is_of_another : Addr → Mount → Bool
is_of_another addr m = not (nat_eq m.addr.0 addr.0)

-- ---- changes

-- the last so many, or all
abbrev pub newest : ℕ → List Mount → List Mount
newest n mounts = drop (length mounts - n) mounts

-- a new pair goes last, and the oldest of 1,025 goes; a pair that is there keeps its place
abbrev pub with_mount : Mount → List Mount → List Mount
with_mount m mounts = if is_in m mounts then mounts else newest max_mounts (mounts ++ m ∷ [])

abbrev pub without_mount : Mount → List Mount → List Mount
without_mount m mounts = filter (λ n. not (same m n)) mounts

-- the pairs of other addresses
abbrev pub without_addr : Addr → List Mount → List Mount
without_addr addr mounts = filter (is_of_another addr) mounts

-- ---- by the path of a volume

-- whether an address mounts the volume of a path
abbrev pub is_mounted : Tree → Addr → List ℕ → List Mount → Bool
is_mounted t addr path mounts = on_some (volume_named t path) false (λ index. is_in (pair addr index) mounts)

-- MNT
abbrev pub after_mnt : Tree → Addr → List ℕ → List Mount → List Mount
after_mnt t addr path mounts = on_some (volume_named t path) mounts (λ index. with_mount (pair addr index) mounts)

-- UMNT
abbrev pub after_umnt : Tree → Addr → List ℕ → List Mount → List Mount
after_umnt t addr path mounts = on_some (volume_named t path) mounts (λ index. without_mount (pair addr index) mounts)
