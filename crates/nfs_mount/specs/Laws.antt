-- What holds of every mount list.
use Rattle.std.specs.Prelude.{◌≡◌, ℕ, ◌<◌, true, false, List, length, All, Some}
use Rattle.nfs_exports.specs.declared.addr.Addr.{Addr}
use Rattle.nfs_inodes.specs.Reading.{volume_named}
use Rattle.nfs_inodes.specs.Tree.{Tree}
use Rattle.nfs_mount.specs.Mounts.{is_mounted, after_mnt, after_umnt, without_addr}
use Rattle.nfs_mount.specs.declared.mount.Mount.{Mount}

-- each pair is of a volume of the tree
abbrev pub AreOfVolumes : Tree → List Mount → Type 0
AreOfVolumes t mounts = All (λ m. m.volume < length t.volumes) mounts

-- that stays so
pub record KeepsVolumes : Type 0 where
  pub mnt : (t : Tree) (addr : Addr) (path : List ℕ) (mounts : List Mount) → AreOfVolumes t mounts → AreOfVolumes t (after_mnt t addr path mounts)
  pub umnt : (t : Tree) (addr : Addr) (path : List ℕ) (mounts : List Mount) → AreOfVolumes t mounts → AreOfVolumes t (after_umnt t addr path mounts)
  pub umnt_all : (t : Tree) (addr : Addr) (mounts : List Mount) → AreOfVolumes t mounts → AreOfVolumes t (without_addr addr mounts)

-- a client that asks for a volume has it until it has done with it
pub record AreMounted : Type 0 where
  -- after MNT of a volume
  pub mnt : (t : Tree) (addr : Addr) (path : List ℕ) (index : ℕ) (mounts : List Mount) → volume_named t path ≡ Some index
      → is_mounted t addr path (after_mnt t addr path mounts) ≡ true
  -- and MNT again changes nothing
  pub again : (t : Tree) (addr : Addr) (path : List ℕ) (mounts : List Mount) → is_mounted t addr path mounts ≡ true → after_mnt t addr path mounts ≡ mounts
  -- after UMNT and UMNTALL
  pub umnt : (t : Tree) (addr : Addr) (path : List ℕ) (mounts : List Mount) → is_mounted t addr path (after_umnt t addr path mounts) ≡ false
  pub umnt_all : (t : Tree) (addr : Addr) (path : List ℕ) (mounts : List Mount) → is_mounted t addr path (without_addr addr mounts) ≡ false
