-- The mount list and the answers of MOUNT over a small tree, as examples.
use Rattle.std.specs.Prelude.{◌≡◌, ℕ, ◌+◌, List, [], ◌∷◌, ◌++◌, map, Some, None, codes}
use Rattle.std.specs.List.{range_with_len}
use Rattle.std.specs.Int.{w32, w64, to_be_bytes}
use Rattle.nfs_args.specs.MountAnswers.{mount_text}
use Rattle.nfs_exports.specs.Options.{default_options}
use Rattle.nfs_exports.specs.declared.addr.Addr.{Addr}
use Rattle.nfs_exports.specs.declared.export_table.Export.{Export}
use Rattle.nfs_inodes.specs.Example.{tree_e}
use Rattle.nfs_rules.specs.declared.rule.Rule.TheVariants as rule
use Rattle.nfs_mount.specs.MountAnswers.{root_of, denied_answer, dump_answer, export_answer}
use Rattle.nfs_mount.specs.MountRules.{mount_verdict}
use Rattle.nfs_mount.specs.Mounts.{pair, after_mnt, after_umnt, without_addr}
use Rattle.nfs_mount.specs.declared.mount.Mount.{Mount}

-- the addresses 10.0.0.0 and so many after it
abbrev pub host : ℕ → Addr
host n = record { 0 = 167772160 + n }

abbrev pub network : ℕ → ℕ → Export
network n bits = record { pattern = record { address = host n; bits = bits }; options = default_options }

-- /a for 10.0.0.7/24, as given, 10.0.1.0/24 and 10.0.2.9, /b for all
abbrev pub exports_e : List (List Export)
exports_e = (network 7 24 ∷ network 256 24 ∷ network 521 32 ∷ []) ∷ (network 0 0 ∷ []) ∷ []

abbrev pub a : List ℕ
a = codes "/a"

abbrev pub b : List ℕ
b = codes "/b"

abbrev pub c : List ℕ
c = codes "/c"

-- 10.0.0.1 mounts /a and /b, and /a again
abbrev pub mounts_e : List Mount
mounts_e = after_mnt tree_e (host 1) a (after_mnt tree_e (host 1) b (after_mnt tree_e (host 1) a []))

-- so many hosts mount /a, one after another
abbrev pub hosts : ℕ → ℕ → List Mount
hosts first n = map (λ n. pair (host n) 0) (range_with_len first n)

abbrev pub word : ℕ → List ℕ
word n = to_be_bytes w32 n

pub record MountsOfE : Type 0 where
  pub mounted : mounts_e ≡ pair (host 1) 0 ∷ pair (host 1) 1 ∷ []
  pub no_such_path : after_umnt tree_e (host 1) c mounts_e ≡ mounts_e
  pub another_host : after_umnt tree_e (host 2) a mounts_e ≡ mounts_e
  pub unmounted : after_umnt tree_e (host 1) a mounts_e ≡ pair (host 1) 1 ∷ []
  pub all_unmounted : without_addr (host 1) mounts_e ≡ []
  -- the oldest of 1,025 goes
  pub oldest : after_mnt tree_e (host 1024) a (hosts 0 1024) ≡ hosts 1 1024
  pub none_new : after_mnt tree_e (host 512) a (hosts 0 1024) ≡ hosts 0 1024
  pub granted : mount_verdict tree_e exports_e (host 1) a ≡ None
  -- 10.0.3.1
  pub denied : mount_verdict tree_e exports_e (host 769) a ≡ Some rule.Export
  pub unknown : mount_verdict tree_e exports_e (host 769) c ≡ Some rule.MountPath
  -- 1,025 bytes
  pub long : mount_verdict tree_e exports_e (host 769) (47 ∷ map (λ n. 97) (range_with_len 0 1024)) ≡ Some rule.PathLong
  pub root : root_of tree_e a ≡ Some (codes "NFS3" ++ (0x01 ∷ 0x02 ∷ 0x03 ∷ 0x04 ∷ 0x05 ∷ 0x06 ∷ 0x07 ∷ 0x08 ∷ []) ++ word 0 ++ to_be_bytes w64 1)
  pub status : mount_text (denied_answer rule.MountPath) ≡ word 2
  pub dump : mount_text (dump_answer tree_e mounts_e)
      ≡ word 1 ++ word 8 ++ codes "10.0.0.1" ++ word 2 ++ a ++ 0 ∷ 0 ∷ []
      ++ word 1 ++ word 8 ++ codes "10.0.0.1" ++ word 2 ++ b ++ 0 ∷ 0 ∷ [] ++ word 0
  pub export : mount_text (export_answer tree_e exports_e) ≡
      word 1 ++ word 2 ++ a ++ 0 ∷ 0 ∷ []
      ++ word 1 ++ word 11 ++ codes "10.0.0.0/24" ++ 0 ∷ []
      ++ word 1 ++ word 11 ++ codes "10.0.1.0/24" ++ 0 ∷ []
      ++ word 1 ++ word 8 ++ codes "10.0.2.9" ++ word 0
      ++ word 1 ++ word 2 ++ b ++ 0 ∷ 0 ∷ []
      ++ word 1 ++ word 1 ++ codes "*" ++ 0 ∷ 0 ∷ 0 ∷ [] ++ word 0 ++ word 0
