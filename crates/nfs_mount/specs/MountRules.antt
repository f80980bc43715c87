-- The rules of MNT (RFC 1813, appendix I, section 5.2.1), in their order.
use Rattle.std.specs.Prelude.{ℕ, false, List, [], ◌∷◌, Option, is_none}
use Rattle.nfs_exports.specs.Tables.{exports_of, grant}
use Rattle.nfs_exports.specs.declared.addr.Addr.{Addr}
use Rattle.nfs_exports.specs.declared.export_table.Export.{Export}
use Rattle.nfs_inodes.specs.Reading.{volume_named}
use Rattle.nfs_inodes.specs.Tree.{Tree, on_some}
use Rattle.nfs_rules.specs.Tests.{Test, first, path_long, max_mount_path_bytes}
use Rattle.nfs_rules.specs.declared.rule.Rule.{Rule}
use Rattle.nfs_rules.specs.declared.rule.Rule.TheVariants as rule

-- there is a volume of the path
abbrev pub mount_path : Tree → List ℕ → Test
mount_path t path = (rule.MountPath, is_none (volume_named t path))

-- a pattern of the volume covers the address
abbrev pub export : Tree → List (List Export) → Addr → List ℕ → Test
export t exports addr path = (rule.Export, on_some (volume_named t path) false (λ index. is_none (grant (exports_of exports index) addr)))

abbrev pub mount_rules : Tree → List (List Export) → Addr → List ℕ → List Test
mount_rules t exports addr path = path_long max_mount_path_bytes path ∷ mount_path t path ∷ export t exports addr path ∷ []

-- the first that fails
abbrev pub mount_verdict : Tree → List (List Export) → Addr → List ℕ → Option Rule
mount_verdict t exports addr path = first (mount_rules t exports addr path)
