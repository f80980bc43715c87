-- What the procedures of MOUNT do and answer (RFC 1813, appendix I, section 5.2).
use Rattle.std.specs.Prelude.{◌≡◌, ℕ, false, List, [], length, map, slice_get, Option, Some, None, Ok, Err}
use Rattle.std.specs.List.{range_with_len}
use Rattle.nfs_args.specs.MountAnswers.{IsMountAnswerOf, mount_answered, mount_text}
use Rattle.nfs_args.specs.declared.exported.Exported.{Exported}
use Rattle.nfs_args.specs.declared.mount_answer.MountAnswer.{MountAnswer}
use Rattle.nfs_args.specs.declared.mount_answer.MountAnswer.TheVariants as answer
use Rattle.nfs_args.specs.declared.mounted.Mounted.{Mounted}
use Rattle.nfs_exports.specs.Addresses.{addr_text}
use Rattle.nfs_exports.specs.Patterns.{pattern_text}
use Rattle.nfs_exports.specs.Tables.{exports_of}
use Rattle.nfs_exports.specs.declared.addr.Addr.{Addr}
use Rattle.nfs_exports.specs.declared.export_table.Export.{Export}
use Rattle.nfs_handles.specs.Handles.{handle_at}
use Rattle.nfs_inodes.specs.Reading.{numbered_files, volume_named}
use Rattle.nfs_inodes.specs.Tree.{Tree, on_some}
use Rattle.nfs_mount.specs.MountRules.{mount_verdict}
use Rattle.nfs_mount.specs.Mounts.{is_mounted, after_mnt}
use Rattle.nfs_mount.specs.declared.mount.Mount.{Mount}
use Rattle.nfs_mount.specs.declared.outcome.MountOutcome.{MountOutcome}
use Rattle.nfs_mount.specs.declared.outcome.MountOutcome.TheVariants.{Granted, Denied, Memory}
use Rattle.nfs_rules.specs.Rules.{status_of}
use Rattle.nfs_rules.specs.declared.rule.Rule.{Rule}
use Rattle.nfs_xdr.specs.Written.{Written, Appends}

-- the text that is written for an answer is an encoding of it
abbrev pub IsMountEncoded : MountAnswer → Type 0
IsMountEncoded value = IsMountAnswerOf (mount_answered value) value (mount_text value)

-- ---- MNT

-- the handle of the root of the volume of this index, and of a path
abbrev pub root_at : Tree → ℕ → Option (List ℕ)
root_at t index = on_some (slice_get t.volumes index) None (λ v. handle_at (numbered_files t) v.root)

abbrev pub root_of : Tree → List ℕ → Option (List ℕ)
root_of t path = on_some (volume_named t path) None (root_at t)

abbrev pub granted_answer : List ℕ → MountAnswer
granted_answer handle = answer.Mount (Ok handle)

abbrev pub denied_answer : Rule → MountAnswer
denied_answer rule = answer.Mount (Err (record { status = status_of rule; shown = tt }))

-- the volume is mounted, and its root is answered; the first rule that fails is answered; or no rule fails, the pair is new, and nothing is done
abbrev pub Mounts : Tree → List (List Export) → Addr → List ℕ → MountOutcome → List Mount → List Mount → Written → Written → Type 0
Mounts t exports addr path Granted old new before after =
    (mount_verdict t exports addr path ≡ None) × (new ≡ after_mnt t addr path old) × (handle : List ℕ) × (root_of t path ≡ Some handle)
    × Appends (mount_text (granted_answer handle)) before after × IsMountEncoded (granted_answer handle)
Mounts t exports addr path (Denied rule) old new before after =
    (mount_verdict t exports addr path ≡ Some rule) × (new ≡ old)
    × Appends (mount_text (denied_answer rule)) before after × IsMountEncoded (denied_answer rule)
Mounts t exports addr path (Memory refused) old new before after =
    (mount_verdict t exports addr path ≡ None) × (is_mounted t addr path old ≡ false) × (new ≡ old) × (after ≡ before)

-- ---- DUMP

-- the path of the volume of this index
abbrev pub path_at : Tree → ℕ → List ℕ
path_at t index = on_some (slice_get t.volumes index) [] (λ v. v.path)

-- the address in dotted decimal form, and the path
abbrev pub client : Tree → Mount → Mounted
client t m = record { host = addr_text m.addr; path = path_at t m.volume }

abbrev pub dump_answer : Tree → List Mount → MountAnswer
dump_answer t mounts = answer.Dump (map (client t) mounts)

-- ---- EXPORT

-- a pattern that may use a volume
abbrev pub group : Export → List ℕ
group e = pattern_text e.pattern

-- the volume of this index, with its patterns in order
abbrev pub exported_at : Tree → List (List Export) → ℕ → Exported
exported_at t exports index = record { path = path_at t index; groups = map group (exports_of exports index) }

-- all volumes in order
abbrev pub export_answer : Tree → List (List Export) → MountAnswer
export_answer t exports = answer.Export (map (exported_at t exports) (range_with_len 0 (length t.volumes)))
