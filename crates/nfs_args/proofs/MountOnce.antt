-- Results of MOUNT are encoded once.
use Rattle.std.proofs.Common.{ℕ, List}
use Rattle.std.specs.Int.{w32}
use Rattle.nfs_xdr.specs.Encoding.{IsNumber, EncodesOnce}
use Rattle.nfs_args.specs.declared.procedure.MountProcedure.{MountProcedure}
use Rattle.nfs_args.specs.declared.procedure.MountProcedure.TheVariants as mount
use Rattle.nfs_args.specs.declared.mount_answer.MountAnswer.TheVariants as answer
use Rattle.nfs_args.specs.declared.mounted.Mounted.{Mounted}
use Rattle.nfs_args.specs.declared.exported.Exported.{Exported}
use Rattle.nfs_args.specs.Encoding.{IsHandle, IsString}
use Rattle.nfs_args.specs.Chains.{IsChain}
use Rattle.nfs_args.specs.Results.{IsResult, IsEmpty}
use Rattle.nfs_args.specs.MountAnswers.{IsVolume, IsMounted, IsExported, IsMountAnswerOf}
use Rattle.nfs_args.proofs.Once.{field, fields, by_fields, word_once, string_once, handle_once, empty_once, result_once, arm_once, bare_once}
use Rattle.nfs_args.proofs.Chains.{chain_once}

volume_once : EncodesOnce IsVolume
volume_once =
    by_fields _ IsVolume
    (fields IsHandle (λ (h : List ℕ). h) _ _ handle_once
    (fields (IsNumber w32) (λ (h : List ℕ). 1) _ _ word_once
    (field (IsNumber w32) (λ (h : List ℕ). 1) word_once)))
    (λ v w r. r.0)

mounted_once : EncodesOnce IsMounted
mounted_once =
    by_fields _ IsMounted
    (fields IsString (λ (m : Mounted). m.host) _ _ string_once
    (field IsString (λ (m : Mounted). m.path) string_once))
    (λ v w r i. record { host = r.0 i; path = r.1 i })

exported_once : EncodesOnce IsExported
exported_once =
    by_fields _ IsExported
    (fields IsString (λ (e : Exported). e.path) _ _ string_once
    (field (IsChain IsString) (λ (e : Exported). e.groups) (chain_once IsString string_once)))
    (λ v w r i. record { path = r.0 i; groups = r.1 i })

pub mount_answer_once : (p : MountProcedure) → EncodesOnce (IsMountAnswerOf p)
mount_answer_once mount.Null = bare_once answer.Null
mount_answer_once mount.Mount = arm_once answer.Mount (IsResult IsVolume IsEmpty) (result_once IsVolume IsEmpty volume_once empty_once)
mount_answer_once mount.Dump = arm_once answer.Dump (IsChain IsMounted) (chain_once IsMounted mounted_once)
mount_answer_once mount.Unmount = bare_once answer.Unmount
mount_answer_once mount.UnmountAll = bare_once answer.UnmountAll
mount_answer_once mount.Export = arm_once answer.Export (IsChain IsExported) (chain_once IsExported exported_once)
