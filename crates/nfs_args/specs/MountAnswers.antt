-- The results of the procedures of MOUNT (RFC 1813, appendix I, section 5.2).
use Rattle.std.specs.Prelude.{ℕ, ◌≤◌, List, [], ◌++◌, length}
use Rattle.std.specs.Int.{w32, to_be_bytes}
use Rattle.nfs_xdr.specs.Encoding.{IsNumber, ◌⨾◌, opaque_text}
use Rattle.nfs_args.specs.declared.procedure.MountProcedure.{MountProcedure}
use Rattle.nfs_args.specs.declared.procedure.MountProcedure.TheVariants as mount
use Rattle.nfs_args.specs.declared.mount_answer.MountAnswer.{MountAnswer}
use Rattle.nfs_args.specs.declared.mount_answer.MountAnswer.TheVariants as answer
use Rattle.nfs_args.specs.declared.mounted.Mounted.{Mounted}
use Rattle.nfs_args.specs.declared.exported.Exported.{Exported}
use Rattle.nfs_args.specs.Encoding.{Arm, IsBare, IsHandle, IsString}
use Rattle.nfs_args.specs.Chains.{IsChain, chain_text, Each}
use Rattle.nfs_args.specs.Results.{IsResult, result_text, ResultFits, IsEmpty, empty_text, StringFits}

-- mountres3_ok: a handle, and one flavor of credentials, AUTH_SYS
abbrev pub IsVolume : List ℕ → List ℕ → Type 0
IsVolume handle = IsHandle handle ⨾ IsNumber w32 1 ⨾ IsNumber w32 1

abbrev pub volume_text : List ℕ → List ℕ
volume_text handle = opaque_text handle ++ (to_be_bytes w32 1 ++ to_be_bytes w32 1)

abbrev pub VolumeFits : List ℕ → Type 0
VolumeFits handle = length handle ≤ 64

-- mountbody: the name of a client, and a path
abbrev pub IsMounted : Mounted → List ℕ → Type 0
IsMounted m = IsString m.host ⨾ IsString m.path

abbrev pub mounted_text : Mounted → List ℕ
mounted_text m = opaque_text m.host ++ opaque_text m.path

abbrev pub MountedFits : Mounted → Type 0
MountedFits m = StringFits m.host × StringFits m.path

-- exportnode: a path, and a chain of groups
abbrev pub IsExported : Exported → List ℕ → Type 0
IsExported e = IsString e.path ⨾ IsChain IsString e.groups

abbrev pub exported_text : Exported → List ℕ
exported_text e = opaque_text e.path ++ chain_text opaque_text e.groups

abbrev pub ExportedFits : Exported → Type 0
ExportedFits e = StringFits e.path × Each StringFits e.groups

-- Which bytes encode which result of a procedure.
abbrev pub IsMountAnswerOf : MountProcedure → MountAnswer → List ℕ → Type 0
IsMountAnswerOf mount.Null = IsBare answer.Null
IsMountAnswerOf mount.Mount = Arm answer.Mount (IsResult IsVolume IsEmpty)
IsMountAnswerOf mount.Dump = Arm answer.Dump (IsChain IsMounted)
IsMountAnswerOf mount.Unmount = IsBare answer.Unmount
IsMountAnswerOf mount.UnmountAll = IsBare answer.UnmountAll
IsMountAnswerOf mount.Export = Arm answer.Export (IsChain IsExported)

-- the text that is written
abbrev pub mount_text : MountAnswer → List ℕ
mount_text answer.Null = []
mount_text (answer.Mount volume) = result_text volume_text empty_text volume
mount_text (answer.Dump clients) = chain_text mounted_text clients
mount_text answer.Unmount = []
mount_text answer.UnmountAll = []
mount_text (answer.Export volumes) = chain_text exported_text volumes

-- the procedure that has this result
abbrev pub mount_answered : MountAnswer → MountProcedure
mount_answered answer.Null = mount.Null
mount_answered (answer.Mount volume) = mount.Mount
mount_answered (answer.Dump clients) = mount.Dump
mount_answered answer.Unmount = mount.Unmount
mount_answered answer.UnmountAll = mount.UnmountAll
mount_answered (answer.Export volumes) = mount.Export

-- what can be written
abbrev pub MountFits : MountAnswer → Type 0
MountFits answer.Null = Unit {0}
MountFits (answer.Mount volume) = ResultFits VolumeFits volume
MountFits (answer.Dump clients) = Each MountedFits clients
MountFits answer.Unmount = Unit {0}
MountFits answer.UnmountAll = Unit {0}
MountFits (answer.Export volumes) = Each ExportedFits volumes
