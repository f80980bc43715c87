-- Which procedure the record of a call names.
use Rattle.std.specs.Prelude.{ℕ, List, Option, Some, None, Result, Ok, Err, nat_eq, codes, if◌then◌else◌}
use Rattle.nfs_xdr.specs.Reading.{numbered}
use Rattle.nfs_rpc.specs.Calls.{Call, head_at}
use Rattle.nfs_rpc.specs.declared.call.RpcFault.{RpcFault}
use Rattle.nfs_args.specs.Procedures.{procedure_number, procedures, mount_number, mount_procedures, procedure_name, mount_procedure_name}
use Rattle.nfs_args.specs.declared.procedure.Procedure.{Procedure}
use Rattle.nfs_args.specs.declared.procedure.MountProcedure.{MountProcedure}
use Rattle.nfs_args.specs.Programs.{NFS, MOUNT, version}
use Rattle.nfs_decode.specs.declared.reply.Called.{Called}
use Rattle.nfs_decode.specs.declared.reply.Called.TheVariants.{Nfs, Mount, Other}

abbrev pub nfs_called : Option Procedure → Called
nfs_called None = Other
nfs_called (Some p) = Nfs p

abbrev pub mount_called : Option MountProcedure → Called
mount_called None = Other
mount_called (Some p) = Mount p

-- by the numbers of the program and of the procedure
abbrev pub procedure_of : ℕ → ℕ → Called
procedure_of program procedure = if nat_eq program NFS then nfs_called (numbered procedure_number procedures procedure)
    else (if nat_eq program MOUNT then mount_called (numbered mount_number mount_procedures procedure) else Other)

abbrev pub head_called : Result (Call × List ℕ) RpcFault → Called
head_called (Ok head) = if nat_eq head.0.vers version then procedure_of head.0.prog head.0.proc else Other
head_called (Err fault) = Other

-- by the head of its record
abbrev pub called_by : List ℕ → Called
called_by bytes = head_called (head_at bytes)

abbrev pub called_name : Called → List ℕ
called_name (Nfs p) = procedure_name p
called_name (Mount p) = mount_procedure_name p
called_name Other = codes "call"
