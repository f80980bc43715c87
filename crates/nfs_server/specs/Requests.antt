-- What a call asks for, and who asks (RFC 1813, section 3.3, and appendix I, section 5.2).
use Rattle.std.specs.Prelude.{ℕ, Bool, List, Option, Some, None, Result, Ok, Err, is_none, nat_eq, option_map, if◌then◌else◌}
use Rattle.nfs_args.specs.Programs.{NFS}
use Rattle.nfs_args.specs.Procedures.{procedure_number, procedures, mount_number, mount_procedures}
use Rattle.nfs_args.specs.Reading.{args_at, mount_args_at}
use Rattle.nfs_args.specs.declared.args.NfsArgs.{NfsArgs}
use Rattle.nfs_args.specs.declared.mount_args.MountArgs.{MountArgs}
use Rattle.nfs_args.specs.declared.unreadable.Unreadable.{Unreadable}
use Rattle.nfs_exports.specs.declared.addr.Addr.{Addr}
use Rattle.nfs_inodes.specs.Tree.{on_some}
use Rattle.nfs_rpc.specs.AuthSys.{Credential, caller}
use Rattle.nfs_rpc.specs.Calls.{Call}
use Rattle.nfs_rules.specs.Subjects.{Caller}
use Rattle.nfs_xdr.specs.Reading.{Read, numbered}

-- ---- programs and procedures

-- a call that keeps the rule program and is not of NFS is of MOUNT
abbrev pub is_nfs : Call → Bool
is_nfs call = nat_eq call.prog NFS

-- of NULL neither credential nor arguments are looked at
abbrev pub is_null : Call → Bool
is_null call = nat_eq call.proc 0

-- ---- arguments

abbrev pub read_args : {A : Type 0} → Read A → Option A
read_args (Ok read) = Some read.0
read_args (Err fault) = None

-- the arguments that stand in front, if some do, of the procedure of this number, of NFS and of MOUNT
abbrev pub args_in : ℕ → List ℕ → Option NfsArgs
args_in proc bytes = on_some (numbered procedure_number procedures proc) None (λ procedure. read_args (args_at procedure bytes))

abbrev pub mount_args_in : ℕ → List ℕ → Option MountArgs
mount_args_in proc bytes = on_some (numbered mount_number mount_procedures proc) None (λ procedure. read_args (mount_args_at procedure bytes))

-- what was read in the place of other arguments, if anything was
abbrev pub args_read : Result (Unit {0}) Unreadable → NfsArgs → Option NfsArgs
args_read (Ok done) args = Some args
args_read (Err refusal) args = None

-- whether none of the call's procedure stand in front
abbrev pub lacks_args : Call → List ℕ → Bool
lacks_args call bytes = if is_nfs call then is_none (args_in call.proc bytes) else is_none (mount_args_in call.proc bytes)

-- ---- requests

-- nothing, for NULL; something of NFS, by who calls; or something of MOUNT, by whoever has the address
pub data Request : Type 0 where
  Nothing : Request
  OfNfs : Caller → NfsArgs → Request
  OfMount : MountArgs → Request

-- where the credential and the arguments can be read
abbrev pub asked : Addr → Option Credential → Option NfsArgs → Option Request
asked addr (Some cred) (Some args) = Some (OfNfs (record { addr = addr; cred = cred }) args)
asked addr (Some cred) None = None
asked addr None args = None

abbrev pub request_of : Addr → Call → List ℕ → Option Request
request_of addr call bytes =
    if is_null call then Some Nothing
    else if is_nfs call then asked addr (caller call.cred.body) (args_in call.proc bytes)
    else option_map OfMount (mount_args_in call.proc bytes)
