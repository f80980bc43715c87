-- The rules of RPC (RFC 5531, section 9), and the reply of each where it is the first that fails.
use Rattle.std.specs.Prelude.{ℕ, Bool, not, ◌||◌, ◌&&◌, List, [], ◌∷◌, ◌++◌, Option, is_none, is_some, nat_eq, find, if◌then◌else◌, codes}
use Rattle.nfs_args.specs.Programs.{NFS, MOUNT, version}
use Rattle.nfs_args.specs.Procedures.{procedure_number, procedures, mount_number, mount_procedures}
use Rattle.nfs_rpc.specs.AuthSys.{caller}
use Rattle.nfs_rpc.specs.Calls.{Call, rpc_version}
use Rattle.nfs_rpc.specs.Replies.{accepted_text, refused_text}
use Rattle.nfs_rpc.specs.declared.reply.Accept.TheVariants.{ProgUnavail, ProgMismatch, ProcUnavail, GarbageArgs}
use Rattle.nfs_rpc.specs.declared.reply.Refused.TheVariants.{RpcMismatch, BadCred, RejectedCred, TooWeak}
use Rattle.nfs_server.specs.declared.rpc_rules.RpcRule.{RpcRule}
use Rattle.nfs_server.specs.declared.rpc_rules.RpcRule.TheVariants.{Version, Program, ProgramVersion, Procedure, Flavor, Credential, WeakCredential, Arguments}
use Rattle.nfs_server.specs.Requests.{is_nfs, is_null, lacks_args}
use Rattle.nfs_xdr.specs.Reading.{numbered}

-- the flavors of credentials
abbrev pub AUTH_NONE : ℕ
AUTH_NONE = 0

abbrev pub AUTH_SYS : ℕ
AUTH_SYS = 1

-- whether a program has a procedure of the number
abbrev pub has_procedure : ℕ → ℕ → Bool
has_procedure prog proc = if nat_eq prog NFS then is_some (numbered procedure_number procedures proc) else is_some (numbered mount_number mount_procedures proc)

-- whether a call, with what stands after its head, fails the rule
abbrev pub fails_rpc : Call → List ℕ → RpcRule → Bool
fails_rpc call bytes Version = not (nat_eq call.rpcvers rpc_version)
fails_rpc call bytes Program = not (nat_eq call.prog NFS || nat_eq call.prog MOUNT)
fails_rpc call bytes ProgramVersion = not (nat_eq call.vers version)
fails_rpc call bytes Procedure = not (has_procedure call.prog call.proc)
fails_rpc call bytes Flavor = not (is_null call) && not (nat_eq call.cred.flavor AUTH_NONE || nat_eq call.cred.flavor AUTH_SYS)
fails_rpc call bytes Credential = not (is_null call) && (nat_eq call.cred.flavor AUTH_SYS && is_none (caller call.cred.body))
fails_rpc call bytes WeakCredential = not (is_null call) && (is_nfs call && nat_eq call.cred.flavor AUTH_NONE)
fails_rpc call bytes Arguments = not (is_null call) && lacks_args call bytes

-- the rules, in order: those of the head alone, those of who calls, and that of what for
abbrev pub head_rules : List RpcRule
head_rules = Version ∷ Program ∷ ProgramVersion ∷ Procedure ∷ []

abbrev pub caller_rules : List RpcRule
caller_rules = Flavor ∷ Credential ∷ WeakCredential ∷ []

abbrev pub rpc_rules : List RpcRule
rpc_rules = head_rules ++ caller_rules ++ Arguments ∷ []

-- the first that fails
abbrev pub rpc_failure_of : Call → List ℕ → Option RpcRule
rpc_failure_of call bytes = find (fails_rpc call bytes) rpc_rules

-- the reply to a call that fails it
abbrev pub rpc_reply : RpcRule → ℕ → List ℕ
rpc_reply Version xid = refused_text xid RpcMismatch
rpc_reply Program xid = accepted_text xid ProgUnavail
rpc_reply ProgramVersion xid = accepted_text xid ProgMismatch
rpc_reply Procedure xid = accepted_text xid ProcUnavail
rpc_reply Flavor xid = refused_text xid RejectedCred
rpc_reply Credential xid = refused_text xid BadCred
rpc_reply WeakCredential xid = refused_text xid TooWeak
rpc_reply Arguments xid = accepted_text xid GarbageArgs

-- what audit lines call the rule
abbrev pub rpc_name : RpcRule → List ℕ
rpc_name Version = codes "version"
rpc_name Program = codes "program"
rpc_name ProgramVersion = codes "program-version"
rpc_name Procedure = codes "procedure"
rpc_name Flavor = codes "flavor"
rpc_name Credential = codes "credential"
rpc_name WeakCredential = codes "weak-credential"
rpc_name Arguments = codes "arguments"

-- and what they call its reply
abbrev pub rpc_status : RpcRule → List ℕ
rpc_status Version = codes "rpc-mismatch"
rpc_status Program = codes "prog-unavail"
rpc_status ProgramVersion = codes "prog-mismatch"
rpc_status Procedure = codes "proc-unavail"
rpc_status Flavor = codes "rejectedcred"
rpc_status Credential = codes "badcred"
rpc_status WeakCredential = codes "tooweak"
rpc_status Arguments = codes "garbage-args"
