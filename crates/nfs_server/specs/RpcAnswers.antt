-- What is known of a call that keeps rules of RPC.
use Rattle.std.specs.Prelude.{◌≡◌, ℕ, List, Some, None, Result, Ok, Err, true, false}
use Rattle.std.specs.List.{find}
use Rattle.nfs_args.specs.Procedures.{procedure_number, procedures, mount_number, mount_procedures}
use Rattle.nfs_rpc.specs.AuthSys.{credential_of, caller}
use Rattle.nfs_rpc.specs.Calls.{Call}
use Rattle.nfs_rpc.specs.declared.auth_sys.Cred.{Cred}
use Rattle.nfs_server.specs.declared.rpc_rules.Admitted.{Admitted}
use Rattle.nfs_server.specs.declared.rpc_rules.Admitted.TheVariants.{Null, Nfs, Mount}
use Rattle.nfs_server.specs.declared.rpc_rules.RpcRule.{RpcRule}
use Rattle.nfs_server.specs.Requests.{is_nfs, is_null}
use Rattle.nfs_server.specs.RpcRules.{fails_rpc, head_rules, caller_rules}
use Rattle.nfs_xdr.specs.Reading.{numbered}

-- the first rule of the head that the call fails, and else whether it is NULL, and if not, which procedure of which program
abbrev pub Admits : Call → List ℕ → Result Admitted RpcRule → Type 0
Admits call bytes (Ok Null) = (find (fails_rpc call bytes) head_rules ≡ None) × (is_null call ≡ true)
Admits call bytes (Ok (Nfs procedure)) = (find (fails_rpc call bytes) head_rules ≡ None) × (is_nfs call ≡ true) × (is_null call ≡ false)
    × (numbered procedure_number procedures call.proc ≡ Some procedure)
Admits call bytes (Ok (Mount procedure)) = (find (fails_rpc call bytes) head_rules ≡ None) × (is_nfs call ≡ false) × (is_null call ≡ false)
    × (numbered mount_number mount_procedures call.proc ≡ Some procedure)
Admits call bytes (Err rule) = find (fails_rpc call bytes) head_rules ≡ Some rule

-- the first rule of the caller that the call fails, and else who calls
abbrev pub Identifies : Call → List ℕ → Cred → Result Unit RpcRule → Type 0
Identifies call bytes cred (Ok x) = (find (fails_rpc call bytes) caller_rules ≡ None) × (caller call.cred.body ≡ Some (credential_of cred))
Identifies call bytes cred (Err rule) = find (fails_rpc call bytes) caller_rules ≡ Some rule
