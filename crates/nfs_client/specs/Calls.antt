-- Which bytes are written for the head of a call (RFC 5531, section 9).
use Rattle.std.specs.Prelude.{ℕ, List, [], ◌∷◌, ◌++◌, length}
use Rattle.nfs_xdr.specs.Encoding.{opaque_text, numbers_text}
use Rattle.nfs_rpc.specs.AuthSys.{Credential}
use Rattle.nfs_args.specs.Programs.{version}
use Rattle.nfs_rpc.specs.Calls as rpc
use Rattle.nfs_rpc.specs.Calls.{rpc_version}
use Rattle.nfs_client.specs.declared.call_header.CallHeader.{CallHeader}

-- authsys_parms: the stamp 0, no name, the user, its group, and the number of more groups, which follow
abbrev pub auth_sys_text : Credential → List ℕ
auth_sys_text cred = numbers_text (0 ∷ 0 ∷ cred.uid ∷ cred.gid ∷ length cred.gids ∷ []) ++ numbers_text cred.gids

-- the number, the type of a call, the version of RPC, the program, its version, the procedure; AUTH_SYS with its body; no verifier
abbrev pub head_text : CallHeader → List ℕ → List ℕ
head_text call body =
    numbers_text (call.xid ∷ 0 ∷ rpc_version ∷ call.program ∷ version ∷ call.procedure ∷ 1 ∷ []) ++ (opaque_text body ++ numbers_text (0 ∷ 0 ∷ []))

-- what the head of a call says
abbrev pub call_said : CallHeader → List ℕ → rpc.Call
call_said call body = record {
  xid = call.xid;
  rpcvers = rpc_version;
  prog = call.program;
  vers = version;
  proc = call.procedure;
  cred = record { flavor = 1; body = body };
}
