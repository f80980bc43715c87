-- Call messages (RFC 5531, sections 8.2 and 9).
use Rattle.std.specs.Prelude.{◌≡◌, ◌≢◌, ℕ, List, Result, Ok, Err, if◌then◌else◌, nat_eq}
use Rattle.std.specs.Int.{w32}
use Rattle.nfs_xdr.specs.Encoding.{IsNumber, IsOpaque, ◌⨾◌, Begins}
use Rattle.nfs_xdr.specs.Reading.{Read, ◌>>=◌, number_at, opaque_at}
use Rattle.nfs_rpc.specs.declared.call.RpcFault.{RpcFault}
use Rattle.nfs_rpc.specs.declared.call.RpcFault.TheVariants.{NotCall, Unreadable}
use Rattle.nfs_rpc.specs.declared.call.CallHead.{CallHead}

-- a credential or a verifier: its flavor, and the bytes that the flavor gives a meaning
pub record Auth : Type 0 where
  pub flavor : ℕ
  pub body : List ℕ

-- opaque_auth, whose body has at most 400 bytes
abbrev pub IsAuth : Auth → List ℕ → Type 0
IsAuth auth = IsNumber w32 auth.flavor ⨾ IsOpaque 400 auth.body

-- what the head of a call says: the call's number, the RPC version, whose procedure is called, and by whom
pub record Call : Type 0 where
  pub xid : ℕ
  pub rpcvers : ℕ
  pub prog : ℕ
  pub vers : ℕ
  pub proc : ℕ
  pub cred : Auth

-- the version of RPC
abbrev pub rpc_version : ℕ
rpc_version = 2

-- a call's message type is 0
abbrev pub CALL : ℕ
CALL = 0

-- the head of a call, whose verifier is read and not judged; the arguments follow it
abbrev pub IsCall : Call × Auth → List ℕ → Type 0
IsCall m = IsNumber w32 m.0.xid ⨾ IsNumber w32 CALL ⨾ IsNumber w32 m.0.rpcvers ⨾ IsNumber w32 m.0.prog ⨾ IsNumber w32 m.0.vers
    ⨾ IsNumber w32 m.0.proc ⨾ IsAuth m.0.cred ⨾ IsAuth m.1

abbrev pub IsCallHead : Call → List ℕ → Type 0
IsCallHead call text = (verf : Auth) × IsCall (call, verf) text

-- the bytes begin with a number and another message type
pub record IsOtherMessage (bytes : List ℕ) : Type 0 where
  pub xid : ℕ
  pub kind : ℕ
  pub other : kind ≢ CALL
  pub rest : List ℕ
  pub begins : Begins (λ n. IsNumber w32 xid ⨾ IsNumber w32 n) kind bytes rest

-- ---- the same from left to right

-- an item, where no fault but one is distinguished
abbrev pub read : {A : Type 0} → Read A → Result (A × List ℕ) RpcFault
read (Ok x) = Ok x
read (Err e) = Err Unreadable

abbrev pub auth_at : List ℕ → Result (Auth × List ℕ) RpcFault
auth_at bytes = do
  flavor ← read (number_at w32 bytes)
  body ← read (opaque_at 400 flavor.1)
  Ok (record { flavor = flavor.0; body = body.0 }, body.1)

-- the message type is known once two words are there
abbrev pub kind_at : List ℕ → Result (Unit {0} × List ℕ) RpcFault
kind_at bytes = do
  kind ← read (number_at w32 bytes)
  if nat_eq kind.0 CALL then Ok (tt, kind.1) else Err NotCall

abbrev pub call_at : List ℕ → Result ((Call × Auth) × List ℕ) RpcFault
call_at bytes = do
  xid ← read (number_at w32 bytes)
  kind ← kind_at xid.1
  rpcvers ← read (number_at w32 kind.1)
  prog ← read (number_at w32 rpcvers.1)
  vers ← read (number_at w32 prog.1)
  proc ← read (number_at w32 vers.1)
  cred ← auth_at proc.1
  verf ← auth_at cred.1
  Ok ((record { xid = xid.0; rpcvers = rpcvers.0; prog = prog.0; vers = vers.0; proc = proc.0; cred = cred.0 }, verf.0), verf.1)

abbrev pub head_at : List ℕ → Result (Call × List ℕ) RpcFault
head_at bytes = do
  m ← call_at bytes
  Ok (m.0.0, m.1)

-- what a head says, without where it lies in memory
abbrev pub call_of : CallHead → Call
call_of h = record { xid = h.xid; rpcvers = h.rpcvers; prog = h.prog; vers = h.vers; proc = h.proc; cred = record { flavor = h.flavor; body = h.body.now } }

-- what was answered is what reading gives
abbrev pub GivesHead : Result CallHead RpcFault → Result (Call × List ℕ) RpcFault → Type 0
GivesHead (Ok h) read = read ≡ Ok (call_of h, h.args)
GivesHead (Err e) read = read ≡ Err e
