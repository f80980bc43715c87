-- The credential of AUTH_SYS (RFC 5531, section 8.2 and appendix A).
use Rattle.std.specs.Prelude.{◌≡◌, ℕ, List, [], Result, Ok, Err, Option, Some, None}
use Rattle.std.specs.Int.{w32}
use Rattle.nfs_xdr.specs.Encoding.{IsNumber, IsOpaque, IsArray, ◌⨾◌}
use Rattle.nfs_xdr.specs.Reading.{Read, ◌>>=◌, number_at, opaque_at, array_at}
use Rattle.nfs_xdr.specs.declared.fault.XdrFault.{XdrFault}
use Rattle.nfs_rpc.specs.declared.auth_sys.Cred.{Cred}
use Rattle.nfs_rpc.specs.declared.auth_sys.BadCred.{BadCred}

-- who calls: a user, its group, and more groups that it is in
pub record Credential : Type 0 where
  pub uid : ℕ
  pub gid : ℕ
  pub gids : List ℕ

-- the credential of nobody, by which nothing is granted
abbrev pub NOBODY : Credential
NOBODY = record { uid = 4294967295; gid = 4294967295; gids = [] }

-- from where: a number of the client's choice, and the machine's name
pub record Sender : Type 0 where
  pub stamp : ℕ
  pub machine : List ℕ

-- authsys_parms, whose name has at most 255 bytes, and whose groups are at most 16
abbrev pub IsParms : Sender × Credential → List ℕ → Type 0
IsParms p = IsNumber w32 p.0.stamp ⨾ IsOpaque 255 p.0.machine ⨾ IsNumber w32 p.1.uid ⨾ IsNumber w32 p.1.gid ⨾ IsArray (IsNumber w32) 16 p.1.gids

-- the sender is read and not judged
abbrev pub IsAuthSys : Credential → List ℕ → Type 0
IsAuthSys cred text = (sender : Sender) × IsParms (sender, cred) text

-- ---- the same from left to right

abbrev pub parms_at : List ℕ → Read (Sender × Credential)
parms_at bytes = do
  stamp ← number_at w32 bytes
  machine ← opaque_at 255 stamp.1
  uid ← number_at w32 machine.1
  gid ← number_at w32 uid.1
  gids ← array_at (number_at w32) 16 gid.1
  Ok ((record { stamp = stamp.0; machine = machine.0 }, record { uid = uid.0; gid = gid.0; gids = gids.0 }), gids.1)

abbrev pub cred_at : List ℕ → Read Credential
cred_at bytes = do
  p ← parms_at bytes
  Ok (p.0.1, p.1)

-- a value that was read, whatever follows it
abbrev pub value_of : {A : Type 0} → Read A → Option A
value_of (Ok x) = Some x.0
value_of (Err e) = None

-- who calls by a credential of this body, if the body is one
abbrev pub caller : List ℕ → Option Credential
caller body = value_of (cred_at body)

-- what a credential that was read says
abbrev pub credential_of : Cred → Credential
credential_of c = record { uid = c.uid; gid = c.gid; gids = c.gids.items }

abbrev pub answered_credential : Result Cred BadCred → Option Credential
answered_credential (Ok c) = Some (credential_of c)
answered_credential (Err e) = None

-- the same where it was read into this one, which a fault leaves as nobody's
abbrev pub credential_left : Result Unit BadCred → Cred → Option Credential
credential_left (Ok x) c = Some (credential_of c)
credential_left (Err e) c = None

-- What was answered is what reading gives, where a fault may have taken some of the items.
abbrev pub GivesOrFails : {X A : Type 0} → (X → A) → List ℕ → Result X XdrFault → Read A → Type 0
GivesOrFails view new (Ok x) read = read ≡ Ok (view x, new)
GivesOrFails view new (Err e) read = read ≡ Err e
