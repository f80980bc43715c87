-- Reading the credential of AUTH_SYS finds its encoding.
use Rattle.std.proofs.Common.{◌≡◌, ℕ, List, Ok, Err, refl, subst}
use Rattle.std.specs.Int.{w32}
use Rattle.nfs_xdr.specs.declared.fault.XdrFault.{XdrFault}
use Rattle.nfs_xdr.specs.Encoding.{IsNumber, IsOpaque, IsArray, Begins, BeginsNone}
use Rattle.nfs_xdr.specs.Reading.{Finds, AreBytes, number_at}
use Rattle.nfs_xdr.proofs.Finding.{finds_as, finds_field, finds_last, finds_all, finds_image, finds_none}
use Rattle.nfs_xdr.proofs.Items.{finds_u32, finds_opaque, finds_array}
use Rattle.nfs_rpc.specs.AuthSys.{Credential, Sender, IsParms, IsAuthSys, parms_at, cred_at}

finds_parms : Finds IsParms parms_at
finds_parms =
    finds_all IsParms parms_at
    (finds_field _ (IsNumber w32) (λ (p : Sender × Credential). p.0.stamp) _ _ _ finds_u32 (λ stamp.
    finds_field _ (IsOpaque 255) (λ (p : Sender × Credential). p.0.machine) _ _ _ (finds_opaque 255) (λ machine.
    finds_field _ (IsNumber w32) (λ (p : Sender × Credential). p.1.uid) _ _ _ finds_u32 (λ uid.
    finds_field _ (IsNumber w32) (λ (p : Sender × Credential). p.1.gid) _ _ _ finds_u32 (λ gid.
    finds_last _ (IsArray (IsNumber w32) 16) (λ (p : Sender × Credential). p.1.gids) _ (λ gids. (record { stamp = stamp; machine = machine }, record { uid = uid; gid = gid; gids = gids })) (finds_array (IsNumber w32) (number_at w32) 16 finds_u32) (λ gids. (((((tt, refl), refl), refl), refl), refl)) (λ p gids known e i. (record { stamp = known.0.0.0.1 i; machine = known.0.0.1 i }, record { uid = known.0.1 i; gid = known.1 i; gids = e i })))))))

pub finds_cred : Finds IsAuthSys cred_at
finds_cred =
    finds_as (λ cred text. (p : Sender × Credential) × (p.1 ≡ cred) × IsParms p text) IsAuthSys cred_at
    (λ cred text s. (s.0.0, subst (λ c. IsParms (s.0.0, c) text) s.1 s.2))
    (λ cred text s. ((s.0, cred), refl, s.1))
    (finds_image IsParms (λ (p : Sender × Credential). p.1) parms_at finds_parms)

pub cred_read : (body : List ℕ) (cred : Credential) (rest : List ℕ) → AreBytes body → cred_at body ≡ Ok (cred, rest) → (rest : List ℕ) × Begins IsAuthSys cred body rest
cred_read body cred rest are e = (rest, finds_cred.found body cred rest are e)

pub cred_bad : (body : List ℕ) (fault : XdrFault) → cred_at body ≡ Err fault → BeginsNone IsAuthSys body
cred_bad body fault e = finds_none IsAuthSys cred_at body fault finds_cred e
