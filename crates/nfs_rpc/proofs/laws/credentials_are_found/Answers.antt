use Rattle.nfs_xdr.proofs.Finding.{once}
use Rattle.nfs_rpc.specs.AuthSys.{IsAuthSys, cred_at}
use Rattle.nfs_rpc.proofs.AuthSys.{finds_cred}
use Rattle.nfs_rpc.proofs.laws.credentials_are_found.Goals as goal

pub returns : goal.returns
returns c = record { found = finds_cred; once = once IsAuthSys cred_at finds_cred }
