use Rattle.nfs_xdr.proofs.Finding.{once}
use Rattle.nfs_rpc.specs.Calls.{IsCallHead, head_at}
use Rattle.nfs_rpc.proofs.Calls.{finds_head}
use Rattle.nfs_rpc.proofs.laws.heads_are_found.Goals as goal

pub returns : goal.returns
returns c = record { found = finds_head; once = once IsCallHead head_at finds_head }
