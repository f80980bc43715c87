use Rattle.nfs_policy.proofs.Confined.{servers_are_confined}
use Rattle.nfs_policy.proofs.laws.servers_are_confined.Goals as goal

pub returns : goal.returns
returns c = servers_are_confined
