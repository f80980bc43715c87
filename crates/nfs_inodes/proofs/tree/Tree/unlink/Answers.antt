use Rattle.nfs_inodes.proofs.KeptRemovals.{removes_found}
use Rattle.nfs_inodes.proofs.tree.Tree.unlink.Goals as goal

pub take_out-requires-clause-removes : goal.take_out-requires-clause-removes
take_out-requires-clause-removes c = removes_found c.self.inside.files c.self.inside.volumes.items c.args.self.now c.args.dir.0 c.args.name.now c.in-Some.number.0 c.self.view_is c.self.invariant c.requires c.in-Some.ensures
