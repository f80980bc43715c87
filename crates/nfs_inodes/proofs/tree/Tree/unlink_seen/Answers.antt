use Rattle.nfs_inodes.proofs.KeptRemovals.{removes_seen, stands_seen}
use Rattle.nfs_inodes.proofs.tree.Tree.unlink_seen.Goals as goal

pub take_out-requires-clause-removes : goal.take_out-requires-clause-removes
take_out-requires-clause-removes c = removes_seen c.self.inside.files c.self.inside.volumes.items c.args.self.now c.args.dir.0 c.args.name.now c.args.number.0 c.args.file c.self.view_is c.self.invariant c.requires

pub take_out-requires-clause-stands : goal.take_out-requires-clause-stands
take_out-requires-clause-stands c = stands_seen c.self.inside.files c.self.inside.volumes.items c.args.self.now c.args.dir.0 c.args.name.now c.args.number.0 c.args.file c.self.view_is c.self.invariant c.requires
