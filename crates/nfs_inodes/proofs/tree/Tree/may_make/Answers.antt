use Rattle.nfs_inodes.proofs.Tests.{never, may_make_there, may_make_none}
use Rattle.nfs_inodes.proofs.tree.Tree.may_make.Goals as goal

pub returns-in-Some : goal.returns-in-Some
returns-in-Some c = may_make_there c.self.inside.files c.self.inside.volumes.items c.args.self.now c.self.view_is c.args.dir.0 c.args.size c.in-Some.stored_file.now c.args.name.now c.takes_file.result c.in-Some.ensures c.takes_file.ensures

pub returns-in-None : goal.returns-in-None
returns-in-None c = never (may_make_none c.self.inside.files c.self.inside.volumes.items c.args.self.now c.self.view_is c.args.dir.0 c.args.size c.args.name.now c.in-None.ensures)
