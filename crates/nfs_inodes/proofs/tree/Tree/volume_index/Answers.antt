use Rattle.nfs_inodes.proofs.Views.{place_there, place_none}
use Rattle.nfs_inodes.proofs.tree.Tree.volume_index.Goals as goal

pub returns-in-Some : goal.returns-in-Some
returns-in-Some c = place_there c.self.inside.files c.self.inside.volumes.items c.args.self.now c.self.view_is c.args.number.0 c.in-Some.stored_file.now c.in-Some.ensures

pub returns-in-None : goal.returns-in-None
returns-in-None c = place_none c.self.inside.files c.self.inside.volumes.items c.args.self.now c.self.view_is c.args.number.0 c.in-None.ensures
