use Rattle.std.proofs.Common.{◌∙◌}
use Rattle.nfs_inodes.proofs.Readers.{reading_there}
use Rattle.nfs_inodes.proofs.tree.Tree.read_handle.Goals as goal

pub returns : goal.returns
returns c = c.read.ensures ∙ reading_there c.self.inside.files c.self.inside.volumes.items c.args.self.now c.self.view_is c.args.handle.now
