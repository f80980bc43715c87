use Rattle.std.proofs.Common.{ap, ◌∙◌}
use Rattle.nfs_inodes.specs.Reading.{path_of}
use Rattle.nfs_inodes.proofs.Readers.{seen_path}
use Rattle.nfs_inodes.proofs.tree.Tree.link_path_of.Goals as goal

pub returns : goal.returns
returns c = c.path_of.ensures ∙ ap path_of c.node.ensures ∙ seen_path c.args.self.now c.args.link.now c.requires
