use Rattle.std.proofs.Common.{ap, ◌∙◌}
use Rattle.nfs_inodes.specs.Reading.{cookie_of_next}
use Rattle.nfs_inodes.proofs.Readers.{seen_cookie}
use Rattle.nfs_inodes.proofs.tree.Tree.next_cookie_in.Goals as goal

pub returns : goal.returns
returns c = c.cookie_of_next.ensures ∙ ap cookie_of_next c.node.ensures ∙ seen_cookie c.args.self.now c.args.dir.now c.requires
