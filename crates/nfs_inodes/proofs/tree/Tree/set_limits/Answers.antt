use Rattle.std.proofs.Common.{ap, ◌∙◌}
use Rattle.nfs_inodes.specs.Tree.{Tree}
use Rattle.nfs_inodes.specs.Storage.{counted_tree_of}
use Rattle.nfs_inodes.proofs.law.Opened.{agrees_limited}
use Rattle.nfs_inodes.proofs.tree.Tree.set_limits.Goals as goal

pub invariant_of-self : goal.invariant_of-self
invariant_of-self c = agrees_limited (counted_tree_of c.self.inside.limits c.self.inside.files c.self.inside.volumes.items) c.args.limits c.requires.are
    (ap (λ (t : Tree). t.volumes) c.self.view_is ∙ c.requires.none) c.self.invariant
