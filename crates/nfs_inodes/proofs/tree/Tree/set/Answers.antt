use Rattle.std.proofs.Common.{ap, ◌∙◌}
use Rattle.nfs_inodes.specs.Tree.{Tree}
use Rattle.nfs_inodes.specs.Changes.{after_set}
use Rattle.nfs_inodes.proofs.AttributeChanges.{is_there, stored_agree_after_set, stored_view_after_set}
use Rattle.nfs_inodes.proofs.tree.Tree.set.Goals as goal

pub set-requires : goal.set-requires
set-requires c = is_there c.self.inside.files c.self.inside.volumes.items c.args.self.now c.self.view_is c.args.number.0 c.requires.0 c.requires.1

pub invariant_of-self : goal.invariant_of-self
invariant_of-self c = stored_agree_after_set c.self.inside.files c.set.new.files c.self.inside.volumes.items c.args.number.0 c.args.given.now c.args.now c.self.invariant c.set.ensures

pub returns : goal.returns
returns c = stored_view_after_set c.self.inside.files c.set.new.files c.self.inside.volumes.items c.args.number.0 c.args.given.now c.args.now c.self.invariant c.set.ensures
    ∙ ap (λ (t : Tree). after_set t c.args.number.0 c.args.given.now c.args.now) c.self.view_is
