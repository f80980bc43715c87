use Rattle.std.proofs.Common.{ap, ◌∙◌}
use Rattle.nfs_handles.specs.Handles.{handle_at}
use Rattle.nfs_handles.specs.declared.number.Number.{Number}
use Rattle.nfs_inodes.specs.Reading.{numbered_files}
use Rattle.nfs_inodes.proofs.Readers.{handle_there}
use Rattle.nfs_inodes.proofs.tree.Tree.handle_of.Goals as goal

pub returns : goal.returns
returns c = c.handle_of.ensures ∙ handle_there c.self.inside.files c.self.inside.volumes.items c.args.self.now c.self.view_is c.new.result.0
    ∙ ap (λ (n : Number). handle_at (numbered_files c.args.self.now) n.0) c.new.ensures
