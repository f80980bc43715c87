use Rattle.std.proofs.Common.{Some, ap, option_map, ◌∙◌}
use Rattle.std.specs.Prelude.{slice_get}
use Rattle.nfs_inodes.specs.Storage.{volume_of}
use Rattle.nfs_inodes.proofs.Readers.{volume_there}
use Rattle.nfs_inodes.proofs.tree.Tree.volume.Goals as goal

pub returns-in-Some : goal.returns-in-Some
returns-in-Some c = ap Some c.view_of.ensures ∙ ap (option_map volume_of) (c.in-Some.ensures ∙ ap (λ vs. slice_get vs c.args.index) c.as_slice.ensures.value) ∙ volume_there c.self.inside.files c.self.inside.volumes.items c.args.self.now c.self.view_is c.args.index

pub returns-in-None : goal.returns-in-None
returns-in-None c = ap (option_map volume_of) (c.in-None.ensures ∙ ap (λ vs. slice_get vs c.args.index) c.as_slice.ensures.value) ∙ volume_there c.self.inside.files c.self.inside.volumes.items c.args.self.now c.self.view_is c.args.index
