use Rattle.std.proofs.Common.{bytes_eq, map, ap, ◌∙◌}
use Rattle.nfs_inodes.specs.Tree.{Volume}
use Rattle.nfs_inodes.specs.Storage.{volume_of}
use Rattle.nfs_inodes.specs.Reading.{index_where}
use Rattle.nfs_inodes.proofs.Readers.{volumes_there}
use Rattle.nfs_inodes.proofs.tree.Tree.volume_named.Goals as goal

pub returns : goal.returns
returns c = c.index_of.ensures ∙ ap (index_where (λ (v : Volume). bytes_eq v.path c.args.path.now)) (ap (map volume_of) c.as_slice.ensures.value ∙ volumes_there c.self.inside.files c.self.inside.volumes.items c.args.self.now c.self.view_is)
