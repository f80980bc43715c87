use Rattle.std.proofs.Common.{None, ◌∙◌, refl}
use Rattle.nfs_inodes.specs.Tree.{File}
use Rattle.nfs_inodes.specs.Storage.{kind_of}
use Rattle.nfs_inodes.specs.Reading.{path_of}
use Rattle.nfs_inodes.proofs.Readers.{seen, unseen}
use Rattle.nfs_inodes.proofs.tree.Tree.link_path.Goals as goal

pub returns-in-Some : goal.returns-in-Some
returns-in-Some c = c.path_of.ensures ∙ seen c.self.inside.files c.self.inside.volumes.items c.args.self.now c.self.view_is None (λ (f : File). path_of f.kind) c.args.number.0 c.in-Some.stored_file.now (path_of (kind_of c.in-Some.stored_file.now.node)) c.in-Some.ensures (λ tag. refl)

pub returns-in-None : goal.returns-in-None
returns-in-None c = unseen c.self.inside.files c.self.inside.volumes.items c.args.self.now c.self.view_is None (λ (f : File). path_of f.kind) c.args.number.0 c.in-None.ensures
