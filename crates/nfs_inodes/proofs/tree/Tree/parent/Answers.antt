use Rattle.std.proofs.Common.{◌∙◌, ap, refl}
use Rattle.nfs_handles.specs.declared.number.Number.{Number}
use Rattle.nfs_inodes.specs.Tree.{File, parent_in}
use Rattle.nfs_inodes.specs.Storage.{kind_of}
use Rattle.nfs_inodes.proofs.Readers.{seen, unseen}
use Rattle.nfs_inodes.proofs.tree.Tree.parent.Goals as goal

pub returns-in-Some : goal.returns-in-Some
returns-in-Some c = c.parent_of.ensures ∙ seen c.self.inside.files c.self.inside.volumes.items c.args.self.now c.self.view_is 0 (λ (f : File). parent_in f.kind) c.args.dir.0 c.in-Some.stored_file.now (parent_in (kind_of c.in-Some.stored_file.now.node)) c.in-Some.ensures (λ tag. refl)

pub returns-in-None : goal.returns-in-None
returns-in-None c = ap (λ (n : Number). n.0) c.new.ensures ∙ unseen c.self.inside.files c.self.inside.volumes.items c.args.self.now c.self.view_is 0 (λ (f : File). parent_in f.kind) c.args.dir.0 c.in-None.ensures
