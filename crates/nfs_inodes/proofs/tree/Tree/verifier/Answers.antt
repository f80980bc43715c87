use Rattle.std.proofs.Common.{None, refl}
use Rattle.nfs_inodes.specs.Tree.{File}
use Rattle.nfs_inodes.proofs.Readers.{seen, unseen}
use Rattle.nfs_inodes.proofs.tree.Tree.verifier.Goals as goal

pub returns-in-Some : goal.returns-in-Some
returns-in-Some c = seen c.self.inside.files c.self.inside.volumes.items c.args.self.now c.self.view_is None (λ (f : File). f.verifier) c.args.number.0 c.in-Some.stored_file.now c.in-Some.stored_file.now.verifier c.in-Some.ensures (λ tag. refl)

pub returns-in-None : goal.returns-in-None
returns-in-None c = unseen c.self.inside.files c.self.inside.volumes.items c.args.self.now c.self.view_is None (λ (f : File). f.verifier) c.args.number.0 c.in-None.ensures
