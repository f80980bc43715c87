use Rattle.std.proofs.Common.{None, ◌∙◌, refl}
use Rattle.nfs_inodes.specs.Tree.{File}
use Rattle.nfs_inodes.specs.Storage.{kind_of}
use Rattle.nfs_inodes.specs.Reading.{cookie_of_next}
use Rattle.nfs_inodes.proofs.Readers.{seen, unseen}
use Rattle.nfs_inodes.proofs.tree.Tree.next_cookie.Goals as goal

pub returns-in-Some : goal.returns-in-Some
returns-in-Some c = c.cookie_of_next.ensures ∙ seen c.self.inside.files c.self.inside.volumes.items c.args.self.now c.self.view_is None (λ (f : File). cookie_of_next f.kind) c.args.dir.0 c.in-Some.stored_file.now (cookie_of_next (kind_of c.in-Some.stored_file.now.node)) c.in-Some.ensures (λ tag. refl)

pub returns-in-None : goal.returns-in-None
returns-in-None c = unseen c.self.inside.files c.self.inside.volumes.items c.args.self.now c.self.view_is None (λ (f : File). cookie_of_next f.kind) c.args.dir.0 c.in-None.ensures
