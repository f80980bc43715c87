use Rattle.std.proofs.Common.{nat_lt, List, [], ap, ◌∙◌, refl}
use Rattle.std.specs.List.{find}
use Rattle.nfs_inodes.specs.Tree.{File, Entry}
use Rattle.nfs_inodes.specs.Storage.{kind_of}
use Rattle.nfs_inodes.specs.Reading.{listing}
use Rattle.nfs_inodes.proofs.Readers.{seen, unseen}
use Rattle.nfs_inodes.proofs.tree.Tree.entry_after.Goals as goal

pub returns-in-Some : goal.returns-in-Some
returns-in-Some c = c.after_cookie.ensures ∙ ap (λ (l : List Entry). find (λ (e : Entry). nat_lt c.args.cookie e.cookie) l)
    (seen c.self.inside.files c.self.inside.volumes.items c.args.self.now c.self.view_is [] (λ (f : File). listing c.args.dir.0 f.kind) c.args.dir.0 c.in-Some.stored_file.now (listing c.args.dir.0 (kind_of c.in-Some.stored_file.now.node)) c.in-Some.ensures (λ tag. refl))

pub returns-in-None : goal.returns-in-None
returns-in-None c = ap (λ (l : List Entry). find (λ (e : Entry). nat_lt c.args.cookie e.cookie) l)
    (unseen c.self.inside.files c.self.inside.volumes.items c.args.self.now c.self.view_is [] (λ (f : File). listing c.args.dir.0 f.kind) c.args.dir.0 c.in-None.ensures)
