use Rattle.std.proofs.Common.{None, option_map, refl, ap, ◌∙◌}
use Rattle.nfs_inodes.specs.Tree.{File, Entry, entries_in}
use Rattle.nfs_inodes.specs.Storage.{kind_of}
use Rattle.nfs_inodes.specs.Reading.{entry_named}
use Rattle.nfs_inodes.proofs.Readers.{seen, unseen}
use Rattle.nfs_inodes.proofs.tree.Tree.entry.Goals as goal

pub returns-in-Some : goal.returns-in-Some
returns-in-Some c = c.entry_named.ensures ∙ ap (option_map (λ (e : Entry). e.number)) (seen c.self.inside.files c.self.inside.volumes.items c.args.self.now c.self.view_is None (λ (f : File). entry_named c.args.name.now (entries_in f.kind)) c.args.dir.0 c.in-Some.stored_file.now (entry_named c.args.name.now (entries_in (kind_of c.in-Some.stored_file.now.node))) c.in-Some.ensures (λ tag. refl))

pub returns-in-None : goal.returns-in-None
returns-in-None c = ap (option_map (λ (e : Entry). e.number)) (unseen c.self.inside.files c.self.inside.volumes.items c.args.self.now c.self.view_is None (λ (f : File). entry_named c.args.name.now (entries_in f.kind)) c.args.dir.0 c.in-None.ensures)
