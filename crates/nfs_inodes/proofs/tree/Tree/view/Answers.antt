use Rattle.std.proofs.Common.{sym, ap}
use Rattle.nfs_attrs.specs.declared.fattr.Fattr.{Fattr}
use Rattle.nfs_inodes.proofs.Readers.{few_volumes, seen_there, attributes_none}
use Rattle.nfs_inodes.proofs.tree.Tree.view.Goals as goal

pub new-requires : goal.new-requires
new-requires c = few_volumes c.self.inside.files c.self.inside.volumes.items c.self.invariant c.args.number.0 c.in-Some.stored_file.now c.in-Some.ensures

pub returns-in-Some-clause-some : goal.returns-in-Some-clause-some
returns-in-Some-clause-some c = seen_there c.self.inside.files c.self.inside.volumes.items c.args.self.now c.self.view_is c.self.invariant c.args.number.0 c.in-Some.stored_file.now c.new.result c.in-Some.ensures c.new.ensures.attributes c.new.ensures.kind

pub returns-in-Some-clause-number : goal.returns-in-Some-clause-number
returns-in-Some-clause-number c = ap (λ (f : Fattr). f.fileid) c.new.ensures.attributes

pub returns-in-None-clause-none : goal.returns-in-None-clause-none
returns-in-None-clause-none c = sym (attributes_none c.self.inside.files c.self.inside.volumes.items c.args.self.now c.self.view_is c.args.number.0 c.in-None.ensures)
