use Rattle.std.proofs.Common.{sym, ◌∙◌}
use Rattle.nfs_inodes.proofs.Readers.{few_volumes, found_there, reading_there}
use Rattle.nfs_inodes.proofs.tree.Tree.find.Goals as goal

pub new-requires : goal.new-requires
new-requires c = few_volumes c.self.inside.files c.self.inside.volumes.items c.self.invariant c.in-Ok.number.0 c.in-Ok.stored_file.now (sym c.in-Ok.ensures.found.1)

pub returns-in-Ok-clause-found : goal.returns-in-Ok-clause-found
returns-in-Ok-clause-found c = found_there c.self.inside.files c.self.inside.volumes.items c.args.self.now c.self.view_is c.self.invariant c.args.handle.now c.in-Ok.number c.in-Ok.stored_file.now c.new.result c.in-Ok.ensures.found.0 c.in-Ok.ensures.found.1 c.new.ensures.attributes c.new.ensures.kind

pub returns-in-Err-clause-none : goal.returns-in-Err-clause-none
returns-in-Err-clause-none c = sym (reading_there c.self.inside.files c.self.inside.volumes.items c.args.self.now c.self.view_is c.args.handle.now) ∙ c.in-Err.ensures.none
