use Rattle.std.proofs.Common.{sym}
use Rattle.nfs_procs.proofs.Reading.{path_bound}
use Rattle.nfs_procs.proofs.readlink.path_of.Goals as goal

pub returns-in-Some-clause-bound : goal.returns-in-Some-clause-bound
returns-in-Some-clause-bound c = path_bound c.args.tree.now c.args.file.now.attributes.fileid c.in-Some.path.now c.law.ensures (sym c.in-Some.ensures)
