use Rattle.std.proofs.Common.{sym}
use Rattle.nfs_procs.proofs.Creations.{lives_taken}
use Rattle.nfs_procs.proofs.creation.take.Goals as goal

pub set_given-requires-clause-file : goal.set_given-requires-clause-file
set_given-requires-clause-file c = lives_taken c.args.tree.now c.args.file.now.attributes.fileid c.in-Some.size c.args.how.now c.requires (sym c.in-Some.ensures)
