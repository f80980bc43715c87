use Rattle.std.proofs.Common.{sym, subst}
use Rattle.nfs_inodes.specs.Law.{Lives}
use Rattle.nfs_inodes.specs.Tree.{File}
use Rattle.nfs_procs.proofs.GivenSettings.{lives_sized}
use Rattle.nfs_procs.proofs.settings.set_given.Goals as goal

pub set-requires : goal.set-requires
set-requires c = subst (λ t. (f : File) × Lives t c.args.number.0 f) (sym c.in_ok-set_size.ensures.ok) (lives_sized c.args.tree.now c.args.number.0 c.args.given.now.size c.args.now c.requires.file.0 c.requires.file.1)
