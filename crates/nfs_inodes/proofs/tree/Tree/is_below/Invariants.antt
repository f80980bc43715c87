use Rattle.nfs_inodes.proofs.Walks.{Climbed}
use Rattle.nfs_inodes.proofs.tree.Tree.is_below.Given as goal

abbrev pub invariant-loop-step : goal.invariant-loop-step
invariant-loop-step l = Climbed l.fn.self.files l.fn.dir.0 l.fn.above.0 l.at.0 l.step
