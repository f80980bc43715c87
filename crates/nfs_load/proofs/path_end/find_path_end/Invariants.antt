use Rattle.std.proofs.Common.{◌≡◌, length}
use Rattle.nfs_load.specs.PathEnds.{end_at, end_after}
use Rattle.nfs_load.proofs.path_end.find_path_end.Given as goal

abbrev pub invariant-loop-next : goal.invariant-loop-next
invariant-loop-next l = end_at l.tree l.fn.root.0 l.path ≡ end_after l.tree l.dir.0 l.name l.names

abbrev pub decreases-loop-next : goal.decreases-loop-next
decreases-loop-next l = length l.names
