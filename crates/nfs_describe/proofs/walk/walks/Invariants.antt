use Rattle.std.proofs.Common.{◌≤◌, ◌-◌, length}
use Rattle.nfs_describe.specs.Places.{walks_of}
use Rattle.nfs_describe.proofs.Walks.{AreFirst}
use Rattle.nfs_describe.proofs.walk.walks.Given as goal

abbrev pub invariant-loop-volume : goal.invariant-loop-volume
invariant-loop-volume l = record {
  within : length l.walks.items ≤ length l.tree.volumes;
  first : AreFirst l.tree (length l.walks.items) (walks_of l.walks.items);
}

abbrev pub decreases-loop-volume : goal.decreases-loop-volume
decreases-loop-volume l = length l.tree.volumes - length l.walks.items
