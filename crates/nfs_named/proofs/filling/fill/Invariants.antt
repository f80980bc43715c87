use Rattle.std.proofs.Common.{◌≡◌, List, ◌++◌, length}
use Rattle.std.specs.Vec.Iter.{into_iter_items}
use Rattle.nfs_named.specs.Lives.{AreMadeOf, MadeDirectory, Takes, directory_lines}
use Rattle.nfs_named.specs.declared.shared.SharedDirectory.{SharedDirectory}
use Rattle.nfs_named.proofs.filling.fill.Given as goal

abbrev pub invariant-loop-directory : goal.invariant-loop-directory
invariant-loop-directory g l = (taken : List SharedDirectory) × (done : List MadeDirectory) × (taken ++ into_iter_items l.left ≡ l.fn.directories.items) × (length taken ≡ l.index)
    × AreMadeOf taken done × Takes g.D.LifeDigest.has l.fn.digest (directory_lines 0 done) l.digest

abbrev pub decreases-loop-directory : goal.decreases-loop-directory
decreases-loop-directory g l = length (into_iter_items l.left)
