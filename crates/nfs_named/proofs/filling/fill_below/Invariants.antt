use Rattle.std.proofs.Common.{◌≡◌, List, ◌++◌, drop, length, map}
use Rattle.nfs_named.specs.Lives.{Takes, found_of, path_line}
use Rattle.nfs_disk.specs.declared.building.Made.{Made}
use Rattle.nfs_named.proofs.filling.fill_below.Given as goal

abbrev pub invariant-loop-building : goal.invariant-loop-building
invariant-loop-building g l = (done : List Made) × (map found_of done ++ l.building ≡ drop 1 l.fn.survey.found.items) × Takes g.D.LifeDigest.has l.fn.digest (map path_line done) l.digest

abbrev pub decreases-loop-building : goal.decreases-loop-building
decreases-loop-building g l = length l.building
