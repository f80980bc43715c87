use Rattle.std.proofs.Common.{◌≡◌, drop}
use Rattle.std.specs.Prelude.{max}
use Rattle.nfs_disk.specs.Needs.{largest}
use Rattle.nfs_disk.proofs.needs.largest.Given as goal

abbrev pub invariant-loop-one : goal.invariant-loop-one
invariant-loop-one l = max l.most (largest l.kind (drop l.one-index l.found)) ≡ largest l.kind l.found
