use Rattle.std.proofs.Common.{◌≡◌, drop}
use Rattle.nfs_inodes.specs.Limits.{default_limits}
use Rattle.nfs_disk.specs.Heads.{limits_of}
use Rattle.nfs_disk.specs.Needs.{larger}
use Rattle.nfs_disk.proofs.head.limits_of.Given as goal

abbrev pub invariant-loop-volume : goal.invariant-loop-volume
invariant-loop-volume l = (larger l.limits (limits_of (drop l.volume-index l.volumes)) ≡ limits_of l.volumes) × (larger l.limits default_limits ≡ l.limits)
