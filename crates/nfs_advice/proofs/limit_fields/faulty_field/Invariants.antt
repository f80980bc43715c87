use Rattle.nfs_inodes.specs.Limits.{AreLimits}
use Rattle.nfs_advice.proofs.limit_fields.faulty_field.Given as goal

abbrev pub invariant-loop-place : goal.invariant-loop-place
invariant-loop-place l = AreLimits l.limits
