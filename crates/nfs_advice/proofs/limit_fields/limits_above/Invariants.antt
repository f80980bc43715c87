use Rattle.nfs_inodes.specs.Limits.{AreLimits}
use Rattle.nfs_advice.proofs.limit_fields.limits_above.Given as goal

abbrev pub invariant-loop-line : goal.invariant-loop-line
invariant-loop-line l =
    (goal.iterator-loop-line).can_next l.line-iterator ×
    (goal.iterator-loop-line).is_finite l.line-iterator ×
    AreLimits l.limits
