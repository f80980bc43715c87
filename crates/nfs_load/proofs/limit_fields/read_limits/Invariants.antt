use Rattle.std.proofs.Common.{◌≡◌}
use Rattle.nfs_inodes.specs.Limits.{AreLimits}
use Rattle.nfs_text.specs.Words.{words_left}
use Rattle.nfs_load.specs.LimitFields.{limits_in}
use Rattle.nfs_load.proofs.limit_fields.read_limits.Given as goal

abbrev pub invariant-loop-field : goal.invariant-loop-field
invariant-loop-field l = AreLimits l.limits × (limits_in l.limits (words_left l.field-iterator) ≡ limits_in l.fn.old (words_left l.fields))
