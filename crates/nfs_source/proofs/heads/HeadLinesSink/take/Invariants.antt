use Rattle.std.proofs.Common.{length}
use Rattle.nfs_source.proofs.heads.HeadLinesSink.take.Given as goal

abbrev pub decreases-loop-part : goal.decreases-loop-part
decreases-loop-part l = length l.rest
