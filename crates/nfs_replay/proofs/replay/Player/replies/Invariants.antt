use Rattle.std.proofs.Common.{length}
use Rattle.nfs_replay.proofs.replay.Player.replies.Given as goal

abbrev pub decreases-loop-rest : goal.decreases-loop-rest
decreases-loop-rest g l = length l.rest
