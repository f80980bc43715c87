use Rattle.std.proofs.Common.{length, ◌-◌, ◌≤◌}
use Rattle.nfs_tcp.proofs.line_file.LineFileLineOut.send.Given as goal

abbrev pub invariant-loop-sent : goal.invariant-loop-sent
invariant-loop-sent g l = record {
  within : l.sent ≤ length l.bytes;
}

abbrev pub decreases-loop-sent : goal.decreases-loop-sent
decreases-loop-sent g l = length l.bytes - l.sent
