use Rattle.std.proofs.Common.{◌≡◌, ◌+◌, ◌-◌, ◌≤◌, length, take, Ok}
use Rattle.nfs_server.specs.Connections.{IsBetween}
use Rattle.nfs_server.specs.Feeding.{device}
use Rattle.nfs_server.specs.Streams.{course, StreamFeeds}
use Rattle.nfs_server.proofs.stream.take_read.Given as goal

abbrev pub invariant-loop-used : goal.invariant-loop-used
invariant-loop-used g l = record {
  within : l.used ≤ length l.chunk;
  calls : l.taken.calls ≤ l.used;
  rest : l.taken.rest ≤ l.unfinished + l.used;
  between : IsBetween l.framer;
  limit : l.framer.limit ≡ l.fn.framer.limit;
  setup : l.server.setup ≡ l.fn.server.setup;
  feeds : StreamFeeds g.C.Moments.reports l.addr (take l.used l.chunk) (Ok l.taken.calls) (course l.unfinished l.taken.rest) (course l.fn.server l.server) (course l.fn.framer l.framer) (course l.fn.clock l.clock)
      (device (g.A.ByteOut.contents l.fn.audit) (g.A.ByteOut.contents l.audit))
      (device (g.W.ByteOut.contents l.fn.replies) (g.W.ByteOut.contents l.replies));
}

abbrev pub decreases-loop-used : goal.decreases-loop-used
decreases-loop-used g l = length l.chunk - l.used
