use Rattle.std.proofs.Common.{◌≡◌, ℕ, ◌*◌, ◌≤◌, List, length, Ok}
use Rattle.nfs_server.specs.Connections.{IsBetween, max_record_bytes}
use Rattle.nfs_server.specs.Feeding.{device}
use Rattle.nfs_server.specs.Streams.{bytes_read, course, read_bytes, Reads, StreamFeeds}
use Rattle.nfs_server.proofs.stream.read_stream.Given as goal

abbrev pub invariant-loop-turn : goal.invariant-loop-turn
invariant-loop-turn g l = record {
  calls : l.served.calls ≤ l._turn * read_bytes;
  rest : l.served.rest ≤ l._turn * read_bytes;
  between : IsBetween l.framer;
  limit : l.framer.limit ≡ max_record_bytes;
  setup : l.server.setup ≡ l.fn.server.setup;
  feeds : (reads : List (List ℕ)) × (length reads ≡ l._turn) × Reads g.R.ByteIn.gives l.fn.reader reads l.reader
      × StreamFeeds g.C.Moments.reports l.addr (bytes_read reads) (Ok l.served.calls) (course 0 l.served.rest) (course l.fn.server l.server) (course l.fn.framer l.framer) (course l.fn.clock l.clock)
      (device (g.A.ByteOut.contents l.fn.audit) (g.A.ByteOut.contents l.audit))
      (device (g.W.ByteOut.contents l.fn.writer) (g.W.ByteOut.contents l.writer));
}
