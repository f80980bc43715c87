use Rattle.std.proofs.Common.{◌≡◌, ◌+◌, ◌-◌, ◌≤◌, length, drop, take, Ok}
use Rattle.nfs_server.specs.Connections.{IsBetween}
use Rattle.nfs_server.specs.Feeding.{device}
use Rattle.nfs_server.specs.Taking.{FeedsWith, IsRoomLeft, Waits}
use Rattle.nfs_xdr.specs.Known.{StaysFailed}
use Rattle.nfs_server.proofs.Waiting.{going}
use Rattle.nfs_server.proofs.taking.take_chunk.Given as goal

abbrev pub invariant-loop-stop : goal.invariant-loop-stop
invariant-loop-stop g l = record {
  within : l.used ≤ length l.chunk;
  counted : l.records ≤ l.used;
  between : IsBetween l.framer;
  limit : l.framer.limit ≡ l.fn.framer.limit;
  setup : l.server.setup ≡ l.fn.server.setup;
  most : l.reply.most ≡ l.fn.reply.most;
  feeds : FeedsWith (IsRoomLeft l.fn.room l.left) l.origin (take l.used l.chunk) (Ok l.records) l.fn.server l.server l.fn.framer l.framer
      (device (g.A.AuditOut.contents l.fn.audit) (g.A.AuditOut.contents l.audit))
      (device (g.R.ReplyOut.contents l.fn.replies l.fn.reply.earlier) (g.R.ReplyOut.contents l.replies l.reply.earlier));
  stays : StaysFailed (g.A.AuditOut.broken l.fn.audit) (g.A.AuditOut.contents l.fn.audit) (g.A.AuditOut.broken l.audit) (g.A.AuditOut.contents l.audit);
  waits : Waits l.stop (g.A.AuditOut.full l.audit) l.origin (drop l.used l.chunk) l.server l.framer;
}

abbrev pub decreases-loop-stop : goal.decreases-loop-stop
decreases-loop-stop g l = length l.chunk - l.used + going l.stop
