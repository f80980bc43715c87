use Rattle.nfs_server.proofs.Room.{after_is}
use Rattle.nfs_server.proofs.reply.retransmission.Goals as goal

pub returns-clause-reply : goal.returns-clause-reply
returns-clause-reply c = after_is c.args.out.now c.part.new.self _ c.part.ensures.bytes
