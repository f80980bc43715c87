use Rattle.nfs_server.proofs.Room.{after_is}
use Rattle.nfs_server.proofs.reply.succeed.Goals as goal

pub returns-clause-reply : goal.returns-clause-reply
returns-clause-reply c = after_is c.args.out.now c.write_accepted.new.out _ c.write_accepted.ensures.bytes
