use Rattle.std.proofs.Common.{◌∙◌}
use Rattle.nfs_loop.proofs.Changing.{goes_then}
use Rattle.nfs_loop.proofs.Hearing.{begin_then}
use Rattle.nfs_loop.proofs.Reporting.{more_then}
use Rattle.nfs_loop.proofs.Staying.{stay_then}
use Rattle.nfs_loop.proofs.service.Service.accept_some.Goals as goal

pub loop-left-preserved : goal.loop-left-preserved
loop-left-preserved g c = record {
  goes = λ server lines. goes_then g.L.Link.outgoing g.L.Link.incoming _ _ _ _ _ _ (c.loop-left.invariant.goes server lines) (c.accept.ensures.goes server lines);
  queue = c.accept.ensures.queue ∙ c.loop-left.invariant.queue;
  watched = c.accept.ensures.watched;
  looked = c.accept.ensures.looked ∙ c.loop-left.invariant.looked;
  limits = c.accept.ensures.limits ∙ c.loop-left.invariant.limits;
  stay = stay_then c.args.self.now.clients.0 c.loop-left.self.clients.0 c.accept.new.self.clients.0 c.args.self.now.housekeeping.watches c.loop-left.self.housekeeping.watches c.accept.new.self.housekeeping.watches c.loop-left.invariant.stay c.accept.ensures.stay;
  more = more_then _ _ _ c.loop-left.invariant.more c.accept.ensures.more;
  begin = begin_then c.args.self.now.clients.0 c.loop-left.self.clients.0 c.accept.new.self.clients.0 _ _ _ c.loop-left.self.housekeeping.watches c.accept.new.self.housekeeping.watches c.loop-left.invariant.more c.accept.ensures.more c.loop-left.invariant.begin c.accept.ensures.stay c.accept.ensures.begin;
}
