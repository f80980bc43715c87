use Rattle.std.proofs.Common.{arith, ap, ◌∙◌}
use Rattle.nfs_loop.specs.Watching.{held_count, watch_at}
use Rattle.nfs_loop.proofs.Watching.{at_longer, count_longer}
use Rattle.nfs_loop.proofs.watches.lengthen.Goals as goal

pub loop-watches-preserved : goal.loop-watches-preserved
loop-watches-preserved c = record {
  longer = omega (arith, c.in_ok-push.ensures.lower_bound, c.loop-watches.invariant.longer);
  stay = λ k. ap (λ ws. watch_at ws k) c.in_ok-push.ensures.items ∙ at_longer c.loop-watches.watches.items _ k c.nothing_known.ensures ∙ c.loop-watches.invariant.stay k;
  count = ap held_count c.in_ok-push.ensures.items ∙ count_longer c.loop-watches.watches.items _ c.nothing_known.ensures ∙ c.loop-watches.invariant.count;
}
