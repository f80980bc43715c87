use Rattle.std.proofs.Common.{◌∙◌}
use Rattle.nfs_loop.proofs.Changing.{passed_then}
use Rattle.nfs_loop.proofs.service.Service.finish.Goals as goal

pub loop-left-preserved : goal.loop-left-preserved
loop-left-preserved g c = record {
  reported = c.wait.ensures ∙ c.loop-left.invariant.reported;
  lines = passed_then _ _ _ c.loop-left.invariant.lines c.pass_on.ensures;
}
