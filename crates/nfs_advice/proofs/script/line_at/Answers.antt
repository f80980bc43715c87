use Rattle.nfs_advice.proofs.Numbered.{found_after}
use Rattle.nfs_advice.proofs.script.line_at.Goals as goal

-- src/script.rt
pub loop-line-preserved : goal.loop-line-preserved
loop-line-preserved c = found_after _ _ _ _ _ _ c.loop-line.invariant c.in-Some.ensures.steps c.if-left-eq1.false c.saturating_sub-left.ensures
