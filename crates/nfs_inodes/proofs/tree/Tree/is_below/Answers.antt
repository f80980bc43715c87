use Rattle.std.proofs.Common.{sym, ◌∙◌, arith}
use Rattle.nfs_inodes.proofs.Walks.{walks_on, walks_no_more, walks_end}
use Rattle.nfs_inodes.proofs.tree.Tree.is_below.Goals as goal

pub returns-then-parent-at-clause-off : goal.returns-then-parent-at-clause-off
returns-then-parent-at-clause-off c = λ is. walks_no_more c.args.self.now.files c.args.dir.0 c.args.above.0 c.loop-step.at.0 c.loop-step.step c.loop-step.invariant c.if-at-above.false (sym c.parent-parent.ensures ∙ c.if-parent-at.true)

pub loop-step-preserved : goal.loop-step-preserved
loop-step-preserved c = walks_on c.args.self.now.files c.args.dir.0 c.args.above.0 c.loop-step.at.0 c.loop-step.step c.loop-step.invariant c.if-at-above.false c.parent-parent.result.0 c.parent-parent.ensures c.if-parent-at.false

pub unreachable-requires : goal.unreachable-requires
unreachable-requires c =
    let end = c.next_number-step-end.ensures in let all = c.loop-step-test.false in
    walks_end c.args.self.now c.args.dir.0 c.args.above.0 c.loop-step.at.0 c.loop-step.step c.requires.0 c.law.ensures c.requires.1 c.loop-step.invariant (omega (arith, end, all))
