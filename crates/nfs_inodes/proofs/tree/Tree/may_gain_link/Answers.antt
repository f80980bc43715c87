use Rattle.std.proofs.Common.{subst}
use Rattle.std.specs.Bool.{Decides}
use Rattle.nfs_inodes.specs.declared.limits.Limits.{Limits}
use Rattle.nfs_inodes.specs.StepConditions.{TakesLinkIn}
use Rattle.nfs_inodes.proofs.Tests.{never, gains_link, none_lives}
use Rattle.nfs_inodes.proofs.tree.Tree.may_gain_link.Goals as goal

pub returns-in-Some : goal.returns-in-Some
returns-in-Some c = gains_link c.self.inside.files c.self.inside.volumes.items c.args.self.now c.self.view_is c.self.invariant c.args.number.0 c.args.index c.in-Some.stored_file.now c.takes_link.result c.in-Some.ensures (subst (λ (l : Limits). Decides c.takes_link.result (TakesLinkIn l c.in-Some.stored_file.now c.args.index)) c.limits.ensures c.takes_link.ensures)

pub returns-in-None : goal.returns-in-None
returns-in-None c = never (λ may. none_lives c.self.inside.files c.self.inside.volumes.items c.args.self.now c.self.view_is c.args.number.0 c.in-None.ensures may.file may.at_file)
