use Rattle.std.proofs.lemmas.Bool.Decides.{not_from_Decides}
use Rattle.nfs_inodes.proofs.Tests.{never, may_link_there, gains_by, none_lives}
use Rattle.nfs_inodes.proofs.tree.Tree.may_link.Goals as goal

pub returns-then-not-may_gain_link : goal.returns-then-not-may_gain_link
returns-then-not-may_gain_link c = never (λ may. not_from_Decides c.may_gain_link.result c.may_gain_link.ensures c.if-not-may_gain_link.true
    (gains_by c.self.inside.files c.self.inside.volumes.items c.args.self.now c.self.view_is c.args.number.0 c.args.dir.0 c.in-Some.stored_file.now c.args.name.now c.in-Some.ensures may))

pub returns-else-not-may_gain_link : goal.returns-else-not-may_gain_link
returns-else-not-may_gain_link c = may_link_there c.self.inside.files c.self.inside.volumes.items c.args.self.now c.self.view_is c.args.number.0 c.args.dir.0 c.in-Some.stored_file.now c.args.name.now c.takes_entry.result c.in-Some.ensures
    (c.may_gain_link.ensures.0 c.if-not-may_gain_link.false) c.takes_entry.ensures

pub returns-in-None : goal.returns-in-None
returns-in-None c = never (λ may. none_lives c.self.inside.files c.self.inside.volumes.items c.args.self.now c.self.view_is c.args.dir.0 c.in-None.ensures may.enter.dir may.enter.at_dir.0)
