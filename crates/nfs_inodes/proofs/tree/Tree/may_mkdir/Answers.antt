use Rattle.std.proofs.Common.{◌<◌, sym, subst}
use Rattle.nfs_inodes.specs.declared.limits.Limits.{Limits}
use Rattle.std.proofs.lemmas.Bool.Decides.{not_from_Decides}
use Rattle.nfs_inodes.proofs.Tests.{never, may_mkdir_there, few_links, may_make_none}
use Rattle.nfs_inodes.proofs.tree.Tree.may_mkdir.Goals as goal

pub returns-then-not-has_link_left : goal.returns-then-not-has_link_left
returns-then-not-has_link_left c = never (λ may. not_from_Decides c.has_link_left.result c.has_link_left.ensures c.if-not-has_link_left.true
    (subst (λ (l : Limits). c.in-Some.stored_file.now.nlink < l.links) (sym c.limits.ensures) (few_links c.self.inside.files c.self.inside.volumes.items c.args.self.now c.self.view_is c.self.invariant c.args.dir.0 c.in-Some.stored_file.now c.args.name.now c.in-Some.ensures may)))

pub returns-else-not-has_link_left : goal.returns-else-not-has_link_left
returns-else-not-has_link_left c = may_mkdir_there c.self.inside.files c.self.inside.volumes.items c.args.self.now c.self.view_is c.self.invariant c.args.dir.0 c.in-Some.stored_file.now c.args.name.now c.takes_file.result c.in-Some.ensures (subst (λ (l : Limits). c.in-Some.stored_file.now.nlink < l.links) c.limits.ensures (c.has_link_left.ensures.0 c.if-not-has_link_left.false)) c.takes_file.ensures

pub returns-in-None : goal.returns-in-None
returns-in-None c = never (λ may. may_make_none c.self.inside.files c.self.inside.volumes.items c.args.self.now c.self.view_is c.args.dir.0 0 c.args.name.now c.in-None.ensures may.make)
