use Rattle.std.proofs.Common.{Some, refl, sym, subst}
use Rattle.nfs_args.specs.declared.args.NfsArgs.TheVariants as nfs
use Rattle.nfs_inodes.specs.Law.{Law}
use Rattle.nfs_procs.proofs.Pairs.{pair_denied_by_rule, pair_denied_through, pair_granted}
use Rattle.nfs_procs.specs.Plans.{PlansRename, RoutesRename}
use Rattle.nfs_rules.proofs.Renames.{may_rename_seen}
use Rattle.nfs_rules.specs.Tests.{found}
use Rattle.nfs_procs.proofs.rename.decide.Goals as goal

pub returns-in-Ok : goal.returns-in-Ok
returns-in-Ok c =
    let tree = c.args.tree.now in
    let a = c.args.args.now in
    let s = c.in_ok-from.from in
    let u = c.in_ok-from.to in
    let named = c.in_ok-from.ensures in
    let one = named.first_is in
    let two = named.second_is in
    let plan = c.plan_of.result in
    let routes : RoutesRename s u (found s a.from.name) (found u a.to.name) plan = subst (λ o. RoutesRename s u o (found u a.to.name) plan) (sym c.in-Ok.ensures.moved)
    (subst (λ o. RoutesRename s u (Some c.in-Ok.moved.attributes) o plan) c.in-Ok.ensures.replaced c.plan_of.ensures) in (
      s,
      u,
      pair_granted tree c.args.call.now (nfs.Rename a) a.from.dir a.to.dir refl s u named c.in-Ok.ensures.rules,
      record {
        tree = one.tree;
        routes = routes;
        may = may_rename_seen tree (subst Law one.tree one.law) s u one.tree two.tree one.file two.file named.volume a c.in-Ok.ensures.rules plan.route routes.from_number routes.to_number routes.number routes.names;
      },
    )

pub returns-in-Err : goal.returns-in-Err
returns-in-Err c =
    let a = c.args.args.now in
    pair_denied_by_rule c.args.tree.now c.args.call.now (nfs.Rename a) a.from.dir a.to.dir refl c.in_ok-from.from c.in_ok-from.to c.in_ok-from.ensures c.in-Err.rule c.of_rule.result c.in-Err.ensures.rules c.of_rule.ensures

pub returns-in_err-from : goal.returns-in_err-from
returns-in_err-from c =
    let a = c.args.args.now in
    pair_denied_through c.args.tree.now c.args.call.now (nfs.Rename a) a.from.dir a.to.dir refl (PlansRename c.args.tree.now a) c.from_residual.result c.in_err-from.field-0.0 c.from_residual.ensures c.in_err-from.ensures
