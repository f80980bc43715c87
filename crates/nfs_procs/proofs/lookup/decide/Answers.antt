use Rattle.nfs_args.specs.declared.args.NfsArgs.TheVariants as nfs
use Rattle.nfs_procs.specs.Plans.{PlansFound}
use Rattle.nfs_procs.proofs.Judged.{denied_by_rule, denied_through, granted_by_rules}
use Rattle.std.proofs.Common.{◌≡◌, Some, None, refl, subst}
use Rattle.nfs_inodes.specs.Views.{IsSeen}
use Rattle.nfs_rules.specs.Table.{lookup_rules}
use Rattle.nfs_rules.specs.Tests.{first, found}
use Rattle.nfs_procs.proofs.lookup.decide.Goals as goal

pub returns-in-Ok : goal.returns-in-Ok
returns-in-Ok c =
    let a = c.args.args.now in
    let s = c.in_ok-dir.dir in
    let named = c.in_ok-dir.ensures in
    let kept : first (lookup_rules s a.name) ≡ None = subst (λ name. first (lookup_rules s name) ≡ None) c.bytes.ensures c.in-Ok.ensures.rules in (
      s,
      granted_by_rules c.args.tree.now c.args.call.now (nfs.Lookup a) a.dir refl s named kept,
      record {
        subject = refl;
        tree = named.tree;
        found = subst (λ name. found s name ≡ Some c.in-Ok.file.attributes) c.bytes.ensures c.in-Ok.ensures.found;
        seen = subst (λ t. IsSeen t c.in-Ok.file) named.tree c.in-Ok.ensures.seen;
      },
    )

pub returns-in-Err : goal.returns-in-Err
returns-in-Err c =
    let a = c.args.args.now in
    let s = c.in_ok-dir.dir in
    let rule = c.in-Err.rule in
    let failed : first (lookup_rules s a.name) ≡ Some rule = subst (λ name. first (lookup_rules s name) ≡ Some rule) c.bytes.ensures c.in-Err.ensures.rules in
    denied_by_rule c.args.tree.now c.args.call.now (nfs.Lookup a) a.dir refl s rule c.of_rule.result c.in_ok-dir.ensures failed c.of_rule.ensures

pub returns-in_err-dir : goal.returns-in_err-dir
returns-in_err-dir c =
    let a = c.args.args.now in
    denied_through c.args.tree.now c.args.call.now (nfs.Lookup a) a.dir refl (PlansFound c.args.tree.now a.name) c.from_residual.result c.in_err-dir.field-0.0 c.from_residual.ensures c.in_err-dir.ensures
