use Rattle.nfs_args.specs.declared.args.NfsArgs.TheVariants as nfs
use Rattle.nfs_procs.specs.Plans.{PlansPage}
use Rattle.nfs_procs.proofs.Judged.{denied_by_rule, denied_through, granted_by_rules}
use Rattle.std.proofs.Common.{refl}
use Rattle.nfs_procs.proofs.readdir.decide.Goals as goal

pub returns-in-Ok : goal.returns-in-Ok
returns-in-Ok c =
    let a = c.args.args.now in
    let s = c.in_ok-dir.dir in
    let named = c.in_ok-dir.ensures in (
      s,
      granted_by_rules c.args.tree.now c.args.call.now (nfs.Readdir a) a.dir refl s named c.in-Ok.ensures.rules,
      record { subject = refl; tree = named.tree; page = c.in-Ok.ensures.«open» },
    )

pub returns-in-Err : goal.returns-in-Err
returns-in-Err c =
    let a = c.args.args.now in
    let s = c.in_ok-dir.dir in
    let rule = c.in-Err.rule in
    let failed = c.in-Err.ensures.rules in
    denied_by_rule c.args.tree.now c.args.call.now (nfs.Readdir a) a.dir refl s rule c.of_rule.result c.in_ok-dir.ensures failed c.of_rule.ensures

pub returns-in_err-dir : goal.returns-in_err-dir
returns-in_err-dir c =
    let a = c.args.args.now in
    denied_through c.args.tree.now c.args.call.now (nfs.Readdir a) a.dir refl (PlansPage c.args.tree.now a) c.from_residual.result c.in_err-dir.field-0.0 c.from_residual.ensures c.in_err-dir.ensures
