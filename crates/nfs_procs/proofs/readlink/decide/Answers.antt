use Rattle.std.proofs.Common.{refl}
use Rattle.nfs_args.specs.declared.args.NfsArgs.TheVariants as nfs
use Rattle.nfs_procs.proofs.Judged.{denied_by_rule, denied_through, granted_by_rules, one_failed, one_passed}
use Rattle.nfs_procs.specs.Plans.{PlansReading}
use Rattle.nfs_rules.specs.Tests.{not_link}
use Rattle.nfs_procs.proofs.readlink.decide.Goals as goal

pub returns-in-Ok : goal.returns-in-Ok
returns-in-Ok c =
    let s = c.in_ok-file.file in (
      s,
      granted_by_rules c.args.tree.now c.args.call.now (nfs.Readlink c.args.handle.now) c.args.handle.now refl s c.in_ok-file.ensures (one_passed (not_link s) c.in-Ok.ensures),
      record { subject = refl; tree = c.in_ok-file.ensures.tree },
    )

pub returns-in-Err : goal.returns-in-Err
returns-in-Err c =
    let s = c.in_ok-file.file in
    denied_by_rule c.args.tree.now c.args.call.now (nfs.Readlink c.args.handle.now) c.args.handle.now refl s c.in-Err.rule c.of_rule.result c.in_ok-file.ensures (one_failed (not_link s) c.in-Err.rule c.in-Err.ensures) c.of_rule.ensures

pub returns-in_err-file : goal.returns-in_err-file
returns-in_err-file c = denied_through c.args.tree.now c.args.call.now (nfs.Readlink c.args.handle.now) c.args.handle.now refl (PlansReading c.args.tree.now) c.from_residual.result c.in_err-file.field-0.0 c.from_residual.ensures c.in_err-file.ensures
