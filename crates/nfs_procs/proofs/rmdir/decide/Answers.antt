use Rattle.std.proofs.Common.{◌≡◌, Some, refl, subst}
use Rattle.std.specs.Prelude.{IfOk}
use Rattle.nfs_args.specs.declared.args.NfsArgs.TheVariants as nfs
use Rattle.nfs_procs.proofs.Judged.{denied_through}
use Rattle.nfs_procs.proofs.Removing.{removal_decided}
use Rattle.nfs_procs.specs.Plans.{PlansRemoval}
use Rattle.nfs_rules.proofs.Removals.{may_remove_directory}
use Rattle.nfs_rules.specs.Judging.{Judges}
use Rattle.nfs_rules.specs.Table.{rmdir_rules}
use Rattle.nfs_rules.specs.Tests.{found}
use Rattle.nfs_procs.proofs.rmdir.decide.Goals as goal

pub returns : goal.returns
returns c =
    let a = c.args.args.now in
    let s = c.in_ok-dir.dir in
    let named = c.in_ok-dir.ensures in
    removal_decided c.args.tree.now c.args.call.now (nfs.Rmdir a) a.dir refl s named c.rmdir_rules.result c.plan_of.result c.plan_of.ensures a.name
    (subst (λ name. Judges c.rmdir_rules.result (rmdir_rules s name)) c.bytes.ensures c.rmdir_rules.ensures.rules)
    (subst (λ name. IfOk c.rmdir_rules.result (λ f. found s name ≡ Some f.attributes)) c.bytes.ensures c.rmdir_rules.ensures.found)
    (may_remove_directory s named.law named.file a.name)

pub returns-in_err-dir : goal.returns-in_err-dir
returns-in_err-dir c =
    let a = c.args.args.now in
    denied_through c.args.tree.now c.args.call.now (nfs.Rmdir a) a.dir refl (PlansRemoval c.args.tree.now a.name) c.from_residual.result c.in_err-dir.field-0.0 c.from_residual.ensures c.in_err-dir.ensures
