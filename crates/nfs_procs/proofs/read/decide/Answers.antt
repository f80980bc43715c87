use Rattle.std.proofs.Common.{◌≡◌, Bool, true, false, not, None, refl, sym}
use Rattle.nfs_args.specs.declared.args.NfsArgs.TheVariants as nfs
use Rattle.nfs_inodes.specs.Reading.{is_regular_type}
use Rattle.nfs_procs.specs.Plans.{PlansData}
use Rattle.nfs_procs.proofs.Judged.{denied_by_rule, denied_through, granted_by_rules}
use Rattle.nfs_rules.proofs.Firsts.{are_passed}
use Rattle.nfs_rules.specs.Table.{read_rules}
use Rattle.nfs_rules.specs.Tests.{first}
use Rattle.nfs_procs.proofs.read.decide.Goals as goal

regular_of : (b : Bool) → not b ≡ false → b ≡ true
regular_of true e = refl
regular_of false e = sym e

pub returns-in-Ok : goal.returns-in-Ok
returns-in-Ok c =
    let a = c.args.args.now in
    let s = c.in_ok-file.file in
    let named = c.in_ok-file.ensures in
    let kept : first (read_rules s) ≡ None = c.in-Ok.ensures in (
      s,
      granted_by_rules c.args.tree.now c.args.call.now (nfs.Read a) a.file refl s named kept,
      record {
        subject = refl;
        tree = named.tree;
        regular = regular_of (is_regular_type s.file.file_type) (are_passed (read_rules s) kept).0;
      },
    )

pub returns-in-Err : goal.returns-in-Err
returns-in-Err c =
    let a = c.args.args.now in
    let s = c.in_ok-file.file in
    denied_by_rule c.args.tree.now c.args.call.now (nfs.Read a) a.file refl s c.in-Err.rule c.of_rule.result c.in_ok-file.ensures c.in-Err.ensures c.of_rule.ensures

pub returns-in_err-file : goal.returns-in_err-file
returns-in_err-file c =
    let a = c.args.args.now in
    denied_through c.args.tree.now c.args.call.now (nfs.Read a) a.file refl (PlansData c.args.tree.now) c.from_residual.result c.in_err-file.field-0.0 c.from_residual.ensures c.in_err-file.ensures
