use Rattle.nfs_args.specs.declared.args.NfsArgs.TheVariants as nfs
use Rattle.nfs_procs.specs.Plans.{PlansBytes}
use Rattle.nfs_procs.proofs.Judged.{denied_by_rule, denied_through, granted_by_rules}
use Rattle.std.proofs.Common.{ℕ, List, refl, ap, subst, ◌∙◌}
use Rattle.std.specs.Prelude.{length, nat_eq, not}
use Rattle.nfs_inodes.specs.Conditions.{MayWrite}
use Rattle.nfs_procs.specs.Changers.{cleared_mode}
use Rattle.nfs_rules.proofs.Sizes.{may_write}
use Rattle.nfs_procs.proofs.write.decide.Goals as goal

pub returns-in-Ok : goal.returns-in-Ok
returns-in-Ok c =
    let a = c.args.args.now in
    let s = c.in_ok-file.file in
    let named = c.in_ok-file.ensures in
    let kept = c.in-Ok.ensures in (
      s,
      granted_by_rules c.args.tree.now c.args.call.now (nfs.Write a) a.file refl s named kept,
      record {
        tree = named.tree;
        same = c.of-before.ensures ∙ c.view.ensures.attributes;
        mode = c.cleared_mode-mode.ensures ∙ (λ i. cleared_mode (c.uid.ensures i) ((c.of-before.ensures ∙ c.view.ensures.attributes) i) (not ((c.is_empty.ensures ∙ ap (λ (b : List ℕ). nat_eq (length b) 0) c.bytes.ensures) i)));
        may = subst (λ t. MayWrite t s.file.fileid a.offset (length a.content)) named.tree (may_write s named.law named.file a kept);
      },
    )

pub returns-in-Err : goal.returns-in-Err
returns-in-Err c =
    let a = c.args.args.now in
    let s = c.in_ok-file.file in
    let rule = c.in-Err.rule in
    let failed = c.in-Err.ensures in
    denied_by_rule c.args.tree.now c.args.call.now (nfs.Write a) a.file refl s rule c.of_rule.result c.in_ok-file.ensures failed c.of_rule.ensures

pub returns-in_err-file : goal.returns-in_err-file
returns-in_err-file c =
    let a = c.args.args.now in
    denied_through c.args.tree.now c.args.call.now (nfs.Write a) a.file refl (PlansBytes c.args.tree.now a) c.from_residual.result c.in_err-file.field-0.0 c.from_residual.ensures c.in_err-file.ensures
