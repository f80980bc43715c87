use Rattle.nfs_args.specs.declared.args.NfsArgs.TheVariants as nfs
use Rattle.nfs_procs.proofs.Judged.{denied_by_rule, denied_through, granted_by_rules}
use Rattle.std.proofs.Common.{refl, sym, ap, subst, ◌∙◌}
use Rattle.nfs_attrs.specs.declared.sattr.Sattr.{Sattr}
use Rattle.nfs_inodes.specs.Law.{Lives}
use Rattle.nfs_inodes.specs.Tree.{File}
use Rattle.nfs_procs.specs.Plans.{MayTakeSize, PlansSettings}
use Rattle.nfs_procs.specs.Changers.{with_cleared_mode}
use Rattle.nfs_rules.proofs.SeenFiles.{seen_lives}
use Rattle.nfs_rules.proofs.Sizes.{may_set_size}
use Rattle.nfs_procs.proofs.setattr.decide.Goals as goal

pub returns-in-Ok : goal.returns-in-Ok
returns-in-Ok c =
    let a = c.args.args.now in
    let s = c.in_ok-file.file in
    let named = c.in_ok-file.ensures in
    let kept = c.in-Ok.ensures in (
      s,
      granted_by_rules c.args.tree.now c.args.call.now (nfs.Setattr a) a.file refl s named kept,
      record {
        tree = named.tree;
        same = c.of-before.ensures ∙ c.view.ensures.attributes;
        given = c.with_cleared_mode-given.ensures ∙ λ i. with_cleared_mode (c.uid.ensures i) ((c.of-before.ensures ∙ c.view.ensures.attributes) i) a.attributes;
        lives = subst (λ t. (f : File) × Lives t s.file.fileid f) named.tree (seen_lives s.tree s.file named.file);
        may = subst (MayTakeSize c.args.tree.now s.file.fileid) (sym (ap (λ (g : Sattr). g.size) c.with_cleared_mode-given.ensures))
            (subst (λ t. MayTakeSize t s.file.fileid a.attributes.size) named.tree (may_set_size s named.law named.file a kept));
      },
    )

pub returns-in-Err : goal.returns-in-Err
returns-in-Err c =
    let a = c.args.args.now in
    let s = c.in_ok-file.file in
    let rule = c.in-Err.rule in
    let failed = c.in-Err.ensures in
    denied_by_rule c.args.tree.now c.args.call.now (nfs.Setattr a) a.file refl s rule c.of_rule.result c.in_ok-file.ensures failed c.of_rule.ensures

pub returns-in_err-file : goal.returns-in_err-file
returns-in_err-file c =
    let a = c.args.args.now in
    denied_through c.args.tree.now c.args.call.now (nfs.Setattr a) a.file refl (PlansSettings c.args.tree.now a) c.from_residual.result c.in_err-file.field-0.0 c.from_residual.ensures c.in_err-file.ensures
