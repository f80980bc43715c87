use Rattle.nfs_args.specs.declared.args.NfsArgs.TheVariants as nfs
use Rattle.nfs_procs.specs.Plans.{PlansSymlink}
use Rattle.nfs_procs.proofs.Judged.{denied_by_rule, denied_through, granted_by_rules}
use Rattle.std.proofs.Common.{◌≡◌, Some, None, refl, ap, subst, ◌∙◌}
use Rattle.nfs_inodes.specs.Conditions.{MayMakeLink}
use Rattle.nfs_inodes.specs.declared.new_file.NewFile.{NewFile}
use Rattle.nfs_procs.specs.Changers.{link_mode}
use Rattle.nfs_rules.proofs.NewFiles.{may_make_link}
use Rattle.nfs_rules.specs.Table.{symlink_rules}
use Rattle.nfs_rules.specs.Tests.{first}
use Rattle.nfs_procs.proofs.symlink.decide.Goals as goal

pub returns-in-Ok : goal.returns-in-Ok
returns-in-Ok c =
    let a = c.args.args.now in
    let s = c.in_ok-dir.dir in
    let named = c.in_ok-dir.ensures in
    let kept : first (symlink_rules s a.place.name a.path) ≡ None =
    subst (λ path. first (symlink_rules s a.place.name path) ≡ None) c.bytes-2.ensures (subst (λ name. first (symlink_rules s name c.bytes-2.result.now) ≡ None) c.bytes.ensures c.in-Ok.ensures) in (
      s,
      granted_by_rules c.args.tree.now c.args.call.now (nfs.Symlink a) a.place.dir refl s named kept,
      record {
        tree = named.tree;
        dir = c.of.ensures ∙ c.view.ensures.attributes;
        given = ap (λ (given : NewFile). record given { mode = link_mode }) c.new_file_of.ensures;
        may = subst (λ t. MayMakeLink t s.file.fileid a.place.name a.path) named.tree (may_make_link s named.law named.file a.place.name a.path kept);
      },
    )

pub returns-in-Err : goal.returns-in-Err
returns-in-Err c =
    let a = c.args.args.now in
    let s = c.in_ok-dir.dir in
    let rule = c.in-Err.rule in
    let failed : first (symlink_rules s a.place.name a.path) ≡ Some rule =
    subst (λ path. first (symlink_rules s a.place.name path) ≡ Some rule) c.bytes-2.ensures (subst (λ name. first (symlink_rules s name c.bytes-2.result.now) ≡ Some rule) c.bytes.ensures c.in-Err.ensures) in
    denied_by_rule c.args.tree.now c.args.call.now (nfs.Symlink a) a.place.dir refl s rule c.of_rule.result c.in_ok-dir.ensures failed c.of_rule.ensures

pub returns-in_err-dir : goal.returns-in_err-dir
returns-in_err-dir c =
    let a = c.args.args.now in
    denied_through c.args.tree.now c.args.call.now (nfs.Symlink a) a.place.dir refl (PlansSymlink c.args.tree.now c.args.call.now.moment a) c.from_residual.result c.in_err-dir.field-0.0 c.from_residual.ensures c.in_err-dir.ensures
