use Rattle.nfs_args.specs.declared.args.NfsArgs.TheVariants as nfs
use Rattle.nfs_procs.proofs.Judged.{denied_by_rule, denied_through, granted_by_rules}
use Rattle.std.proofs.Common.{option_map, refl, sym, ap, subst, ◌∙◌}
use Rattle.nfs_attrs.specs.declared.fattr.Fattr.{Fattr}
use Rattle.nfs_procs.proofs.Creations.{may_make_or_take}
use Rattle.nfs_procs.specs.Changers.{file_mode}
use Rattle.nfs_procs.specs.NewFiles.{new_file_of}
use Rattle.nfs_procs.specs.Plans.{MayMakeOrTake, PlansFile}
use Rattle.nfs_procs.specs.declared.plan.FileBefore.{FileBefore}
use Rattle.nfs_procs.proofs.create.decide.Goals as goal

pub returns-in-Ok : goal.returns-in-Ok
returns-in-Ok c =
    let a = c.args.args.now in
    let s = c.in_ok-dir.dir in
    let named = c.in_ok-dir.ensures in
    let present = c.before_of.ensures ∙ c.in-Ok.ensures.found in
    let kept = c.in-Ok.ensures.rules in (
      s,
      granted_by_rules c.args.tree.now c.args.call.now (nfs.Create a) a.place.dir refl s named kept,
      record {
        tree = named.tree;
        dir = c.of.ensures ∙ c.view.ensures.attributes;
        present = present;
        uid = c.uid.ensures;
        given = c.new_file_of.ensures ∙ ap (new_file_of file_mode s.ids c.args.call.now.moment) c.given_in.ensures;
        may = subst (λ (f : Fattr). MayMakeOrTake c.args.tree.now f.fileid a (option_map (λ (f : FileBefore). f.attributes) c.before_of.result)) (sym (c.of.ensures ∙ c.view.ensures.attributes))
            (subst (λ t. MayMakeOrTake t s.file.fileid a (option_map (λ (f : FileBefore). f.attributes) c.before_of.result)) named.tree (may_make_or_take s named.law named.file a kept (option_map (λ (f : FileBefore). f.attributes) c.before_of.result) present));
      },
    )

pub returns-in-Err : goal.returns-in-Err
returns-in-Err c =
    let a = c.args.args.now in
    let s = c.in_ok-dir.dir in
    let rule = c.in-Err.rule in
    let failed = c.in-Err.ensures.rules in
    denied_by_rule c.args.tree.now c.args.call.now (nfs.Create a) a.place.dir refl s rule c.of_rule.result c.in_ok-dir.ensures failed c.of_rule.ensures

pub returns-in_err-dir : goal.returns-in_err-dir
returns-in_err-dir c =
    let a = c.args.args.now in
    denied_through c.args.tree.now c.args.call.now (nfs.Create a) a.place.dir refl (PlansFile c.args.tree.now c.args.call.now.moment a) c.from_residual.result c.in_err-dir.field-0.0 c.from_residual.ensures c.in_err-dir.ensures
