use Rattle.std.proofs.Common.{◌≡◌, Some, None, refl, sym, subst, ◌∙◌}
use Rattle.nfs_args.specs.declared.args.NfsArgs.TheVariants as nfs
use Rattle.nfs_attrs.specs.declared.fattr.Fattr.{Fattr}
use Rattle.nfs_inodes.specs.Conditions.{MayLink}
use Rattle.nfs_inodes.specs.Law.{Law}
use Rattle.nfs_procs.proofs.Pairs.{pair_denied_by_rule, pair_denied_through, pair_granted}
use Rattle.nfs_procs.specs.Plans.{PlansLink}
use Rattle.nfs_rules.proofs.Links.{may_link}
use Rattle.nfs_rules.specs.Table.{link_rules}
use Rattle.nfs_rules.specs.Tests.{first}
use Rattle.nfs_procs.proofs.link.decide.Goals as goal

pub returns-in-Ok : goal.returns-in-Ok
returns-in-Ok c =
    let tree = c.args.tree.now in
    let a = c.args.args.now in
    let s = c.in_ok-file.file in
    let u = c.in_ok-file.dir in
    let named = c.in_ok-file.ensures in
    let one = named.first_is in
    let two = named.second_is in
    let kept : first (link_rules s u a.place.name) ≡ None = subst (λ name. first (link_rules s u name) ≡ None) c.bytes.ensures c.in-Ok.ensures in (
      s,
      u,
      pair_granted tree c.args.call.now (nfs.Link a) a.file a.place.dir refl s u named kept,
      record {
        tree = one.tree;
        file_is = c.of.ensures ∙ c.view.ensures.attributes;
        dir_is = (c.of-in-Ok.ensures ∙ c.view-in-Ok.ensures.attributes);
        may = subst (λ (f : Fattr). MayLink tree f.fileid c.of-in-Ok.result.attributes.fileid a.place.name) (sym (c.of.ensures ∙ c.view.ensures.attributes))
            (subst (λ (f : Fattr). MayLink tree s.file.fileid f.fileid a.place.name) (sym (c.of-in-Ok.ensures ∙ c.view-in-Ok.ensures.attributes))
            (may_link tree (subst Law one.tree one.law) s u one.tree two.tree one.file two.file named.volume a.place.name kept));
      },
    )

pub returns-in-Err : goal.returns-in-Err
returns-in-Err c =
    let a = c.args.args.now in
    let s = c.in_ok-file.file in
    let u = c.in_ok-file.dir in
    let rule = c.in-Err.rule in
    let failed : first (link_rules s u a.place.name) ≡ Some rule = subst (λ name. first (link_rules s u name) ≡ Some rule) c.bytes.ensures c.in-Err.ensures in
    pair_denied_by_rule c.args.tree.now c.args.call.now (nfs.Link a) a.file a.place.dir refl s u c.in_ok-file.ensures rule c.of_rule.result failed c.of_rule.ensures

pub returns-in_err-file : goal.returns-in_err-file
returns-in_err-file c =
    let a = c.args.args.now in
    pair_denied_through c.args.tree.now c.args.call.now (nfs.Link a) a.file a.place.dir refl (PlansLink c.args.tree.now a.place.name) c.from_residual.result c.in_err-file.field-0.0 c.from_residual.ensures c.in_err-file.ensures
