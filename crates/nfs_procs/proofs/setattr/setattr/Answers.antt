use Rattle.std.proofs.Common.{Some, ap, ◌∙◌, refl}
use Rattle.nfs_args.specs.declared.answer.NfsAnswer.TheVariants as answer
use Rattle.nfs_args.specs.declared.args.NfsArgs.TheVariants as nfs
use Rattle.nfs_attrs.specs.Encoding.{IsWcc, wcc_text}
use Rattle.nfs_procs.proofs.GivenSettings.{has_set}
use Rattle.nfs_procs.proofs.Reading.{denies, with_change}
use Rattle.nfs_procs.proofs.Encoded.{granted_encoded, denied_encoded}
use Rattle.nfs_procs.specs.Changers as procedure
use Rattle.nfs_procs.specs.Doing.{change}
use Rattle.nfs_procs.specs.Scenes.{scene}
use Rattle.nfs_procs.proofs.setattr.setattr.Goals as goal

pub returns : goal.returns
returns c =
    let plans = c.in-Ok.ensures in
    has_set (scene c.args.tree.now c.args.call.now (nfs.Setattr c.args.args.now)) c.args.args.now plans.0 c.in-Ok.plan.0 c.in-Ok.plan.1 c.set_given.new.tree c.change.result c.args.out.now c.write_granted_change.new.out plans.1 plans.2 c.in-Ok-set_given.ensures.ok
    (c.change.ensures ∙ ap (change (Some c.in-Ok.plan.0.attributes)) c.attributes.ensures)
    (record { text = c.write_granted_change.ensures.text; encoded = granted_encoded answer.Setattr IsWcc IsWcc wcc_text _ c.write_granted_change.ensures.encoded })

pub returns-in-Err : goal.returns-in-Err
returns-in-Err c =
    let a = c.args.args.now in
    denies (scene c.args.tree.now c.args.call.now (nfs.Setattr a)) (procedure.setattr a) a.file c.in-Err.denial c.write_denied_change.result (with_change answer.Setattr c.in-Err.denial.rule) _ _ c.in-Err.ensures refl
    (record { text = c.write_denied_change.ensures.text; encoded = denied_encoded answer.Setattr IsWcc IsWcc _ _ c.write_denied_change.ensures.encoded }) c.write_denied_change.ensures.done
