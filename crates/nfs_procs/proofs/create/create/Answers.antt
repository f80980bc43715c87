use Rattle.std.proofs.Common.{Some, ap, ◌∙◌, refl}
use Rattle.nfs_args.specs.Results.{IsMade}
use Rattle.nfs_args.specs.declared.answer.NfsAnswer.TheVariants as answer
use Rattle.nfs_args.specs.declared.args.NfsArgs.TheVariants as nfs
use Rattle.nfs_attrs.specs.Encoding.{IsWcc}
use Rattle.nfs_procs.proofs.Creations.{created}
use Rattle.nfs_procs.proofs.Reading.{denies, with_change}
use Rattle.nfs_procs.proofs.Encoded.{denied_encoded}
use Rattle.nfs_procs.specs.Changers as procedure
use Rattle.nfs_procs.specs.Doing.{change}
use Rattle.nfs_procs.specs.Scenes.{scene}
use Rattle.nfs_procs.proofs.create.create.Goals as goal

pub returns : goal.returns
returns c =
    let plans = c.in-Ok.ensures in
    created (scene c.args.tree.now c.args.call.now (nfs.Create c.args.args.now)) c.args.args.now plans.0 c.in-Ok.plan c.make_or_take.new.tree c.in-Ok-make_or_take.file.0 c.change-dir.result _ _ _ plans.1 plans.2
    c.in-Ok-make_or_take.ensures.ok c.in-Ok-make_or_take.ensures.number
    (c.change-dir.ensures ∙ ap (change (Some c.in-Ok.plan.dir.attributes)) c.attributes.ensures) c.u32.ensures.text c.write_new_file.ensures.text c.write_new_file.ensures.encoded

pub returns-in-Err : goal.returns-in-Err
returns-in-Err c =
    let a = c.args.args.now in
    denies (scene c.args.tree.now c.args.call.now (nfs.Create a)) (procedure.create a) a.place.dir c.in-Err.denial c.write_denied_change.result (with_change answer.Create c.in-Err.denial.rule) _ _ c.in-Err.ensures refl
    (record { text = c.write_denied_change.ensures.text; encoded = denied_encoded answer.Create IsMade IsWcc _ _ c.write_denied_change.ensures.encoded }) c.write_denied_change.ensures.done
