use Rattle.std.proofs.Common.{Some, ap, subst, ◌∙◌, refl}
use Rattle.nfs_args.specs.Results.{IsMade}
use Rattle.nfs_args.specs.declared.answer.NfsAnswer.TheVariants as answer
use Rattle.nfs_attrs.specs.Encoding.{IsWcc}
use Rattle.nfs_inodes.specs.Changes.{Makes, after_mkdir}
use Rattle.nfs_procs.proofs.Reading.{denies, with_change}
use Rattle.nfs_procs.proofs.Encoded.{denied_encoded}
use Rattle.nfs_procs.specs.Changers as procedure
use Rattle.nfs_procs.specs.Doing.{change}
use Rattle.nfs_args.specs.declared.args.NfsArgs.TheVariants as nfs
use Rattle.nfs_procs.proofs.MadeDirs.{made_directory}
use Rattle.nfs_procs.specs.Scenes.{scene}
use Rattle.nfs_procs.proofs.mkdir.mkdir.Goals as goal

pub returns : goal.returns
returns c =
    let plans = c.in-Ok.ensures in
    made_directory (scene c.args.tree.now c.args.call.now (nfs.Mkdir c.args.args.now)) c.args.args.now plans.0 c.in-Ok.plan c.mkdir.new.self c.in-Ok-mkdir.made.0 c.change.result _ _ _ plans.1 plans.2
    (subst (λ name. Makes c.args.tree.now (λ tag. after_mkdir c.args.tree.now c.in-Ok.plan.dir.attributes.fileid name c.in-Ok.plan.given tag c.args.call.now.moment) c.mkdir.new.self) c.bytes.ensures c.in-Ok-mkdir.ensures.ok)
    c.in-Ok-mkdir.ensures.number (c.change.ensures ∙ ap (change (Some c.in-Ok.plan.dir.attributes)) c.attributes.ensures) c.u32.ensures.text c.write_new_file.ensures.text c.write_new_file.ensures.encoded

pub returns-in-Err : goal.returns-in-Err
returns-in-Err c =
    let a = c.args.args.now in
    denies (scene c.args.tree.now c.args.call.now (nfs.Mkdir a)) (procedure.mkdir a) a.place.dir c.in-Err.denial c.write_denied_change.result (with_change answer.Mkdir c.in-Err.denial.rule) _ _ c.in-Err.ensures refl
    (record { text = c.write_denied_change.ensures.text; encoded = denied_encoded answer.Mkdir IsMade IsWcc _ _ c.write_denied_change.ensures.encoded }) c.write_denied_change.ensures.done
