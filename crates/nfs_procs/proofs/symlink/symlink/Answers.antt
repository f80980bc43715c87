use Rattle.std.proofs.Common.{Some, ap, subst, ◌∙◌, refl}
use Rattle.nfs_args.specs.Results.{IsMade}
use Rattle.nfs_args.specs.declared.answer.NfsAnswer.TheVariants as answer
use Rattle.nfs_attrs.specs.Encoding.{IsWcc}
use Rattle.nfs_inodes.specs.Changes.{Makes, after_make_link}
use Rattle.nfs_procs.proofs.Reading.{denies, with_change}
use Rattle.nfs_procs.proofs.Encoded.{denied_encoded}
use Rattle.nfs_procs.specs.Changers as procedure
use Rattle.nfs_procs.specs.Doing.{change}
use Rattle.nfs_args.specs.declared.args.NfsArgs.TheVariants as nfs
use Rattle.nfs_procs.proofs.MadeLinks.{made_link}
use Rattle.nfs_procs.specs.Scenes.{scene}
use Rattle.nfs_procs.proofs.symlink.symlink.Goals as goal

pub returns : goal.returns
returns c =
    let plans = c.in-Ok.ensures in
    let plan = c.in-Ok.plan in
    made_link (scene c.args.tree.now c.args.call.now (nfs.Symlink c.args.args.now)) c.args.args.now plans.0 plan c.make_link.new.self c.in-Ok-make_link.made.0 c.change.result _ _ _ plans.1 plans.2
    (subst (λ path. Makes c.args.tree.now (λ tag. after_make_link c.args.tree.now plan.dir.attributes.fileid c.args.args.now.place.name path plan.given tag c.args.call.now.moment) c.make_link.new.self) c.bytes-2.ensures
    (subst (λ name. Makes c.args.tree.now (λ tag. after_make_link c.args.tree.now plan.dir.attributes.fileid name c.bytes-2.result.now plan.given tag c.args.call.now.moment) c.make_link.new.self) c.bytes.ensures c.in-Ok-make_link.ensures.ok))
    c.in-Ok-make_link.ensures.number (c.change.ensures ∙ ap (change (Some plan.dir.attributes)) c.attributes.ensures) c.u32.ensures.text c.write_new_file.ensures.text c.write_new_file.ensures.encoded

pub returns-in-Err : goal.returns-in-Err
returns-in-Err c =
    let a = c.args.args.now in
    denies (scene c.args.tree.now c.args.call.now (nfs.Symlink a)) (procedure.symlink a) a.place.dir c.in-Err.denial c.write_denied_change.result (with_change answer.Symlink c.in-Err.denial.rule) _ _ c.in-Err.ensures refl
    (record { text = c.write_denied_change.ensures.text; encoded = denied_encoded answer.Symlink IsMade IsWcc _ _ c.write_denied_change.ensures.encoded }) c.write_denied_change.ensures.done
