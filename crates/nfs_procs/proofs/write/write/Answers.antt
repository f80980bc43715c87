use Rattle.std.proofs.Common.{ℕ, ◌<◌, ◌^◌, List, ap, ◌∙◌, length, refl, subst, sym}
use Rattle.std.specs.Int.{w64, from_be_bytes}
use Rattle.std.specs.Prelude.{Some}
use Rattle.nfs_args.specs.Results.{IsWritten}
use Rattle.nfs_args.specs.declared.answer.NfsAnswer.TheVariants as answer
use Rattle.nfs_args.specs.declared.args.NfsArgs.TheVariants as nfs
use Rattle.nfs_attrs.specs.Encoding.{IsWcc}
use Rattle.nfs_inodes.specs.Changes.{after_write_at}
use Rattle.nfs_procs.proofs.Reading.{denies, with_change}
use Rattle.nfs_procs.proofs.Encoded.{denied_encoded}
use Rattle.nfs_procs.proofs.WrittenBytes.{lives_after, wrote, unwritten}
use Rattle.nfs_procs.specs.Changers as procedure
use Rattle.nfs_procs.specs.Changers.{after_settings, mode_alone}
use Rattle.nfs_procs.specs.Doing.{change}
use Rattle.nfs_procs.specs.Scenes.{scene}
use Rattle.nfs_procs.proofs.write.write.Goals as goal

pub set_mode-requires : goal.set_mode-requires
set_mode-requires c =
    let plans = c.in-Ok.ensures in
    lives_after c.args.tree.now c.write_at.new.self c.args.args.now c.in-Ok.plan plans.0 c.bytes-bytes.result.now c.args.call.now.moment plans.2 c.in-Ok-write_at.ensures.ok

pub write_granted-requires-clause-count : goal.write_granted-requires-clause-count
write_granted-requires-clause-count c = subst (λ (bytes : List ℕ). length bytes < 2 ^ 32) (sym c.bytes-bytes.ensures) c.requires.counted

pub returns : goal.returns
returns c =
    let plans = c.in-Ok.ensures in
    let a = c.args.args.now in
    let file = c.in-Ok.plan.0 in
    wrote (scene c.args.tree.now c.args.call.now (nfs.Write c.args.args.now)) a plans.0 file c.in-Ok.plan.1 c.set_mode.new.tree c.change.result (length c.bytes-bytes.result.now) c.from_be_bytes-verifier.result c.args.out.now c.write_granted.new.out plans.1 plans.2
    (c.set_mode.ensures ∙ ap (λ t. after_settings t file.attributes.fileid (mode_alone c.in-Ok.plan.1) c.args.call.now.moment) (c.in-Ok-write_at.ensures.ok ∙ ap (λ bytes. after_write_at c.args.tree.now file.attributes.fileid a.offset bytes c.args.call.now.moment) c.bytes-bytes.ensures))
    (c.change.ensures ∙ ap (change (Some file.attributes)) c.attributes.ensures)
    (ap length c.bytes-bytes.ensures)
    (c.from_be_bytes-verifier.ensures ∙ ap (from_be_bytes w64) c.key.ensures)
    c.write_granted.ensures

-- where there is no memory
pub returns-in-Err-write_at : goal.returns-in-Err-write_at
returns-in-Err-write_at c =
    let a = c.args.args.now in
    let plans = c.in-Ok.ensures in
    unwritten (scene c.args.tree.now c.args.call.now (nfs.Write a)) a plans.0 c.in-Ok.plan.0 c.in-Ok.plan.1 c.write_at.new.self c.bytes-bytes.result.now _ plans.1 plans.2 c.bytes-bytes.ensures
    c.in-Err-write_at.ensures.err c.in-Err-write_at.ensures.full

pub returns-in-Err : goal.returns-in-Err
returns-in-Err c =
    let a = c.args.args.now in
    denies (scene c.args.tree.now c.args.call.now (nfs.Write a)) (procedure.write a) a.file c.in-Err.denial c.write_denied_change.result (with_change answer.Write c.in-Err.denial.rule) _ _ c.in-Err.ensures refl
    (record { text = c.write_denied_change.ensures.text; encoded = denied_encoded answer.Write IsWritten IsWcc _ _ c.write_denied_change.ensures.encoded }) c.write_denied_change.ensures.done
