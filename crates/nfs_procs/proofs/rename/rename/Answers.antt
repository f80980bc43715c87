use Rattle.std.proofs.Common.{Some, ap, ◌∙◌, refl, sym, subst}
use Rattle.std.specs.Prelude.{Err}
use Rattle.nfs_args.specs.Results.{IsRenamed}
use Rattle.nfs_args.specs.declared.answer.NfsAnswer.TheVariants as answer
use Rattle.nfs_args.specs.declared.args.NfsArgs.TheVariants as nfs
use Rattle.nfs_inodes.specs.Conditions.{MayRenameSeen}
use Rattle.nfs_procs.proofs.Linking.{renames, unrenamed}
use Rattle.nfs_procs.proofs.Reading.{denies_pair}
use Rattle.nfs_procs.proofs.Encoded.{denied_encoded}
use Rattle.nfs_procs.specs.Changers as procedure
use Rattle.nfs_procs.specs.Doing.{change, no_change}
use Rattle.nfs_procs.specs.Scenes.{scene}
use Rattle.nfs_rules.specs.Rules.{status_of}
use Rattle.nfs_procs.proofs.rename.rename.Goals as goal

pub rename_seen-requires : goal.rename_seen-requires
rename_seen-requires c =
    let a = c.args.args.now in
    let route = c.in-Ok.plan.route in
    subst (λ name. MayRenameSeen c.args.tree.now route name c.bytes-new_name.result.now) (sym c.bytes-name.ensures)
    (subst (λ name. MayRenameSeen c.args.tree.now route a.from.name name) (sym c.bytes-new_name.ensures) c.in-Ok.ensures.3.may)

pub returns : goal.returns
returns c =
    let plans = c.in-Ok.ensures in
    renames (scene c.args.tree.now c.args.call.now (nfs.Rename c.args.args.now)) c.args.args.now c.in-Ok.plan plans.0 plans.1 c.rename_seen.new.self c.bytes-name.result.now c.bytes-new_name.result.now c.change-from.result c.change-to.result _ _ _ plans.2 plans.3
    c.bytes-name.ensures c.bytes-new_name.ensures c.in-Ok-rename_seen.ensures.ok
    (c.change-from.ensures ∙ ap (change (Some c.in-Ok.plan.from)) c.attributes.ensures) (c.change-to.ensures ∙ ap (change (Some c.in-Ok.plan.to)) c.attributes-2.ensures) c.u32.ensures.text c.write_renamed.ensures.text c.write_renamed.ensures.encoded

-- where there is no memory
pub returns-in-Err-rename_seen : goal.returns-in-Err-rename_seen
returns-in-Err-rename_seen c =
    let a = c.args.args.now in
    let plans = c.in-Ok.ensures in
    unrenamed (scene c.args.tree.now c.args.call.now (nfs.Rename a)) a c.in-Ok.plan plans.0 plans.1 c.rename_seen.new.self c.bytes-name.result.now c.bytes-new_name.result.now _ plans.2 plans.3
    c.bytes-name.ensures c.bytes-new_name.ensures c.in-Err-rename_seen.ensures.err c.in-Err-rename_seen.ensures.apart

pub returns-in-Err : goal.returns-in-Err
returns-in-Err c =
    let a = c.args.args.now in
    denies_pair (scene c.args.tree.now c.args.call.now (nfs.Rename a)) (procedure.rename a) a.from.dir a.to.dir c.in-Err.denial c.write_denied.result
    (λ one two. answer.Rename (Err (record { status = status_of c.in-Err.denial.rule; shown = record { from = no_change one; to = no_change two } }))) _ _ c.in-Err.ensures refl
    (record { text = c.write_denied.ensures.text; encoded = denied_encoded answer.Rename IsRenamed IsRenamed _ _ c.write_denied.ensures.encoded }) c.write_denied.ensures.done
