use Rattle.std.proofs.Common.{Some, ap, ◌∙◌, refl}
use Rattle.std.specs.Prelude.{Err}
use Rattle.nfs_args.specs.Results.{IsLinked}
use Rattle.nfs_args.specs.declared.answer.NfsAnswer.TheVariants as answer
use Rattle.nfs_args.specs.declared.args.NfsArgs.TheVariants as nfs
use Rattle.nfs_procs.proofs.Linking.{links}
use Rattle.nfs_procs.proofs.Reading.{denies_pair}
use Rattle.nfs_procs.proofs.Encoded.{denied_encoded}
use Rattle.nfs_procs.specs.Changers as procedure
use Rattle.nfs_procs.specs.Doing.{change, no_change}
use Rattle.nfs_procs.specs.Scenes.{scene}
use Rattle.nfs_rules.specs.Rules.{status_of}
use Rattle.nfs_procs.proofs.link.link.Goals as goal

pub returns : goal.returns
returns c =
    let plans = c.in-Ok.ensures in
    links (scene c.args.tree.now c.args.call.now (nfs.Link c.args.args.now)) c.args.args.now c.in-Ok.plan plans.0 plans.1 c.link.new.self c.bytes.result.now c.attributes-attributes.result c.change-dir.result _ _ _ plans.2 plans.3 c.bytes.ensures c.in-Ok-link.ensures.ok
    c.attributes-attributes.ensures (c.change-dir.ensures ∙ ap (change (Some c.in-Ok.plan.1.attributes)) c.attributes.ensures) c.u32.ensures.text c.write_linked.ensures.text c.write_linked.ensures.encoded

pub returns-in-Err : goal.returns-in-Err
returns-in-Err c =
    let a = c.args.args.now in
    denies_pair (scene c.args.tree.now c.args.call.now (nfs.Link a)) (procedure.link a) a.file a.place.dir c.in-Err.denial c.write_denied.result
    (λ one two. answer.Link (Err (record { status = status_of c.in-Err.denial.rule; shown = record { attributes = one; dir = no_change two } }))) _ _ c.in-Err.ensures refl
    (record { text = c.write_denied.ensures.text; encoded = denied_encoded answer.Link IsLinked IsLinked _ _ c.write_denied.ensures.encoded }) c.write_denied.ensures.done
