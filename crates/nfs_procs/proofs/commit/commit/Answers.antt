use Rattle.std.proofs.Common.{Some, Ok, refl, sym, subst, ◌∙◌, ap}
use Rattle.nfs_args.specs.Results.{IsCommitted}
use Rattle.nfs_args.specs.declared.answer.NfsAnswer.TheVariants as answer
use Rattle.nfs_args.specs.declared.args.NfsArgs.TheVariants as nfs
use Rattle.nfs_attrs.specs.Encoding.{IsWcc}
use Rattle.nfs_attrs.specs.declared.fattr.Fattr.{Fattr}
use Rattle.nfs_procs.proofs.Reading.{reads, denies, with_change}
use Rattle.nfs_procs.proofs.Encoded.{denied_encoded}
use Rattle.nfs_procs.specs.Doing.{no_change}
use Rattle.nfs_procs.specs.Performing.{AppendsAnswer}
use Rattle.nfs_procs.specs.Readers as procedure
use Rattle.nfs_procs.specs.Scenes.{scene}
use Rattle.nfs_rules.specs.Subjects.{Subject}
use Rattle.nfs_procs.proofs.commit.commit.Goals as goal

pub returns-in-Ok : goal.returns-in-Ok
returns-in-Ok c =
    let s = c.in-Ok.ensures.0 in
    let plans = c.in-Ok.ensures.2 in
    reads (scene c.args.tree.now c.args.call.now (nfs.Commit c.args.args.now)) (procedure.commit c.args.args.now) s _ _ refl c.in-Ok.ensures.1 plans.tree
    (subst (λ t. AppendsAnswer (answer.Commit (Ok (record { file = no_change (Some s.file); verifier = procedure.verifier_of t }))) c.args.out.now c.write_granted.new.out) (sym plans.tree)
    (subst (λ (f : Fattr). AppendsAnswer (answer.Commit (Ok (record { file = no_change (Some f); verifier = procedure.verifier_of c.args.tree.now }))) c.args.out.now c.write_granted.new.out)
    (c.attributes.ensures ∙ ap (λ (u : Subject). u.file) plans.subject) c.write_granted.ensures))

pub returns-in-Err : goal.returns-in-Err
returns-in-Err c =
    let a = c.args.args.now in
    denies (scene c.args.tree.now c.args.call.now (nfs.Commit a)) (procedure.commit a) a.file c.in-Err.denial c.write_denied_change.result (with_change answer.Commit c.in-Err.denial.rule) _ _ c.in-Err.ensures refl
    (record { text = c.write_denied_change.ensures.text; encoded = denied_encoded answer.Commit IsCommitted IsWcc _ _ c.write_denied_change.ensures.encoded }) c.write_denied_change.ensures.done
