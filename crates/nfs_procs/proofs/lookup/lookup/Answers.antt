use Rattle.std.proofs.Common.{ℕ, List, Option, [], Some, Ok, refl, sym, ap, subst, ◌∙◌}
use Rattle.nfs_args.specs.Results.{IsFound}
use Rattle.nfs_args.specs.declared.answer.NfsAnswer.TheVariants as answer
use Rattle.nfs_args.specs.declared.args.NfsArgs.TheVariants as nfs
use Rattle.nfs_attrs.specs.Encoding.{IsPostOpAttr}
use Rattle.nfs_attrs.specs.declared.fattr.Fattr.{Fattr}
use Rattle.nfs_inodes.specs.Tree.{on_some}
use Rattle.nfs_procs.proofs.Reading.{reads, denies, with_attributes}
use Rattle.nfs_procs.proofs.Encoded.{denied_encoded}
use Rattle.nfs_procs.specs.Performing.{AppendsAnswer}
use Rattle.nfs_procs.specs.Readers as procedure
use Rattle.nfs_procs.specs.Scenes.{scene}
use Rattle.nfs_rules.specs.Subjects.{Subject}
use Rattle.nfs_procs.proofs.lookup.lookup.Goals as goal

pub returns-in-Ok : goal.returns-in-Ok
returns-in-Ok c =
    let s = c.in-Ok.ensures.0 in
    let plans = c.in-Ok.ensures.2 in
    let shown : List ℕ → Fattr → Fattr → Type 0 = λ handle file dir. AppendsAnswer (answer.Lookup (Ok (record { file = handle; attributes = Some file; dir = Some dir }))) c.args.out.now c.write_granted.new.out in
    reads (scene c.args.tree.now c.args.call.now (nfs.Lookup c.args.args.now)) (procedure.lookup c.args.args.now) s _ _ refl c.in-Ok.ensures.1 plans.tree
    (subst (λ o. AppendsAnswer (answer.Lookup (Ok (record { file = on_some o [] (procedure.handle_in s.tree); attributes = o; dir = Some s.file }))) c.args.out.now c.write_granted.new.out) (sym plans.found)
    (subst (λ t. AppendsAnswer (answer.Lookup (Ok (record { file = procedure.handle_in t c.in-Ok.file.attributes; attributes = Some c.in-Ok.file.attributes; dir = Some s.file }))) c.args.out.now c.write_granted.new.out) (sym plans.tree)
    (subst (λ handle. shown handle c.in-Ok.file.attributes s.file) (sym (ap (λ (o : Option (List ℕ)). on_some o [] (λ handle. handle)) c.handle-handle.ensures))
    (subst (λ file. shown c.handle-handle.result file s.file) c.attributes.ensures
    (subst (shown c.handle-handle.result c.attributes.result) (c.attributes-in-Ok.ensures ∙ ap (λ (u : Subject). u.file) plans.subject) c.write_granted.ensures)))))

pub returns-in-Err : goal.returns-in-Err
returns-in-Err c =
    let a = c.args.args.now in
    denies (scene c.args.tree.now c.args.call.now (nfs.Lookup a)) (procedure.lookup a) a.dir c.in-Err.denial c.write_denied_attributes.result (with_attributes answer.Lookup c.in-Err.denial.rule) _ _ c.in-Err.ensures refl
    (record { text = c.write_denied_attributes.ensures.text; encoded = denied_encoded answer.Lookup IsFound IsPostOpAttr _ _ c.write_denied_attributes.ensures.encoded }) c.write_denied_attributes.ensures.done
