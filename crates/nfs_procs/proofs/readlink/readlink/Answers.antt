use Rattle.std.proofs.Common.{[], Some, Ok, refl, sym, subst, ◌∙◌, ap}
use Rattle.nfs_args.specs.Results.{IsLinkPath}
use Rattle.nfs_args.specs.declared.answer.NfsAnswer.TheVariants as answer
use Rattle.nfs_args.specs.declared.args.NfsArgs.TheVariants as nfs
use Rattle.nfs_attrs.specs.Encoding.{IsPostOpAttr}
use Rattle.nfs_attrs.specs.declared.fattr.Fattr.{Fattr}
use Rattle.nfs_inodes.specs.Reading.{path_at}
use Rattle.nfs_inodes.specs.Tree.{on_some}
use Rattle.nfs_inodes.specs.Views.{IsSeen}
use Rattle.nfs_procs.proofs.Reading.{reads, denies, with_attributes}
use Rattle.nfs_procs.proofs.Encoded.{denied_encoded}
use Rattle.nfs_procs.specs.Performing.{AppendsAnswer}
use Rattle.nfs_procs.specs.Readers as procedure
use Rattle.nfs_procs.specs.Scenes.{scene}
use Rattle.nfs_rules.specs.Subjects.{Subject}
use Rattle.nfs_procs.proofs.readlink.readlink.Goals as goal

pub write_granted-requires-clause-seen : goal.write_granted-requires-clause-seen
write_granted-requires-clause-seen c = let plans = c.in-Ok.ensures.2 in subst (λ t. IsSeen t c.view.result.now) (ap (λ (u : Subject). u.tree) plans.subject ∙ plans.tree) c.view.ensures.seen

pub returns-in-Ok : goal.returns-in-Ok
returns-in-Ok c =
    let s = c.in-Ok.ensures.0 in
    let plans = c.in-Ok.ensures.2 in
    reads (scene c.args.tree.now c.args.call.now (nfs.Readlink c.args.handle.now)) (procedure.readlink c.args.handle.now) s _ _ refl c.in-Ok.ensures.1 plans.tree
    (subst (λ t. AppendsAnswer (answer.Readlink (Ok (record { attributes = Some s.file; path = on_some (path_at t s.file.fileid) [] (λ path. path) }))) c.args.out.now c.write_granted.new.out) (sym plans.tree)
    (subst (λ (f : Fattr). AppendsAnswer (answer.Readlink (Ok (record { attributes = Some f; path = on_some (path_at c.args.tree.now f.fileid) [] (λ path. path) }))) c.args.out.now c.write_granted.new.out)
    (c.view.ensures.attributes ∙ ap (λ (u : Subject). u.file) plans.subject) c.write_granted.ensures))

pub returns-in-Err : goal.returns-in-Err
returns-in-Err c =
    let a = c.args.handle.now in
    denies (scene c.args.tree.now c.args.call.now (nfs.Readlink a)) (procedure.readlink a) a c.in-Err.denial c.write_denied_attributes.result (with_attributes answer.Readlink c.in-Err.denial.rule) _ _ c.in-Err.ensures refl
    (record { text = c.write_denied_attributes.ensures.text; encoded = denied_encoded answer.Readlink IsLinkPath IsPostOpAttr _ _ c.write_denied_attributes.ensures.encoded }) c.write_denied_attributes.ensures.done
