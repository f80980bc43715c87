use Rattle.std.proofs.Common.{Some, refl, subst, ◌∙◌, ap}
use Rattle.nfs_args.specs.Pages.{BeginsPage, IsEntry, IsPage, entry_text, page_head_text}
use Rattle.nfs_args.specs.declared.answer.NfsAnswer.TheVariants as answer
use Rattle.nfs_args.specs.declared.args.NfsArgs.TheVariants as nfs
use Rattle.nfs_attrs.specs.Encoding.{IsPostOpAttr}
use Rattle.nfs_attrs.specs.declared.fattr.Fattr.{Fattr}
use Rattle.nfs_dirs.proofs.Opened.{page_answered}
use Rattle.nfs_dirs.specs.Pages.{left_after}
use Rattle.nfs_procs.proofs.Encoded.{denied_encoded}
use Rattle.nfs_procs.proofs.Pages.{page_written}
use Rattle.nfs_procs.proofs.Reading.{reads, denies, with_attributes}
use Rattle.nfs_procs.specs.Readers as procedure
use Rattle.nfs_procs.specs.Scenes.{scene}
use Rattle.nfs_rules.specs.Subjects.{Subject}
use Rattle.nfs_xdr.specs.Written.{Appends}
use Rattle.nfs_procs.proofs.readdir.readdir.Goals as goal

pub returns-in-Ok : goal.returns-in-Ok
returns-in-Ok c =
    let s = c.in-Ok.ensures.0 in
    let plans = c.in-Ok.ensures.2 in
    let a = c.args.args.now in
    let dir = c.attributes.ensures ∙ ap (λ (u : Subject). u.file) plans.subject in
    let answered = page_answered a.count (left_after s.tree s.file.fileid a.cookie) c.in-Ok.page plans.page c.write.result c.write_page_head.new.out c.write.new.out c.write.ensures in
    reads (scene c.args.tree.now c.args.call.now (nfs.Readdir a)) (procedure.readdir a) s _ _ refl c.in-Ok.ensures.1 plans.tree
    (page_written (procedure.page_at s.tree s.file a.cookie a.count) _ _ _ _ c.u32.ensures.text
    (subst (λ (f : Fattr). Appends (page_head_text (Some f) 0) c.u32.new.self c.write_page_head.new.out) dir c.write_page_head.ensures.text) answered.2
    (subst (λ (f : Fattr). BeginsPage IsEntry entry_text (Some f) 0) dir c.write_page_head.ensures.entries) answered.3)

pub returns-in-Err : goal.returns-in-Err
returns-in-Err c =
    let a = c.args.args.now in
    denies (scene c.args.tree.now c.args.call.now (nfs.Readdir a)) (procedure.readdir a) a.dir c.in-Err.denial c.write_denied_attributes.result (with_attributes answer.Readdir c.in-Err.denial.rule) _ _ c.in-Err.ensures refl
    (record { text = c.write_denied_attributes.ensures.text; encoded = denied_encoded answer.Readdir IsPage IsPostOpAttr _ _ c.write_denied_attributes.ensures.encoded }) c.write_denied_attributes.ensures.done
