use Rattle.std.proofs.Common.{Ok, Some, min, refl, sym, subst, ◌∙◌, ap}
use Rattle.nfs_args.specs.Pages.{BeginsPage, IsEntryPlus, IsPagePlus, entry_plus_text, page_head_text}
use Rattle.nfs_args.specs.Sizes.{max_page}
use Rattle.nfs_args.specs.declared.answer.NfsAnswer.TheVariants as answer
use Rattle.nfs_args.specs.declared.args.NfsArgs.TheVariants as nfs
use Rattle.nfs_attrs.specs.Encoding.{IsPostOpAttr}
use Rattle.nfs_attrs.specs.declared.fattr.Fattr.{Fattr}
use Rattle.nfs_dirs.proofs.Opened.{page_plus_answered}
use Rattle.nfs_dirs.specs.Opening.{IsOpen}
use Rattle.nfs_dirs.specs.Pages.{left_after, plus_bytes}
use Rattle.nfs_inodes.specs.Tree.{Tree}
use Rattle.nfs_procs.proofs.Encoded.{denied_encoded}
use Rattle.nfs_procs.proofs.Pages.{page_plus_written}
use Rattle.nfs_procs.proofs.Reading.{reads, denies, with_attributes}
use Rattle.nfs_procs.specs.Performing.{AppendsAnswer}
use Rattle.nfs_procs.specs.Readers as procedure
use Rattle.nfs_procs.specs.Scenes.{scene}
use Rattle.nfs_rules.specs.Rights.{may}
use Rattle.nfs_rules.specs.Subjects.{Subject}
use Rattle.nfs_rules.specs.declared.rights.Right.TheVariants.{Execute}
use Rattle.nfs_xdr.specs.Written.{Appends}
use Rattle.nfs_procs.proofs.readdirplus.readdirplus.Goals as goal

pub returns-in-Ok : goal.returns-in-Ok
returns-in-Ok c =
    let s = c.in-Ok.ensures.0 in
    let plans = c.in-Ok.ensures.2 in
    let a = c.args.args.now in
    let t = c.args.tree.now in
    let searchable = may s.ids s.file Execute in
    let dir = c.attributes.ensures ∙ ap (λ (u : Subject). u.file) plans.subject in
    let opened = subst (λ (u : Tree). IsOpen (left_after u s.file.fileid a.cookie) (min a.maxcount max_page) (plus_bytes searchable) c.in-Ok.page.page) plans.tree plans.page in
    let answered = page_plus_answered a.dircount a.maxcount t searchable (left_after t s.file.fileid a.cookie) c.in-Ok.page opened plans.searchable c.write.result c.write_page_head.new.out c.write.new.out c.write.ensures in
    reads (scene t c.args.call.now (nfs.Readdirplus a)) (procedure.readdirplus a) s _ _ refl c.in-Ok.ensures.1 plans.tree
    (subst (λ (u : Tree). AppendsAnswer (answer.Readdirplus (Ok (procedure.page_plus_at u s.file searchable a.cookie a.dircount a.maxcount))) c.args.out.now c.write.new.out) (sym plans.tree)
    (page_plus_written (procedure.page_plus_at t s.file searchable a.cookie a.dircount a.maxcount) _ _ _ _ c.u32.ensures.text
    (subst (λ (f : Fattr). Appends (page_head_text (Some f) 0) c.u32.new.self c.write_page_head.new.out) dir c.write_page_head.ensures.text) answered.2
    (subst (λ (f : Fattr). BeginsPage IsEntryPlus entry_plus_text (Some f) 0) dir c.write_page_head.ensures.entries_plus) answered.3))

pub returns-in-Err : goal.returns-in-Err
returns-in-Err c =
    let a = c.args.args.now in
    denies (scene c.args.tree.now c.args.call.now (nfs.Readdirplus a)) (procedure.readdirplus a) a.dir c.in-Err.denial c.write_denied_attributes.result (with_attributes answer.Readdirplus c.in-Err.denial.rule) _ _ c.in-Err.ensures refl
    (record { text = c.write_denied_attributes.ensures.text; encoded = denied_encoded answer.Readdirplus IsPagePlus IsPostOpAttr _ _ c.write_denied_attributes.ensures.encoded }) c.write_denied_attributes.ensures.done
