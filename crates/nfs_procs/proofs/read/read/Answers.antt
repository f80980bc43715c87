use Rattle.std.proofs.Common.{take, drop, min, Ok, refl, sym, subst, ◌∙◌, ap}
use Rattle.nfs_args.specs.Results.{IsReadData}
use Rattle.nfs_args.specs.declared.answer.NfsAnswer.TheVariants as answer
use Rattle.nfs_args.specs.declared.args.NfsArgs.TheVariants as nfs
use Rattle.nfs_attrs.specs.Encoding.{IsPostOpAttr}
use Rattle.nfs_attrs.specs.declared.fattr.Fattr.{Fattr}
use Rattle.nfs_inodes.specs.Reading.{bytes_at}
use Rattle.nfs_procs.proofs.Reading.{reads, denies, with_attributes}
use Rattle.nfs_procs.proofs.Encoded.{denied_encoded}
use Rattle.nfs_procs.specs.Performing.{AppendsAnswer}
use Rattle.nfs_procs.specs.Readers as procedure
use Rattle.nfs_procs.specs.Scenes.{scene}
use Rattle.nfs_rules.specs.Subjects.{Subject}
use Rattle.nfs_procs.proofs.read.read.Goals as goal

pub returns-in-Ok : goal.returns-in-Ok
returns-in-Ok c =
    let s = c.in-Ok.ensures.0 in
    let plans = c.in-Ok.ensures.2 in
    let a = c.args.args.now in
    reads (scene c.args.tree.now c.args.call.now (nfs.Read c.args.args.now)) (procedure.read a) s _ _ refl c.in-Ok.ensures.1 plans.tree
    (subst (λ t. AppendsAnswer (answer.Read (Ok (procedure.data_of s.file a.offset (take (min a.count procedure.max_transfer) (drop a.offset (bytes_at t s.file.fileid)))))) c.args.out.now c.write_data.new.out) (sym plans.tree)
    (subst (λ (f : Fattr). AppendsAnswer (answer.Read (Ok (procedure.data_of f a.offset (take (min a.count procedure.max_transfer) (drop a.offset (bytes_at c.args.tree.now f.fileid)))))) c.args.out.now c.write_data.new.out)
    (c.view.ensures.attributes ∙ ap (λ (u : Subject). u.file) plans.subject) c.write_data.ensures))

pub returns-in-Err : goal.returns-in-Err
returns-in-Err c =
    let a = c.args.args.now in
    denies (scene c.args.tree.now c.args.call.now (nfs.Read a)) (procedure.read a) a.file c.in-Err.denial c.write_denied_attributes.result (with_attributes answer.Read c.in-Err.denial.rule) _ _ c.in-Err.ensures refl
    (record { text = c.write_denied_attributes.ensures.text; encoded = denied_encoded answer.Read IsReadData IsPostOpAttr _ _ c.write_denied_attributes.ensures.encoded }) c.write_denied_attributes.ensures.done
