use Rattle.std.proofs.Common.{Some, Ok, refl, subst}
use Rattle.nfs_args.specs.Results.{IsRights}
use Rattle.nfs_args.specs.declared.answer.NfsAnswer.TheVariants as answer
use Rattle.nfs_args.specs.declared.args.NfsArgs.TheVariants as nfs
use Rattle.nfs_attrs.specs.Encoding.{IsPostOpAttr}
use Rattle.nfs_procs.proofs.Reading.{reads_freely, denies_handle, with_attributes}
use Rattle.nfs_procs.proofs.Encoded.{denied_encoded}
use Rattle.nfs_procs.specs.Performing.{AppendsAnswer}
use Rattle.nfs_procs.specs.Readers as procedure
use Rattle.nfs_rules.specs.Rights.{access_bits}
use Rattle.nfs_rules.specs.Subjects.{Subject}
use Rattle.nfs_procs.proofs.access.access.Goals as goal

pub returns-in-Ok : goal.returns-in-Ok
returns-in-Ok c =
    reads_freely c.args.tree.now c.args.call.now (nfs.Access c.args.args.now) (procedure.access c.args.args.now) c.args.args.now.file refl c.in-Ok.file _ _ refl refl c.in-Ok.ensures
    (subst (λ (s : Subject). AppendsAnswer (answer.Access (Ok (record { attributes = Some s.file; rights = access_bits s.options.read_only s.ids s.file c.args.args.now.rights }))) c.args.out.now c.write_granted.new.out) c.subject-file.ensures
    (subst (λ rights. AppendsAnswer (answer.Access (Ok (record { attributes = Some c.subject-file.result.file; rights = rights }))) c.args.out.now c.write_granted.new.out) c.access_bits.ensures
    (subst (λ f. AppendsAnswer (answer.Access (Ok (record { attributes = Some f; rights = c.access_bits.result }))) c.args.out.now c.write_granted.new.out) c.attributes.ensures c.write_granted.ensures)))

pub returns-in-Err : goal.returns-in-Err
returns-in-Err c =
    denies_handle c.args.tree.now c.args.call.now (nfs.Access c.args.args.now) (procedure.access c.args.args.now) c.args.args.now.file refl c.in-Err.denial c.write_denied_attributes.result
    (with_attributes answer.Access c.in-Err.denial.rule) _ _ c.in-Err.ensures refl
    (record { text = c.write_denied_attributes.ensures.text; encoded = denied_encoded answer.Access IsRights IsPostOpAttr _ _ c.write_denied_attributes.ensures.encoded })
    c.write_denied_attributes.ensures.done
