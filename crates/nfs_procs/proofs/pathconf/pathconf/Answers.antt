use Rattle.std.proofs.Common.{Ok, refl, subst, sym}
use Rattle.nfs_args.specs.Results.{IsPathLimits}
use Rattle.nfs_args.specs.declared.answer.NfsAnswer.TheVariants as answer
use Rattle.nfs_args.specs.declared.args.NfsArgs.TheVariants as nfs
use Rattle.nfs_attrs.specs.Encoding.{IsPostOpAttr}
use Rattle.nfs_inodes.specs.Tree.{Tree}
use Rattle.nfs_procs.proofs.Reading.{reads_freely, denies_handle, with_attributes}
use Rattle.nfs_procs.proofs.Encoded.{denied_encoded}
use Rattle.nfs_procs.specs.Performing.{AppendsAnswer}
use Rattle.nfs_procs.specs.Readers as procedure
use Rattle.nfs_procs.proofs.pathconf.pathconf.Goals as goal

pub returns-in-Ok : goal.returns-in-Ok
returns-in-Ok c =
    reads_freely c.args.tree.now c.args.call.now (nfs.Pathconf c.args.handle.now) (procedure.pathconf c.args.handle.now) c.args.handle.now refl c.in-Ok.file _ _ refl refl c.in-Ok.ensures
    (subst (λ (t : Tree). AppendsAnswer (answer.Pathconf (Ok (procedure.path_limits t.limits c.in-Ok.file.file))) c.args.out.now c.write_granted.new.out) (sym c.in-Ok.ensures.tree)
    (subst (λ f. AppendsAnswer (answer.Pathconf (Ok (procedure.path_limits c.args.tree.now.limits f))) c.args.out.now c.write_granted.new.out) c.attributes.ensures c.write_granted.ensures))

pub returns-in-Err : goal.returns-in-Err
returns-in-Err c =
    denies_handle c.args.tree.now c.args.call.now (nfs.Pathconf c.args.handle.now) (procedure.pathconf c.args.handle.now) c.args.handle.now refl c.in-Err.denial c.write_denied_attributes.result
    (with_attributes answer.Pathconf c.in-Err.denial.rule) _ _ c.in-Err.ensures refl
    (record { text = c.write_denied_attributes.ensures.text; encoded = denied_encoded answer.Pathconf IsPathLimits IsPostOpAttr _ _ c.write_denied_attributes.ensures.encoded })
    c.write_denied_attributes.ensures.done
