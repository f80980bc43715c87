use Rattle.std.proofs.Common.{◌-◌, Ok, refl, sym, subst}
use Rattle.std.specs.Prelude.{slice_get}
use Rattle.nfs_args.specs.Results.{IsRoom}
use Rattle.nfs_args.specs.declared.answer.NfsAnswer.TheVariants as answer
use Rattle.nfs_args.specs.declared.args.NfsArgs.TheVariants as nfs
use Rattle.nfs_attrs.specs.declared.fattr.Fattr.{Fattr}
use Rattle.nfs_attrs.specs.Encoding.{IsPostOpAttr}
use Rattle.nfs_inodes.specs.Reading.{totals_at}
use Rattle.nfs_procs.proofs.Reading.{reads_freely, denies_handle, with_attributes}
use Rattle.nfs_procs.proofs.Encoded.{denied_encoded}
use Rattle.nfs_procs.specs.Performing.{AppendsAnswer}
use Rattle.nfs_procs.specs.Readers as procedure
use Rattle.nfs_procs.proofs.fsstat.fsstat.Goals as goal

pub returns-in-Ok : goal.returns-in-Ok
returns-in-Ok c =
    reads_freely c.args.tree.now c.args.call.now (nfs.Fsstat c.args.handle.now) (procedure.fsstat c.args.handle.now) c.args.handle.now refl c.in-Ok.file _ _ refl refl c.in-Ok.ensures
    (subst (λ t. AppendsAnswer (answer.Fsstat (Ok (procedure.room_in (slice_get t.volumes (c.in-Ok.file.file.fsid - 1)) (totals_at t (c.in-Ok.file.file.fsid - 1)) c.in-Ok.file.file))) c.args.out.now c.write_granted.new.out)
    (sym c.in-Ok.ensures.tree)
    (subst (λ (f : Fattr). AppendsAnswer (answer.Fsstat (Ok (procedure.room_in (slice_get c.args.tree.now.volumes (f.fsid - 1)) (totals_at c.args.tree.now (f.fsid - 1)) f))) c.args.out.now c.write_granted.new.out) c.attributes.ensures c.write_granted.ensures))

pub returns-in-Err : goal.returns-in-Err
returns-in-Err c =
    denies_handle c.args.tree.now c.args.call.now (nfs.Fsstat c.args.handle.now) (procedure.fsstat c.args.handle.now) c.args.handle.now refl c.in-Err.denial c.write_denied_attributes.result
    (with_attributes answer.Fsstat c.in-Err.denial.rule) _ _ c.in-Err.ensures refl
    (record { text = c.write_denied_attributes.ensures.text; encoded = denied_encoded answer.Fsstat IsRoom IsPostOpAttr _ _ c.write_denied_attributes.ensures.encoded })
    c.write_denied_attributes.ensures.done
