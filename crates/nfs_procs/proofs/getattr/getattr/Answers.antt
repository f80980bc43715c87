use Rattle.std.proofs.Common.{Ok, refl, subst}
use Rattle.nfs_args.specs.declared.answer.NfsAnswer.TheVariants as answer
use Rattle.nfs_args.specs.declared.args.NfsArgs.TheVariants as nfs
use Rattle.nfs_procs.proofs.Judged.{denied_by_handle}
use Rattle.nfs_procs.proofs.Reading.{reads_freely}
use Rattle.nfs_procs.specs.Performing.{AppendsAnswer}
use Rattle.nfs_procs.specs.Readers as procedure
use Rattle.nfs_procs.proofs.getattr.getattr.Goals as goal

pub returns-in-Ok : goal.returns-in-Ok
returns-in-Ok c = reads_freely c.args.tree.now c.args.call.now (nfs.Getattr c.args.handle.now) procedure.getattr c.args.handle.now refl c.in-Ok.file _ _ refl refl c.in-Ok.ensures
    (subst (λ file. AppendsAnswer (answer.Getattr (Ok file)) c.args.out.now c.write_granted.new.out) c.attributes.ensures c.write_granted.ensures)

pub returns-in-Err : goal.returns-in-Err
returns-in-Err c =
    let denied = denied_by_handle c.args.tree.now c.args.call.now (nfs.Getattr c.args.handle.now) c.args.handle.now refl c.in-Err.denial c.in-Err.ensures in
    record { verdict = denied.verdict; uid_is = denied.uid; new_is = refl; written = c.write_denied.ensures }
