use Rattle.std.proofs.Common.{refl, sym, subst, arith}
use Rattle.std.specs.Prelude.{Ok}
use Rattle.nfs_args.specs.declared.answer.NfsAnswer.TheVariants as answer
use Rattle.nfs_args.specs.declared.args.NfsArgs.TheVariants as nfs
use Rattle.nfs_attrs.specs.Encoding.{IsWcc, wcc_text}
use Rattle.nfs_inodes.specs.Conditions.{MayUnlinkSeen}
use Rattle.nfs_procs.proofs.Reading.{denies, with_change}
use Rattle.nfs_procs.proofs.Removing.{removes}
use Rattle.nfs_procs.proofs.Encoded.{granted_encoded, denied_encoded}
use Rattle.nfs_procs.specs.Changers as procedure
use Rattle.nfs_procs.specs.Scenes.{scene}
use Rattle.nfs_procs.proofs.rmdir.rmdir.Goals as goal

pub remove_entry-requires : goal.remove_entry-requires
remove_entry-requires c = record {
  may = subst (λ name. MayUnlinkSeen c.args.tree.now c.in-Ok.plan.dir.attributes.fileid name c.in-Ok.plan.number.0 c.in-Ok.plan.file) (sym c.bytes.ensures) c.in-Ok.ensures.2.may;
  room = omega (arith, c.requires);
}

pub returns-in-Ok : goal.returns-in-Ok
returns-in-Ok c =
    removes (scene c.args.tree.now c.args.call.now (nfs.Rmdir c.args.args.now)) (procedure.rmdir c.args.args.now) (λ dir. answer.Rmdir (Ok dir)) c.args.args.now.name c.bytes.result.now c.in-Ok.plan c.in-Ok.ensures.0 c.remove_entry.new.tree _ _ c.in-Ok.ensures.1 c.in-Ok.ensures.2 c.bytes.ensures (λ tag. refl) refl
    c.remove_entry.ensures.tree (record { text = c.remove_entry.ensures.text; encoded = granted_encoded answer.Rmdir IsWcc IsWcc wcc_text _ c.remove_entry.ensures.encoded })

pub returns-in-Err : goal.returns-in-Err
returns-in-Err c =
    let a = c.args.args.now in
    denies (scene c.args.tree.now c.args.call.now (nfs.Rmdir a)) (procedure.rmdir a) a.dir c.in-Err.denial c.write_denied_change.result (with_change answer.Rmdir c.in-Err.denial.rule) _ _ c.in-Err.ensures refl
    (record { text = c.write_denied_change.ensures.text; encoded = denied_encoded answer.Rmdir IsWcc IsWcc _ _ c.write_denied_change.ensures.encoded }) c.write_denied_change.ensures.done
