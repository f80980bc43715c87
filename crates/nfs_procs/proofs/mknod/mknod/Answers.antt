use Rattle.std.proofs.Common.{refl}
use Rattle.nfs_args.specs.Results.{IsMade}
use Rattle.nfs_args.specs.declared.answer.NfsAnswer.TheVariants as answer
use Rattle.nfs_args.specs.declared.args.NfsArgs.TheVariants as nfs
use Rattle.nfs_attrs.specs.Encoding.{IsWcc}
use Rattle.nfs_procs.proofs.Reading.{denies, with_change}
use Rattle.nfs_procs.proofs.Encoded.{denied_encoded}
use Rattle.nfs_procs.specs.Readers as procedure
use Rattle.nfs_procs.specs.Scenes.{scene}
use Rattle.nfs_procs.proofs.mknod.mknod.Goals as goal

pub returns : goal.returns
returns c =
    let a = c.args.args.now in
    denies (scene c.args.tree.now c.args.call.now (nfs.Mknod a)) (procedure.mknod a) a.place.dir c.deny-denial.result c.write_denied_change.result (with_change answer.Mknod c.deny-denial.result.rule) _ _ c.deny-denial.ensures refl
    (record { text = c.write_denied_change.ensures.text; encoded = denied_encoded answer.Mknod IsMade IsWcc _ _ c.write_denied_change.ensures.encoded }) c.write_denied_change.ensures.done
