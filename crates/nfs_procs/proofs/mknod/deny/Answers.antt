use Rattle.std.proofs.Common.{refl, sym, subst}
use Rattle.nfs_args.specs.declared.args.NfsArgs.TheVariants as nfs
use Rattle.nfs_procs.proofs.Judged.{denied_by_handle, denied_by_rule}
use Rattle.nfs_procs.specs.Denials.{IsNamed}
use Rattle.nfs_rules.specs.declared.rule.Rule.TheVariants.{NoMknod}
use Rattle.nfs_procs.proofs.mknod.deny.Goals as goal

pub returns-in-Ok : goal.returns-in-Ok
returns-in-Ok c =
    let a = c.args.args.now in
    let named = subst (IsNamed c.args.tree.now c.args.call.now a.place.dir) (sym c.subject.ensures) c.in-Ok.ensures in
    denied_by_rule c.args.tree.now c.args.call.now (nfs.Mknod a) a.place.dir refl c.subject.result NoMknod c.of_rule.result named refl c.of_rule.ensures

pub returns-in-Err : goal.returns-in-Err
returns-in-Err c =
    let a = c.args.args.now in
    denied_by_handle c.args.tree.now c.args.call.now (nfs.Mknod a) a.place.dir refl c.in-Err.denial c.in-Err.ensures
