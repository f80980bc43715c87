use Rattle.std.proofs.Common.{sym, subst}
use Rattle.nfs_procs.specs.Denials.{IsNamed}
use Rattle.nfs_procs.proofs.subjects.subject_of.Goals as goal

pub returns-in-Ok : goal.returns-in-Ok
returns-in-Ok c = subst (IsNamed c.args.tree.now c.args.call.now c.args.handle.now) (sym c.subject.ensures) c.in-Ok.ensures
