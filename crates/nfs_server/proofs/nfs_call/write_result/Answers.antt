use Rattle.std.proofs.Common.{refl}
use Rattle.nfs_server.proofs.Performed.{adds_result}
use Rattle.nfs_server.proofs.Short.{short_result}
use Rattle.nfs_server.proofs.nfs_call.write_result.Goals as goal

pub returns-clause-adds : goal.returns-clause-adds
returns-clause-adds c = adds_result _ _ _ _ _ _ c.perform-done.ensures

pub returns-clause-short : goal.returns-clause-short
returns-clause-short c = λ m. short_result _ _ _ _ _ _ refl c.law.ensures m c.perform-done.ensures
