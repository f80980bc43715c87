use Rattle.std.proofs.Common.{ap, subst, sym}
use Rattle.nfs_server.specs.Fits.{Fits, reloaded, with_exports}
use Rattle.nfs_server.proofs.Reloads.{reloaded_fits}
use Rattle.nfs_server.proofs.server.Server.set_exports.Goals as goal

pub returns-clause-fits : goal.returns-clause-fits
returns-clause-fits c = λ history fits. subst (Fits (reloaded history c.args.table)) (ap (with_exports c.args.table) (sym c.self.view_is)) (reloaded_fits history c.args.table c.args.self.now fits)
