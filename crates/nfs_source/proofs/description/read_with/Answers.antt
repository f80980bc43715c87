use Rattle.std.proofs.Common.{sym, subst}
use Rattle.nfs_source.specs.Status.{IsOfReading}
use Rattle.nfs_source.proofs.Readings.{of_reading}
use Rattle.nfs_source.proofs.description.read_with.Goals as goal

pub returns-clause-fault : goal.returns-clause-fault
returns-clause-fault g c = subst IsOfReading (sym c.advised.ensures) (of_reading _ _ c.in-Err.first.fault c.in-Err.ensures.fault)
