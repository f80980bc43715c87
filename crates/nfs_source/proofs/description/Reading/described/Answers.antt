use Rattle.std.proofs.Common.{subst, sym, ◌∙◌}
use Rattle.nfs_load.specs.Descriptions.{Describes}
use Rattle.nfs_source.proofs.Readings.{all_described}
use Rattle.nfs_source.proofs.description.Reading.described.Goals as goal

pub returns-in-Err-clause-fault : goal.returns-in-Err-clause-fault
returns-in-Err-clause-fault g c = λ text few read.
    let it = c.args.self in
    (c.in-Err.error, subst (Describes text) (sym c.outcome.ensures ∙ c.in-Err.is) (all_described g.D.LineDigest.has it.fault it.loading it.digest text few read), c.diagnostic_of.ensures)
