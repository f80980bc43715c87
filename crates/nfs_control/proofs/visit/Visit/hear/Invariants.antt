use Rattle.nfs_control.specs.Visits.{IsShort}
use Rattle.nfs_control.proofs.visit.Visit.hear.Given as goal

abbrev pub invariant-loop : goal.invariant-loop
invariant-loop g l = IsShort l.fn.self.line → IsShort l.self.line
