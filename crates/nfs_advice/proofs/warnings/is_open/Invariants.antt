use Rattle.std.proofs.Common.{◌≡◌, drop}
use Rattle.std.specs.List.{list_any}
use Rattle.nfs_advice.specs.Open.{is_open_export}
use Rattle.nfs_advice.proofs.warnings.is_open.Given as goal

abbrev pub invariant-loop-export : goal.invariant-loop-export
invariant-loop-export l = list_any is_open_export l.exports ≡ list_any is_open_export (drop l.export-index l.exports)
