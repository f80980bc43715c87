use Rattle.std.proofs.Common.{◌≡◌, drop}
use Rattle.std.specs.List.{find}
use Rattle.nfs_exports.specs.declared.export_table.Export.{Export}
use Rattle.nfs_exports.specs.Patterns.{covers}
use Rattle.nfs_exports.proofs.export_table.ExportTable.grant.Given as goal

abbrev pub invariant-loop-export : goal.invariant-loop-export
invariant-loop-export l = find (λ (e : Export). covers e.pattern l.addr) l.export-items ≡ find (λ (e : Export). covers e.pattern l.addr) (drop l.export-index l.export-items)
