use Rattle.std.proofs.Common.{drop}
use Rattle.nfs_why.specs.Exports.{export_line}
use Rattle.nfs_why.proofs.Putting.{Leaves}
use Rattle.nfs_why.proofs.exports.put_patterns.Given as goal

abbrev pub invariant-loop-export : goal.invariant-loop-export
invariant-loop-export l = Leaves (export_line l.path) l.exports (drop l.export-index l.exports) l.fn.out l.out
