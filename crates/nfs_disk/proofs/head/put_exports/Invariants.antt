use Rattle.std.proofs.Common.{◌≡◌, ◌++◌, drop}
use Rattle.std.specs.List.{flat_map}
use Rattle.nfs_disk.specs.Heads.{export_line}
use Rattle.nfs_disk.proofs.head.put_exports.Given as goal

abbrev pub invariant-loop-export : goal.invariant-loop-export
invariant-loop-export l = l.text.items ++ flat_map (λ word. export_line word.now) (drop l.export-index l.exports) ≡ l.fn.text.items ++ flat_map (λ word. export_line word.now) l.exports
