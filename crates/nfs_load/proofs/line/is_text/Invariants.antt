use Rattle.std.proofs.Common.{◌≡◌, ◌&&◌, drop}
use Rattle.std.specs.List.{list_all}
use Rattle.nfs_load.specs.Lines.{is_printable}
use Rattle.nfs_load.proofs.line.is_text.Given as goal

abbrev pub invariant-loop-byte : goal.invariant-loop-byte
invariant-loop-byte l = list_all is_printable l.line ≡ (l.is_text && list_all is_printable (drop l.byte-index l.line))
