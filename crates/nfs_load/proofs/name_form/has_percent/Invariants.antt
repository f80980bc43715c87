use Rattle.std.proofs.Common.{◌≡◌, drop}
use Rattle.nfs_load.specs.Names as spec
use Rattle.nfs_load.proofs.name_form.has_percent.Given as goal

abbrev pub invariant-loop-byte : goal.invariant-loop-byte
invariant-loop-byte l = spec.has_percent l.text ≡ spec.has_percent (drop l.byte-index l.text)
