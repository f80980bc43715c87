use Rattle.std.proofs.Common.{◌≡◌, drop}
use Rattle.nfs_ask.specs.Operations.{operation_in}
use Rattle.nfs_ask.proofs.operation.operation_in.Given as goal

abbrev pub invariant-loop-known : goal.invariant-loop-known
invariant-loop-known l = operation_in l.rows l.word ≡ operation_in (drop l.known-index l.rows) l.word
