use Rattle.std.proofs.Common.{◌≡◌, ℕ, List, ◌++◌, length}
use Rattle.nfs_source.specs.Readings.{HasText}
use Rattle.nfs_describe.specs.Outputs.{Takes}
use Rattle.nfs_source.proofs.description.ReaderSink.take.Given as goal

abbrev pub invariant-loop-rest : goal.invariant-loop-rest
invariant-loop-rest g l =
    (taken : List ℕ) × (l.span ≡ taken ++ l.rest) × Takes (HasText g.D.LineDigest.has) l.fn.self taken l.self

abbrev pub decreases-loop-rest : goal.decreases-loop-rest
decreases-loop-rest g l = length l.rest
