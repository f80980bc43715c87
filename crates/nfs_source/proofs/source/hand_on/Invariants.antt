use Rattle.std.proofs.Common.{◌≡◌, ℕ, List, length}
use Rattle.nfs_describe.specs.Outputs.{Takes}
use Rattle.nfs_xdr.specs.Known.{Shrinks}
use Rattle.nfs_source.proofs.source.hand_on.Given as goal

abbrev pub invariant-loop : goal.invariant-loop
invariant-loop g l =
    (text : List ℕ)
    × (l.len ≡ length text)
    × Shrinks (g.I.Read.remaining l.fn.file) text (g.I.Read.remaining l.file)
    × Takes g.S.Sink.has l.fn.sink text l.sink
