use Rattle.std.proofs.Common.{[]}
use Rattle.nfs_xdr.specs.Known.{Shrinks}
use Rattle.nfs_source.proofs.source.read_some.Given as goal

abbrev pub invariant-loop : goal.invariant-loop
invariant-loop g l = Shrinks (g.I.Read.remaining l.fn.file) [] (g.I.Read.remaining l.file)
