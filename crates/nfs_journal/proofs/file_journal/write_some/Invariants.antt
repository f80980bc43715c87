use Rattle.std.proofs.Common.{[]}
use Rattle.nfs_xdr.specs.Known.{Grows}
use Rattle.nfs_journal.proofs.file_journal.write_some.Given as goal

abbrev pub invariant-loop : goal.invariant-loop
invariant-loop g l = Grows (g.F.Write.contents l.fn.file) [] (g.F.Write.contents l.file)
