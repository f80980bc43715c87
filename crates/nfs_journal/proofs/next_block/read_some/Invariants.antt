use Rattle.std.proofs.Common.{◌≡◌, [], length}
use Rattle.nfs_xdr.specs.Known.{Shrinks}
use Rattle.nfs_journal.proofs.next_block.read_some.Given as goal

abbrev pub invariant-loop : goal.invariant-loop
invariant-loop g l = record {
  rest : Shrinks (g.F.Read.remaining l.fn.file) [] (g.F.Read.remaining l.file);
  len : length l.bytes ≡ length l.fn.bytes;
}
