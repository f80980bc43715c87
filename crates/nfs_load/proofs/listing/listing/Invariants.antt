use Rattle.std.proofs.Common.{◌≡◌, ◌≤◌, ◌-◌}
use Rattle.nfs_xdr.specs.Known.{Grows}
use Rattle.nfs_load.specs.Listings.{texts_to}
use Rattle.nfs_load.proofs.listing.listing.Given as goal

abbrev pub invariant-loop-number : goal.invariant-loop-number
invariant-loop-number g l = record {
  first : 1 ≤ l.number;
  last : l.number - 1 ≤ l.tree.next - 1;
  end : l.number-end ≡ l.tree.next;
  written : Grows (g.W.ByteOut.contents l.fn.out) (texts_to l.tree (l.number - 1)) (g.W.ByteOut.contents l.out);
  alive : g.W.ByteOut.failed l.out ≡ g.W.ByteOut.failed l.fn.out;
}
