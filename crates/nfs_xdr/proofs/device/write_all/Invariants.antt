use Rattle.std.proofs.Common.{◌≡◌, ◌≤◌, ◌-◌, length, take}
use Rattle.nfs_xdr.specs.Known.{Grows, StaysFailed}
use Rattle.nfs_xdr.proofs.device.write_all.Given as goal

abbrev pub invariant-loop-at : goal.invariant-loop-at
invariant-loop-at g l = record {
  within : l.at ≤ length l.bytes;
  wrote : Grows (g.W.ByteOut.contents l.fn.out) (take l.at l.bytes) (g.W.ByteOut.contents l.out);
  stays : StaysFailed (g.W.ByteOut.failed l.fn.out) (g.W.ByteOut.contents l.fn.out) (g.W.ByteOut.failed l.out) (g.W.ByteOut.contents l.out);
  alive : g.W.ByteOut.failed l.out ≡ g.W.ByteOut.failed l.fn.out;
}

abbrev pub decreases-loop-at : goal.decreases-loop-at
decreases-loop-at g l = length l.bytes - l.at
