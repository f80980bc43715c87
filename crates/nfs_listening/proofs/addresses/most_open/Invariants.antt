use Rattle.nfs_listening.specs.Opening.{AreLoopbacks}
use Rattle.nfs_listening.proofs.addresses.most_open.Given as goal

abbrev pub invariant-loop-address : goal.invariant-loop-address
invariant-loop-address l = AreLoopbacks l.addresses l.address-index
