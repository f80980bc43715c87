use Rattle.std.proofs.Common.{◌≡◌, drop}
use Rattle.nfs_loop.specs.Refusing.{wait_until}
use Rattle.nfs_loop.proofs.refused_peers.RefusedPeers.until.Given as goal

abbrev pub invariant-loop-peer : goal.invariant-loop-peer
invariant-loop-peer l = wait_until l.addr l.now (drop l.peer-index l.self) ≡ wait_until l.addr l.now l.self
