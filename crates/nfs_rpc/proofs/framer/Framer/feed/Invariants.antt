use Rattle.std.proofs.Common.{◌≡◌, ◌≢◌, ◌<◌, ◌≤◌, ◌-◌, length, take}
use Rattle.nfs_rpc.specs.declared.framer.Stage.TheVariants.{Ready, Failed}
use Rattle.nfs_rpc.specs.Progress.{Moves}
use Rattle.nfs_rpc.proofs.framer.Framer.feed.Given as goal

abbrev pub invariant-loop-used : goal.invariant-loop-used
invariant-loop-used l = record {
  limit : l.self.limit ≡ l.fn.self.limit;
  within : l.used ≤ length l.chunk;
  moves : Moves l.fn.self (take l.used l.chunk) l.self;
  started : l.fn.self.stage ≢ Ready;
  began : l.fn.self.stage ≢ Failed;
  alive : l.self.stage ≢ Failed;
  took : l.self.stage ≡ Ready → 0 < l.used;
}

abbrev pub decreases-loop-used : goal.decreases-loop-used
decreases-loop-used l = length l.chunk - l.used
