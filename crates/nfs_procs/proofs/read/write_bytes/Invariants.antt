use Rattle.std.proofs.Common.{◌-◌, ◌≤◌, take, drop}
use Rattle.nfs_xdr.specs.Written.{Appends}
use Rattle.nfs_inodes.specs.Views.{bytes_seen}
use Rattle.nfs_procs.proofs.read.write_bytes.Given as goal

abbrev pub invariant-loop-done : goal.invariant-loop-done
invariant-loop-done l = record {
  within : l.done ≤ l.len;
  wrote : Appends (take l.done (drop l.offset (bytes_seen l.file))) l.fn.out l.out;
}

abbrev pub decreases-loop-done : goal.decreases-loop-done
decreases-loop-done l = l.len - l.done
