use Rattle.std.proofs.Common.{◌-◌, ◌≤◌, length, take, drop}
use Rattle.hex.specs.Hex.{encode_lower}
use Rattle.nfs_describe.specs.Outputs.{Takes}
use Rattle.nfs_inodes.specs.Reading.{IsFirstChunk}
use Rattle.nfs_inodes.specs.Views.{bytes_seen}
use Rattle.nfs_describe.proofs.lines.put_content.Given as goal

abbrev pub invariant-loop-run : goal.invariant-loop-run
invariant-loop-run g l = record {
  chunk : IsFirstChunk l.run (drop l.done (bytes_seen l.file));
  within : l.done ≤ length (bytes_seen l.file);
  written : Takes g.O.Output.has l.fn.out (encode_lower (take l.done (bytes_seen l.file))) l.out;
}

abbrev pub decreases-loop-run : goal.decreases-loop-run
decreases-loop-run g l = length (bytes_seen l.file) - l.done
