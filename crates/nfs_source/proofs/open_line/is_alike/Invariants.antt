use Rattle.std.proofs.Common.{◌≡◌, ◌≤◌, ◌-◌, length, take}
use Rattle.nfs_source.specs.OpenLines.{encode_in}
use Rattle.nfs_source.proofs.open_line.is_alike.Given as goal

abbrev pub invariant-loop-offset : goal.invariant-loop-offset
invariant-loop-offset l = record {
  within : l.offset ≤ length l.content;
  alike : encode_in l.one (take l.offset l.content) ≡ encode_in l.other (take l.offset l.content);
}

abbrev pub decreases-loop-offset : goal.decreases-loop-offset
decreases-loop-offset l = length l.content - l.offset
