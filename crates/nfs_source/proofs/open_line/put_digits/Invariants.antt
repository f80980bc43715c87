use Rattle.std.proofs.Common.{◌≡◌, ◌≤◌, ◌-◌, ◌++◌, length, take}
use Rattle.nfs_source.specs.OpenLines.{encode_in}
use Rattle.nfs_source.proofs.open_line.put_digits.Given as goal

abbrev pub invariant-loop-offset : goal.invariant-loop-offset
invariant-loop-offset l = record {
  within : l.offset ≤ length l.content;
  encoded : l.line.items ≡ l.fn.line.items ++ encode_in l.case (take l.offset l.content);
}

abbrev pub decreases-loop-offset : goal.decreases-loop-offset
decreases-loop-offset l = length l.content - l.offset
