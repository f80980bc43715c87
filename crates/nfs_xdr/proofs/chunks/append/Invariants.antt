use Rattle.std.proofs.Common.{◌≡◌, ◌+◌, ◌≤◌, ◌++◌, length, vec_len, vec_capacity}
use Rattle.nfs_xdr.proofs.chunks.append.Given as goal

abbrev pub invariant-loop-left : goal.invariant-loop-left
invariant-loop-left l = (l.list.items ++ l.left ≡ l.initial.list.items ++ l.bytes) × (vec_len l.list + length l.left ≤ vec_capacity l.list)
    × (vec_capacity l.initial.list ≤ vec_capacity l.list)

abbrev pub decreases-loop-left : goal.decreases-loop-left
decreases-loop-left l = length l.left
