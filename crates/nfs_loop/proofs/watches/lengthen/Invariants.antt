use Rattle.std.proofs.Common.{◌≡◌, ℕ, ◌+◌, ◌-◌, ◌≤◌, vec_len}
use Rattle.nfs_loop.specs.Watching.{held_count, watch_at}
use Rattle.nfs_loop.proofs.watches.lengthen.Given as goal

abbrev pub invariant-loop-watches : goal.invariant-loop-watches
invariant-loop-watches l = record {
  longer : vec_len l.fn.watches ≤ vec_len l.watches;
  stay : (k : ℕ) → watch_at l.watches.items k ≡ watch_at l.fn.watches.items k;
  count : held_count l.watches.items ≡ held_count l.fn.watches.items;
}

abbrev pub decreases-loop-watches : goal.decreases-loop-watches
decreases-loop-watches l = l.key + 1 - vec_len l.watches
