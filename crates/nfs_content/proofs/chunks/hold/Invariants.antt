use Rattle.std.proofs.Common.{ℕ, ◌≤◌, ◌<◌, ◌/◌, ◌%◌}
use Rattle.nfs_content.specs.Paged.{SamePages}
use Rattle.nfs_content.specs.Tables.{pages_of, room_of}
use Rattle.nfs_content.proofs.chunks.hold.Given as goal

abbrev pub invariant-loop-place : goal.invariant-loop-place
invariant-loop-place l = SamePages (pages_of l.fn.table) (pages_of l.table)
    × ((i : ℕ) → l.start ≤ i → i < l.end → i / 4096 < l.place → i % 4096 < room_of l.table (i / 4096))
