use Rattle.std.proofs.Common.{◌≤◌, vec_len}
use Rattle.nfs_content.specs.Paged.{Widens}
use Rattle.nfs_content.proofs.rows.lengthen.Given as goal

abbrev pub invariant-loop-place : goal.invariant-loop-place
invariant-loop-place g l = (l.place ≤ vec_len l.lists) × Widens l.fn.lists.items l.lists.items
