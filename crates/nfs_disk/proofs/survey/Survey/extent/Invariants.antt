use Rattle.std.proofs.Common.{◌≡◌, ℕ, ◌+◌, ◌-◌, ◌^◌, ◌<◌, List, [], length, drop}
use Rattle.std.specs.Prelude.{min}
use Rattle.nfs_disk.specs.Surveys.{once, regular_bytes}
use Rattle.nfs_disk.specs.Tallies.{Holds}
use Rattle.nfs_disk.proofs.survey.Survey.extent.Given as goal

abbrev pub invariant-loop-found : goal.invariant-loop-found
invariant-loop-found l = (before : List ℕ) × Holds l.seen before × (l.bytes < 2 ^ 64) × (l.files < 2 ^ 64)
    × (min (l.bytes + regular_bytes (once before (drop l.found-index l.self.found.items))) (2 ^ 64 - 1) ≡ min (regular_bytes (once [] l.self.found.items)) (2 ^ 64 - 1))
    × (min (l.files + length (once before (drop l.found-index l.self.found.items))) (2 ^ 64 - 1) ≡ min (length (once [] l.self.found.items)) (2 ^ 64 - 1))
