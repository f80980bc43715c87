-- How often numbers came, and which did.
use Rattle.std.specs.Prelude.{◌≡◌, ℕ, ◌-◌, ◌^◌, ◌==◌, List, min, count_by, unwrap_or}
use Rattle.std.specs.Ordering.{nat_cmp}
use Rattle.std.specs.BTreeMap as map
use Rattle.std.specs.BTreeSet as set
use Rattle.std.specs.BTreeSet.{BTreeSet}
use Rattle.nfs_disk.specs.Needs.{most_equal}
use Rattle.nfs_disk.specs.Surveys.{is_among}
use Rattle.nfs_disk.specs.declared.tally.Tally.{Tally}

-- these numbers were counted, the last one first; each count ends at 2 ^ 64 - 1
pub record Counts (it : Tally) (numbers : List ℕ) : Type 0 where
  pub each : (n : ℕ) → unwrap_or (map.get nat_cmp it.counts n) 0 ≡ min (count_by (λ m. m == n) numbers) (2 ^ 64 - 1)
  pub most : it.most ≡ min (most_equal numbers) (2 ^ 64 - 1)

-- the set has these numbers
abbrev pub Holds : BTreeSet ℕ → List ℕ → Type 0
Holds it numbers = (n : ℕ) → set.contains nat_cmp it n ≡ is_among n numbers
