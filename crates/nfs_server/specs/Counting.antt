-- How many calls came of each procedure.
use Rattle.std.specs.Prelude.{ℕ, ◌+◌, ◌-◌, ◌^◌, min, List, set, slice_index}

-- the calls of NULL, of both programs, and those of the others, at the number of their procedure
pub record Counts : Type 0 where
  pub nulls : ℕ
  pub nfs : List ℕ
  pub mount : List ℕ

-- one more, as far as 64 bits count
abbrev pub one_more : ℕ → ℕ
one_more n = min (n + 1) (2 ^ 64 - 1)

-- one more at a place, and the others as they were
abbrev pub one_more_at : ℕ → List ℕ → List ℕ
one_more_at place counts = set counts place (one_more (slice_index counts place))
