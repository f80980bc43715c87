-- How much is asked for at once.
use Rattle.std.specs.Prelude.{◌≡◌, ℕ, ◌+◌, ◌*◌, ◌<◌, Option, None, Some}
use Rattle.nfs_rpc.specs.declared.framer.Begun.{Begun}

-- how much is left of a fragment that has begun, if one has
abbrev pub left_of : Option Begun → ℕ
left_of None = 0
left_of (Some b) = b.left

-- what is left of a record and then whole records of a size, as many as there may be bytes for
abbrev pub EndsWithRecord : ℕ → ℕ → ℕ → ℕ → Type 0
EndsWithRecord most left size n = ((records : ℕ) × (n ≡ left + records * size)) × (most < n + size)
