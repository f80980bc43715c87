-- For how long a service waits.
use Rattle.std.specs.Prelude.{ℕ, ◌*◌, ◌≤◌, ◌&&◌, ◌||◌, Bool, Option, Some, None, is_some, nat_lt}
use Rattle.std.specs.Duration.{as_nanos}
use Rattle.std.specs.declared.time.Duration.{Duration}
use Rattle.nfs_loop.specs.declared.limits.Limits.{Limits}

-- not without end, and for at most so many milliseconds
abbrev pub IsWithin : ℕ → Option Duration → Type 0
IsWithin millis None = ⊥
IsWithin millis (Some timeout) = as_nanos timeout ≤ millis * 1000000

-- whether something may be to do once a second: for silent clients, for a tree that was changed, at the end, for whoever watches
abbrev pub looks_at_the_clock : Limits → Bool → Bool → ℕ → Bool
looks_at_the_clock limits is_touched is_closed clients =
    is_some limits.idle && nat_lt 0 clients || is_some limits.save_every && is_touched || is_closed || limits.is_watched
