-- When a service ends that is told to.
use Rattle.std.specs.Prelude.{◌≡◌, ℕ, ◌+◌, ◌-◌, ◌^◌, ◌||◌, Bool, true, false, min, nat_eq, nat_le, Option, Some, None, if◌then◌else◌}
use Rattle.nfs_loop.specs.declared.attendant.Standing.{Standing}

-- whether so many connections have ended as there may be
abbrev pub all_ended : Option ℕ → ℕ → Bool
all_ended None ended = false
all_ended (Some connections) ended = nat_le connections ended

-- it goes on for 10 seconds from when it is told first
abbrev pub until_told : Bool → ℕ → Option ℕ → Option ℕ
until_told told now (Some until) = Some until
until_told told now None = if told then Some (min (now + 10) (2 ^ 64 - 1)) else None

-- or until no client is busy
abbrev pub is_at_end : Standing → Option ℕ → Bool
is_at_end standing None = false
is_at_end standing (Some until) = nat_eq standing.busy 0 || nat_le until standing.seconds

-- then it is over if its tree is saved; else it goes on as if it had not been told
abbrev pub EndsIfSaved : Bool → Option ℕ → Bool → Option ℕ → Bool → Type 0
EndsIfSaved true until was_over new_until is_over = (new_until ≡ until) × (is_over ≡ true)
EndsIfSaved false until was_over new_until is_over = (new_until ≡ None) × (is_over ≡ was_over)

-- where it is not at its end, it goes on until then
abbrev pub EndsWhere : Bool → Option ℕ → Bool → Bool → Option ℕ → Bool → Type 0
EndsWhere true until saved was_over new_until is_over = EndsIfSaved saved until was_over new_until is_over
EndsWhere false until saved was_over new_until is_over = (new_until ≡ until) × (is_over ≡ was_over)

abbrev pub EndsAfter : Standing → Option ℕ → Bool → Bool → Option ℕ → Bool → Type 0
EndsAfter standing until saved was_over new_until is_over = EndsWhere (is_at_end standing until) until saved was_over new_until is_over
