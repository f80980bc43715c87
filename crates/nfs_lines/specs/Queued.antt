-- Lines on their way to a device.
use Rattle.std.specs.Prelude.{◌≡◌, ℕ, ◌≤◌, Bool, true, not, ◌&&◌, nat_le, length, List, ◌++◌, take, Option, None, option_map, if◌then◌else◌}
use Rattle.nfs_xdr.specs.Known.{Grows}

-- a device, the lines that it has not taken yet, and whether it has failed
pub record Queued (D : Type 0) : Type 0 where
  pub device : D
  pub pending : List ℕ
  pub failed : Bool

-- all that was put: what the device took, where that is known, and what is pending
abbrev pub put : {D : Type 0} → (D → Option (List ℕ)) → Queued D → Option (List ℕ)
put taken q = option_map (λ bytes. bytes ++ q.pending) (taken q.device)

-- what was put, where lines stand as they were given
abbrev pub put_plainly : {D : Type 0} → (D → Option (List ℕ)) → Bool → Queued D → Option (List ℕ)
put_plainly taken is_plain q = if is_plain then put taken q else None

-- 4 MiB of lines wait, and the device has not failed
abbrev pub is_full : {D : Type 0} → Queued D → Bool
is_full q = not q.failed && nat_le 4194304 (length q.pending)

-- some first bytes of a line were put, or none; all of it where that is said
pub record PutsPart {D : Type 0} (taken : D → Option (List ℕ)) (is_plain : Bool) (line : List ℕ) (is_whole : Bool) (old new : Queued D) : Type 0 where
  pub n : ℕ
  pub within : n ≤ length line
  pub grows : Grows (put_plainly taken is_plain old) (take n line) (put_plainly taken is_plain new)
  pub whole : is_whole ≡ true → take n line ≡ line
