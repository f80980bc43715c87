-- Which tag a new file gets.
use Rattle.std.specs.Prelude.{◌≡◌, ◌≢◌, ℕ, ◌-◌, ◌^◌, ◌<◌, Some}
use Rattle.nfs_handles.specs.NumberedFiles.{NumberedFiles, tag_at}

-- a file that lives has this tag
abbrev pub IsTaken : {T : Type 0} → NumberedFiles T → ℕ → Type 0
IsTaken t tag = (n : ℕ) × (tag_at t n ≡ Some tag)

-- The tag of the next new file: the least that no file has; or the last, 2^32 - 1, where files have all others.
pub record IsNextTag {T : Type 0} (t : NumberedFiles T) (tag : ℕ) : Type 0 where
  pub fits : tag < 2 ^ 32
  pub below : (lesser : ℕ) → lesser < tag → IsTaken t lesser
  pub free : tag ≢ 2 ^ 32 - 1 → (n : ℕ) → tag_at t n ≢ Some tag

-- There is such a tag, and no other.
pub record OneIsNext (T : Type 0) : Type 0 where
  pub some : (t : NumberedFiles T) → (tag : ℕ) × IsNextTag t tag
  pub one : (t : NumberedFiles T) (tag other : ℕ) → IsNextTag t tag → IsNextTag t other → tag ≡ other
