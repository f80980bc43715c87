-- NumberedFiles files change by change, and what holds all the way.
use Rattle.std.specs.Prelude.{◌≡◌, ℕ, ◌-◌, ◌^◌, ◌<◌, ◌≤◌, ◌≢◌, List, [], ◌∷◌, ◌++◌, Option, Some, None, Result, IsSome, is_some, option_map}
use Rattle.std.specs.Prelude.{if◌then◌else◌, nat_eq}
use Rattle.nfs_handles.specs.NumberedFiles.{NumberedFiles, at, tag_at, with_new, with_value, without, IsGiven, IsNumbered}
use Rattle.nfs_handles.specs.Handles.{handle_at, reading, number}
use Rattle.nfs_handles.specs.Changes.{Puts, Takes}
use Rattle.nfs_handles.specs.declared.number.Number.{Number}
use Rattle.nfs_handles.specs.declared.fault.PutFault.{PutFault}
use Rattle.nfs_handles.specs.declared.reading.Reading.TheVariants.{Live, Stale}

-- what one call changes
pub data Change (T : Type 0) : Type 0 where
  Nothing : Change T
  Put : (tag : ℕ) (value : T) → Change T
  Changed : (n : ℕ) (value : T) → Change T
  Taken : (n : ℕ) → Change T

module _ {T : Type 0} where
  abbrev pub changed : NumberedFiles T → Change T → NumberedFiles T
  changed t Nothing = t
  changed t (Put tag v) = with_new t tag v
  changed t (Changed n v) = with_value t n v
  changed t (Taken n) = without t n

  -- a number is put only where it is not the last, and a tag fits into a handle
  abbrev pub CanChange : NumberedFiles T → Change T → Type 0
  CanChange t Nothing = Unit {0}
  CanChange t (Put tag v) = (tag < 2 ^ 32) × (t.next ≢ 2 ^ 64 - 1)
  CanChange t (Changed n v) = Unit {0}
  CanChange t (Taken n) = Unit {0}

  -- one call leads from the first to the second
  abbrev pub Goes : NumberedFiles T → NumberedFiles T → Type 0
  Goes t u = (change : Change T) × CanChange t change × (u ≡ changed t change)

  -- changes, one after another, lead from the first to the second
  abbrev pub Runs : NumberedFiles T → List (Change T) → NumberedFiles T → Type 0
  Runs t [] u = u ≡ t
  Runs t (change ∷ later) u = CanChange t change × Runs (changed t change) later u

-- Each call goes by one change.
pub record CallsGo (T : Type 0) : Type 0 where
  pub put : (old new : NumberedFiles T) (v : T) (result : Result Number (PutFault T)) → Puts old v result new → Goes old new
  pub changed : (old : NumberedFiles T) (n : ℕ) (v : T) → Goes old (with_value old n v)
  pub taken : (old new : NumberedFiles T) (n : ℕ) (result : Option T) → Takes old n result new → Goes old new

-- Where each file is after a change.
pub record FilesAre (T : Type 0) : Type 0 where
  pub put : (t : NumberedFiles T) (tag : ℕ) (v : T) (n : ℕ) → IsNumbered t
      → at (with_new t tag v) n ≡ (if nat_eq t.next n then Some (record { tag = tag; value = v }) else at t n)
  pub changed : (t : NumberedFiles T) (m : ℕ) (v : T) (n : ℕ)
      → at (with_value t m v) n ≡ (if nat_eq m n then option_map (λ file. record { tag = file.tag; value = v }) (at t m) else at t n)
  pub taken : (t : NumberedFiles T) (m n : ℕ) → IsNumbered t → at (without t m) n ≡ (if nat_eq m n then None else at t n)
  pub given : (t : NumberedFiles T) (n : ℕ) → IsNumbered t → IsSome (at t n) → IsGiven t.next n

-- A handle names one file.
pub record HandlesNameOne (T : Type 0) : Type 0 where
  pub read : (t : NumberedFiles T) (n : ℕ) (handle : List ℕ) → IsNumbered t → handle_at t n ≡ Some handle → reading t handle ≡ Live (number n)
  pub once : (t : NumberedFiles T) (m n : ℕ) (handle : List ℕ) → IsNumbered t → handle_at t m ≡ Some handle → handle_at t n ≡ Some handle → m ≡ n

-- Runs, one after another, are a run. Through each: what holds of numbered files holds after it; the key stays, and the next number never falls.
pub record RunsKeep (T : Type 0) : Type 0 where
  pub joined : (t u w : NumberedFiles T) (first later : List (Change T)) → Runs t first u → Runs u later w → Runs t (first ++ later) w
  pub numbered : (t u : NumberedFiles T) (changes : List (Change T)) → IsNumbered t → Runs t changes u → IsNumbered u
  pub key : (t u : NumberedFiles T) (changes : List (Change T)) → Runs t changes u → u.key ≡ t.key
  pub next : (t u : NumberedFiles T) (changes : List (Change T)) → Runs t changes u → t.next ≤ u.next

-- A number that was given is never given again: where its file is gone it stays so, and while it lives it
-- keeps its tag. So a handle that named a file names it for as long as it lives, and no file ever after.
pub record NumbersAreForGood (T : Type 0) : Type 0 where
  pub gone : (t u : NumberedFiles T) (changes : List (Change T)) (n : ℕ) → IsNumbered t → Runs t changes u → n < t.next → at t n ≡ None → at u n ≡ None
  pub tag : (t u : NumberedFiles T) (changes : List (Change T)) (n : ℕ) → IsNumbered t → Runs t changes u → n < t.next → IsSome (at u n)
      → tag_at u n ≡ tag_at t n
  pub handle : (t u : NumberedFiles T) (changes : List (Change T)) (n : ℕ) (handle : List ℕ) → IsNumbered t → Runs t changes u
      → reading t handle ≡ Live (number n)
      → reading u handle ≡ (if is_some (at u n) then Live (number n) else Stale)
