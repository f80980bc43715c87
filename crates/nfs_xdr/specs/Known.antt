-- What reads and writes do to the bytes that a device holds or has left, where these are known.
use Rattle.std.specs.Prelude.{◌≡◌, ℕ, ◌<◌, ◌≤◌, Bool, true, List, [], ◌++◌, length, take, Option, Some}
use Rattle.nfs_xdr.specs.declared.link.Came.{Came}
use Rattle.nfs_xdr.specs.declared.link.Came.TheVariants.{Bytes, Nothing, End}

-- where the bytes before are known, those after are these and then the new ones
abbrev pub Grows : Option (List ℕ) → List ℕ → Option (List ℕ) → Type 0
Grows old bytes new = (before : List ℕ) → old ≡ Some before → new ≡ Some (before ++ bytes)

-- the same, with some first bytes of the new ones alone
abbrev pub GrowsByPart : Option (List ℕ) → List ℕ → Option (List ℕ) → Type 0
GrowsByPart old bytes new = (n : ℕ) × (n ≤ length bytes) × Grows old (take n bytes) new

-- a device that had failed has failed, and took nothing more
abbrev pub StaysFailed : Bool → Option (List ℕ) → Bool → Option (List ℕ) → Type 0
StaysFailed was old is new = was ≡ true → (is ≡ true) × Grows old [] new

-- where the bytes that are left are known, they were these and then those that are left now
abbrev pub Shrinks : Option (List ℕ) → List ℕ → Option (List ℕ) → Type 0
Shrinks old bytes new = (before : List ℕ) → old ≡ Some before → (after : List ℕ) × (new ≡ Some after) × (before ≡ bytes ++ after)

-- where the bytes that are left are known, there are none
abbrev pub IsAtEnd : Option (List ℕ) → Type 0
IsAtEnd left = (bytes : List ℕ) → left ≡ Some bytes → bytes ≡ []

-- What has come of the bytes that are still to come, where these are known: the first of some room, nothing yet, or nothing any more.
abbrev pub Receives : Option (List ℕ) → List ℕ → Came → Option (List ℕ) → Type 0
Receives before room (Bytes n) after = (0 < n) × (n ≤ length room) × Shrinks before (take n room) after
Receives before room Nothing after = after ≡ before
Receives before room End after = (after ≡ before) × IsAtEnd after
