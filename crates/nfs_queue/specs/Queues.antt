-- Members by keys, and who of them waits.
use Rattle.std.specs.Prelude.{◌≡◌, ℕ, ◌<◌, ◌≤◌, Bool, true, false, List, [], ◌∷◌, ◌++◌, length, Option, Some, None, IsSome, nat_eq, slice_index_or, if◌then◌else◌}
use Rattle.std.specs.List.{list_any}
use Rattle.slab.specs.Slab.{Slab, get, HasRoomFor, Updates}

-- the members, the keys of those that wait, the next one first, and below what all keys are
abbrev pub Waiting : Type 0 → Type 0
Waiting M = Slab M × (List ℕ × ℕ)

-- whether a key waits
abbrev pub is_waiting : ℕ → List ℕ → Bool
is_waiting key queue = list_any (nat_eq key) queue

-- none of the keys stands there twice
abbrev pub AreApart : List ℕ → Type 0
AreApart [] = Unit {0}
AreApart (key ∷ rest) = (is_waiting key rest ≡ false) × AreApart rest

-- Who waits is a member, and waits once. The flags tell who waits. All may wait with no memory.
pub record IsQueue {M : Type 0} (members : Slab M) (queue : List ℕ) (flags : List Bool) (room : ℕ) : Type 0 where
  pub apart : AreApart queue
  pub flags_tell : (key : ℕ) → slice_index_or flags key false ≡ is_waiting key queue
  pub are_members : (key : ℕ) → is_waiting key queue ≡ true → IsSome (get members key)
  pub keys_fit : (key : ℕ) → IsSome (get members key) → key < length flags
  pub all_fit : length flags ≤ room

-- a key after the others, where it is to wait
abbrev pub with_key : Bool → ℕ → List ℕ → List ℕ
with_key true key queue = queue ++ key ∷ []
with_key false key queue = queue

-- the queue once something is reported of a key: a member that does not wait yet waits after the others
abbrev pub with_ready : {M : Type 0} → Option M → ℕ → List ℕ → List ℕ
with_ready None key queue = queue
with_ready (Some m) key queue = if is_waiting key queue then queue else queue ++ key ∷ []

-- the first of those that wait has its turn: it is away from the members, and its key is kept for it
pub record IsCalled {M : Type 0} (old new : Waiting M) (key : ℕ) (member : M) : Type 0 where
  pub first : old.1.0 ≡ key ∷ new.1.0
  pub was : get old.0 key ≡ Some member
  pub away : Updates old.0 new.0 key None
  pub kept : new.0.vacant_key ≡ key
  pub room : HasRoomFor new.0 1
  pub within : key < new.1.1
