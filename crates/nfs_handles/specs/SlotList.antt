-- Slots: what each of them has, and which one the next value comes into.
use Rattle.std.specs.Prelude.{◌≡◌, ◌≢◌, ℕ, ◌<◌, List, length, Option, Some, None, IsSome, slice_index_or, slice_set}

-- a value or nothing in each slot from 0 on, and how many slots there is memory for
pub record SlotList (X : Type 0) : Type 0 where
  pub slots : List (Option X)
  pub capacity : ℕ

module _ {X : Type 0} where
  -- what is in a slot
  abbrev pub get : SlotList X → ℕ → Option X
  get s slot = slice_index_or s.slots slot None

  -- with another value in a slot that has one
  abbrev pub with_value : SlotList X → ℕ → X → SlotList X
  with_value s slot value = record s { slots = slice_set s.slots slot (Some value) }

  -- each of the slots has something in it
  abbrev pub AllHeld : List (Option X) → Type 0
  AllHeld slots = (slot : ℕ) → slot < length slots → IsSome (slice_index_or slots slot None)

  -- the next value comes into this slot: it is the least with nothing in it, and there is memory for it
  pub record IsNextSlot (s : SlotList X) (slot : ℕ) : Type 0 where
    pub vacant : get s slot ≡ None
    pub least : (lesser : ℕ) → lesser < slot → IsSome (get s lesser)
    pub fits : slot < s.capacity

  -- the slot has this now, and every other slot has what it had
  pub record Updates (old new : SlotList X) (slot : ℕ) (held : Option X) : Type 0 where
    pub changed : get new slot ≡ held
    pub others : (other : ℕ) → other ≢ slot → get new other ≡ get old other
