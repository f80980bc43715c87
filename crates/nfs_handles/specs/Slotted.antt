-- How files are kept: each in a slot with its number, and for each number the slot that it leads to.
use Rattle.std.specs.Prelude.{◌≡◌, ℕ, ◌-◌, ◌^◌, min, ◌⊎◌, List, [], ◌∷◌, Option, Some, None, option_map, nat_eq}
use Rattle.std.specs.List.{filter_map}
use Rattle.std.specs.Map.{lookup}
use Rattle.nfs_handles.specs.NumberedFiles.{TaggedFile, NumberedFiles, IsNumbered}
use Rattle.nfs_handles.specs.SlotList.{SlotList, get}
use Rattle.nfs_handles.specs.declared.slots.Stored.{Stored}

-- the tag of a file in this slot: its number; or the last tag, 2^32 - 1, in each slot from there on
abbrev pub tag_of : ℕ → ℕ
tag_of slot = min slot (2 ^ 32 - 1)

module _ {T : Type 0} where
  -- the value in a slot
  abbrev pub value_in : SlotList (Stored T) → ℕ → Option T
  value_in slots slot = option_map (λ stored. stored.value) (get slots slot)

  -- a file in this slot
  abbrev pub tagged : ℕ → Stored T → TaggedFile T
  tagged slot stored = record { tag = tag_of slot; value = stored.value }

  -- a number with the file in the slot that it leads to
  abbrev pub file_in : SlotList (Stored T) → ℕ × ℕ → Option (ℕ × TaggedFile T)
  file_in slots place = option_map (λ stored. (place.0, tagged place.1 stored)) (get slots place.1)

  abbrev pub filed : SlotList (Stored T) → List (ℕ × ℕ) → List (ℕ × TaggedFile T)
  filed slots places = filter_map (file_in slots) places

  abbrev pub slotted : SlotList (Stored T) → List (ℕ × ℕ) → ℕ → List ℕ → NumberedFiles T
  slotted slots places next key = record { files = filed slots places; next = next; key = key }

  -- a number leads to a slot with a file of this number
  abbrev pub Leads : SlotList (Stored T) → ℕ × ℕ → Type 0
  Leads slots place = (stored : Stored T) × (get slots place.1 ≡ Some stored) × (stored.number ≡ place.0)

  abbrev pub AllLead : SlotList (Stored T) → List (ℕ × ℕ) → Type 0
  AllLead slots [] = Unit {0}
  AllLead slots (place ∷ places) = Leads slots place × AllLead slots places

  -- a number leads to this slot, or it leads nowhere and this one is vacant
  abbrev pub LeadsOr : SlotList (Stored T) → List (ℕ × ℕ) → ℕ → ℕ → Type 0
  LeadsOr slots places n slot = (lookup (nat_eq n) places ≡ Some slot) ⊎ ((lookup (nat_eq n) places ≡ None) × (get slots slot ≡ None))

  -- the number of the file in each slot leads to it
  abbrev pub AllLeadBack : SlotList (Stored T) → List (ℕ × ℕ) → Type 0
  AllLeadBack slots places = (slot : ℕ) (stored : Stored T) → get slots slot ≡ Some stored → lookup (nat_eq stored.number) places ≡ Some slot

  -- each number leads to the slot of its file, and so does the number of the file in each slot
  pub record IsKept (slots : SlotList (Stored T)) (places : List (ℕ × ℕ)) (next : ℕ) (key : List ℕ) : Type 0 where
    pub numbered : IsNumbered (slotted slots places next key)
    pub lead : AllLead slots places
    pub led : AllLeadBack slots places
