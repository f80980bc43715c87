-- What slots end as where a reference to one of their values is lent.
use Rattle.std.specs.Prelude.{ℕ, Option, Some, None}
use Rattle.std.specs.Borrow.{Fml, RattleType, MutBor, Lends, LendsIf}
use Rattle.nfs_handles.specs.SlotList.{SlotList, get, with_value}
use Rattle.nfs_handles.specs.declared.slots.Stored.{Stored}
use Rattle.nfs_handles.specs.contracts.slots.Slots.{the_row}
use Rattle.nfs_handles.specs.contracts.slots.Stored.{the_row as stored_row}

-- with another value in a slot that has one: its number stays
abbrev pub with_value_in : {T : Type 0} → SlotList (Stored T) → ℕ → T → Option (Stored T) → SlotList (Stored T)
with_value_in slots slot value None = slots
with_value_in slots slot value (Some stored) = with_value slots slot (record stored { value = value })

module _ (T : RattleType) where
  -- once the borrow ends, the slot has the value that was left there
  abbrev pub LendsSlot : MutBor (SlotList (Stored T.Denot)) → ℕ → Option (MutBor T.Denot) → Fml
  LendsSlot s slot r = LendsIf (the_row T) T s r (λ value. with_value_in s.now slot value (get s.now slot)) s.now

  -- the same with the number beside the value, in a slot that has one, and in any
  abbrev pub LendsStored : MutBor (SlotList (Stored T.Denot)) → ℕ → MutBor (Stored T.Denot) → Fml
  LendsStored s slot r = Lends (the_row T) (stored_row T) s r (with_value s.now slot)

  abbrev pub LendsStoredIf : MutBor (SlotList (Stored T.Denot)) → ℕ → Option (MutBor (Stored T.Denot)) → Fml
  LendsStoredIf s slot r = LendsIf (the_row T) (stored_row T) s r (with_value s.now slot) s.now
