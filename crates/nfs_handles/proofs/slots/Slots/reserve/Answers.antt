use Rattle.std.proofs.Common.{◌≡◌, sym, subst, ◌∙◌, arith}
use Rattle.nfs_handles.specs.SlotList.{AllHeld}
use Rattle.nfs_handles.proofs.VacantSlots.{next_at_end}
use Rattle.nfs_handles.proofs.slots.Slots.reserve.Goals as goal

pub returns-clause-slot : goal.returns-clause-slot
returns-clause-slot g c =
    let held : AllHeld c.self.inside.slots.items = rw (← c.self.view_is) at c.in_default.ensures.none in
    let same : c.reserve.new.self.items ≡ c.self.inside.slots.items = c.in_ok-reserve.ensures.items in
    let room = c.in_ok-reserve.ensures.ok in
    let room_heap = c.in_ok-reserve-2.ensures.ok in
    next_at_end c.reserve.new.self.items _ c.len-2.result (c.len-2.ensures ∙ c.reserve.new.self.ok.0) (subst AllHeld (sym same) held)
    (omega (arith, room, room_heap, c.len-2.ensures, c.capacity.ensures, c.len.ensures, c.saturating_sub-room.ensures))
