use Rattle.std.proofs.Common.{heap_items}
use Rattle.std.specs.BinaryHeap.{heap_capacity}
use Rattle.nfs_handles.proofs.VacantSlots.{none_vacant}
use Rattle.nfs_handles.proofs.slots.Slots.new.Goals as goal

pub invariant_of-result : goal.invariant_of-result
invariant_of-result g c = none_vacant c.new.result.items (heap_items c.new-2.result) (heap_capacity c.new-2.result) c.new.ensures.items c.new-2.ensures.items c.new-2.ensures.heap_order
