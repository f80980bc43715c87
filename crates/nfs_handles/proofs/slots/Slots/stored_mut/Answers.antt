use Rattle.std.proofs.Common.{heap_items}
use Rattle.std.specs.BinaryHeap.{heap_capacity}
use Rattle.nfs_handles.proofs.VacantSlots.{vacant_valued}
use Rattle.nfs_handles.proofs.slots.Slots.stored_mut.Goals as goal

pub invariant_of-self-lent : goal.invariant_of-self-lent
invariant_of-self-lent g c w =
    vacant_valued c.self.inside.slots.items (heap_items c.self.inside.vacant) (heap_capacity c.self.inside.vacant) c.self.invariant c.args.slot (rw (← c.self.view_is) at c.requires) w
