use Rattle.std.proofs.Common.{◌<◌, ◌≤◌, ◌+◌, None, length, get_or, get_or-set_other, is_some, heap_items, sym, ap, refl, ◌∙◌, arith}
use Rattle.std.specs.BinaryHeap.{heap_capacity}
use Rattle.nfs_handles.specs.SlotList.{get}
use Rattle.nfs_handles.proofs.VacantSlots.{of_ok, held_in, vacant_taken, vacant_popped}
use Rattle.nfs_handles.proofs.slots.Slots.take.Goals.{then-slot-len-2, else-slot-len-2}
use Rattle.nfs_handles.proofs.slots.Slots.take.Goals as goal

pub invariant_of-self-then-slot-len-2 : goal.invariant_of-self-then-slot-len-2
invariant_of-self-then-slot-len-2 g c =
    let long = c.self.inside.slots.ok.0 in
    let within : c.args.slot < length c.self.inside.slots.items = omega (arith, c.if-slot-len.false, c.len.ensures, long) in
    let before : c.args.slot + 1 < length c.self.inside.slots.items = omega (arith, c.if-slot-len-2.true, c.len-2.ensures, long) in
    let held = held_in c.self.inside.slots.items c.args.slot c.index_mut.result.now within c.index_mut.ensures.value (ap is_some (sym c.take.ensures.value ∙ c.in_ok-stored.was)) in
    rw c.take.ensures.after (vacant_taken c.self.inside.slots.items (heap_items c.self.inside.vacant) (heap_capacity c.self.inside.vacant) c.self.invariant c.args.slot held
    (record { 0 = c.args.slot }) (heap_items c.push.new.self) (heap_capacity c.push.new.self) before refl
    (of_ok c.push.result c.unwrap.result c.unwrap.ensures c.push.ensures.permutation) (of_ok c.push.result c.unwrap.result c.unwrap.ensures c.push.ensures.heap_order) c.push.ensures.capacity)

pub invariant_of-self-else-slot-len-2 : goal.invariant_of-self-else-slot-len-2
invariant_of-self-else-slot-len-2 g c =
    let long = c.self.inside.slots.ok.0 in
    let within : c.args.slot < length c.self.inside.slots.items = omega (arith, c.if-slot-len.false, c.len.ensures, long) in
    let at_end : length c.self.inside.slots.items ≤ c.args.slot + 1 = omega (arith, c.if-slot-len-2.false, c.len-2.ensures, long) in
    let held = held_in c.self.inside.slots.items c.args.slot c.index_mut.result.now within c.index_mut.ensures.value (ap is_some (sym c.take.ensures.value ∙ c.in_ok-stored.was)) in
    let pops = rw c.take.ensures.after at c.pop_vacant.ensures.pops in
    vacant_popped c.self.inside.slots.items (heap_items c.self.inside.vacant) (heap_capacity c.self.inside.vacant) c.self.invariant c.args.slot held c.pop_vacant.new.slots.items at_end pops

pub returns-clause-others : goal.returns-clause-others
returns-clause-others g c other differs = elim c.if-slot-len-2.branch [
  | then-slot-len-2 w ↦ ap (λ s. get s other) w.self-is ∙ get_or-set_other c.self.inside.slots.items c.args.slot other _ None differs ∙ ap (λ s. get s other) c.self.view_is
  | else-slot-len-2 w ↦
      ap (λ s. get s other) w.self-is ∙ ap (λ l. get_or l other None) w.shrink.ensures ∙ w.pop_vacant.ensures.pops.left.same other
      ∙ get_or-set_other c.self.inside.slots.items c.args.slot other _ None differs ∙ ap (λ s. get s other) c.self.view_is
]
