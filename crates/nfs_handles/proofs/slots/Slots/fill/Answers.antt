use Rattle.std.proofs.Common.{◌≡◌, length, heap_items, heap_len, sym, ◌∙◌, refl, arith}
use Rattle.std.specs.BinaryHeap.{heap_capacity}
use Rattle.nfs_handles.proofs.VacantSlots.{Updates-set, next_within, vacant_push, vacant_filled}
use Rattle.nfs_handles.proofs.slots.Slots.fill.Goals as goal

pub invariant_of-self : goal.invariant_of-self
invariant_of-self g c =
    let next = rw (← c.self.view_is) at c.requires in
    let fits = next.fits in
    let long = c.self.inside.slots.ok.0 in
    let here : c.args.slot ≡ length c.self.inside.slots.items = c.if-slot-len.true ∙ c.len.ensures ∙ long in
    rw c.push_reserved.ensures.items (vacant_push c.self.inside.slots.items _ (heap_items c.clear.new.self) (heap_capacity c.clear.new.self)
    (λ k within. next.least k (omega (arith, within, here))) c.clear.ensures.items c.clear.ensures.heap_order (omega (arith, next.fits, here, c.clear.ensures.capacity)))

pub index_mut-requires : goal.index_mut-requires
index_mut-requires g c =
    let next = rw (← c.self.view_is) at c.requires in
    let long = c.self.inside.slots.ok.0 in
    omega (arith, long, next_within _ c.args.slot next (λ last. c.if-slot-len.false (last ∙ sym long ∙ sym c.len.ensures)))

pub invariant_of-self-2 : goal.invariant_of-self-2
invariant_of-self-2 g c =
    let next = rw (← c.self.view_is) at c.requires in
    let long = c.self.inside.slots.ok.0 in
    let within = next_within _ c.args.slot next (λ last. c.if-slot-len.false (last ∙ sym long ∙ sym c.len.ensures)) in
    rw c.pop.ensures.capacity (vacant_filled c.self.inside.slots.items (heap_items c.self.inside.vacant) (heap_capacity c.self.inside.vacant) c.self.invariant _ c.args.slot next within _ c.pop.result (heap_items c.pop.new.self)
    (heap_len c.self.inside.vacant) c.self.inside.vacant.data.ok.0 c.pop.ensures.none c.pop.ensures.permutation c.pop.ensures.heap_order)

pub returns : goal.returns
returns g c =
    let next = rw (← c.self.view_is) at c.requires in
    let long = c.self.inside.slots.ok.0 in
    let within = next_within _ c.args.slot next (λ last. c.if-slot-len.false (last ∙ sym long ∙ sym c.len.ensures)) in
    rw (← c.self.view_is) (Updates-set _ _ c.args.slot _ within refl)
