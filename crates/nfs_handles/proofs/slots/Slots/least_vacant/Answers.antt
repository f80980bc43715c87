use Rattle.std.proofs.Common.{◌≡◌, heap_items, heap_len, IsSome, true≢false, sym, subst, refl, arith}
use Rattle.std.specs.BinaryHeap.{heap_capacity}
use Rattle.nfs_handles.proofs.VacantSlots.{none_left, next_at_top, held_beyond, held_where_empty}
use Rattle.nfs_handles.proofs.slots.Slots.least_vacant.Goals as goal

pub returns-in-Some-clause-some : goal.returns-in-Some-clause-some
returns-in-Some-clause-some g c =
    let some = c.in-Some.ensures.variant.0 refl in
    let size = c.self.inside.vacant.data.ok.0 in
    let long = c.self.inside.slots.ok in
    let fits = c.self.invariant.fits in
    rw (← c.self.view_is) (next_at_top c.self.inside.slots.items (heap_items c.self.inside.vacant) (heap_capacity c.self.inside.vacant) c.self.invariant _ c.in-Some.least.now
    (omega (arith, c.if-least-len.true, c.len.ensures, long)) (omega (arith, some, size)) c.in-Some.ensures.lookup (c.in-Some.ensures.greatest c.self.invariant.least_first) (omega (arith, long, fits)))

pub returns-in_default-clause-none : goal.returns-in_default-clause-none
returns-in_default-clause-none g c =
    let long = c.self.inside.slots.ok in
    rw (← c.self.view_is) (held_beyond c.self.inside.slots.items (heap_items c.self.inside.vacant) (heap_capacity c.self.inside.vacant) c.self.invariant c.in-Some.least.now
    (omega (arith, c.if-least-len.false, c.len.ensures, long)) (c.in-Some.ensures.greatest c.self.invariant.least_first))

pub returns-in_default-2-clause-none : goal.returns-in_default-2-clause-none
returns-in_default-2-clause-none g c =
    let none : heap_len c.self.inside.vacant ≡ 0 = none_left _ (λ more. true≢false (sym (subst (λ o. IsSome o) c.in_default.is (c.peek.ensures.variant.1 more)))) in
    let size = c.self.inside.vacant.data.ok.0 in
    rw (← c.self.view_is) (held_where_empty c.self.inside.slots.items (heap_items c.self.inside.vacant) (heap_capacity c.self.inside.vacant) c.self.invariant (omega (arith, none, size)))
