use Rattle.std.proofs.Common.{◌≡◌, heap_items, length, is_some, nat_lt, nat_cmp, sym, subst, ◌∙◌, arith, rules}
use Rattle.std.specs.BinaryHeap.{heap_capacity, IsHeap}
use Rattle.std.specs.List.{filter}
use Rattle.std.specs.List.Sorted.{IsPermutation}
use Rattle.std.proofs.lemmas.List.Sums.{count_by-le-length}
use Rattle.std.proofs.lemmas.Fn.{filter_same}
use Rattle.nfs_handles.proofs.VacantSlots.{vacant_within}
use Rattle.nfs_handles.proofs.slots.Slots.shrink_to.Goals as goal

pub invariant_of-self : goal.invariant_of-self
invariant_of-self g c =
    let slots = c.self.inside.slots.items in
    let heap = heap_items c.self.inside.vacant in
    let kept = c.retain.ensures.filtered.0 in
    let len : c.len-len.result ≡ length slots = c.len-len.ensures ∙ c.shrink_to.ensures.len ∙ c.self.inside.slots.ok.0 in
    let live = filter_same _ (λ r. nat_lt r.0 c.len-len.result) _ (λ x b f' k. search rules) _ _ c.retain.ensures.filtered.1 in
    let size = c.shrink_to-2.new.self.data.ok.0 in
    let size_old = c.self.inside.vacant.data.ok.0 in
    let room = c.shrink_to-2.ensures.lower_bound in
    let size_same = c.shrink_to-2.ensures.len in
    let fewer = c.retain.ensures.bound in
    let same = c.retain.ensures.capacity in
    vacant_within slots heap (heap_capacity c.self.inside.vacant) c.self.invariant c.shrink_to.new.self.items kept (heap_items c.shrink_to-2.new.self) (heap_capacity c.shrink_to-2.new.self)
    c.shrink_to.ensures.items
    (subst (λ n. kept ≡ filter (λ r. nat_lt r.0 n) heap) len live)
    (subst (λ l. IsPermutation kept l) (sym c.shrink_to-2.ensures.items) c.retain.ensures.filtered.2)
    (subst (λ l. IsHeap (λ x y. nat_cmp y.0 x.0) l) (sym c.shrink_to-2.ensures.items) c.retain.ensures.heap_order)
    (omega (arith, size, size_old, room, size_same, fewer, same, len, c.max.ensures, c.len.ensures, c.self.invariant.counted, count_by-le-length is_some slots))
    (omega (arith, room, same, len, c.max.ensures, c.self.invariant.fits))
