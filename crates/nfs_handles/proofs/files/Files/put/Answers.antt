use Rattle.std.proofs.Common.{◌≡◌, Some, sym, subst, ◌∙◌}
use Rattle.nfs_handles.specs.Changes.{Adds}
use Rattle.nfs_handles.specs.Placed.{Placed}
use Rattle.nfs_handles.specs.SlotList.{get}
use Rattle.nfs_handles.specs.Slotted.{IsKept, slotted}
use Rattle.nfs_handles.proofs.Slotted.{kept_reserved, slotted_reserved, kept_put, adds_slotted}
use Rattle.nfs_handles.proofs.files.Files.put.Goals as goal

pub invariant_of-self : goal.invariant_of-self
invariant_of-self g c = kept_reserved c.self.inside.slots c.reserve.new.self c.reserve.new.self.capacity c.self.inside.places.entries c.self.inside.places.next c.self.inside.key c.reserve.ensures.same c.self.invariant

pub invariant_of-self-in-Err-push : goal.invariant_of-self-in-Err-push
invariant_of-self-in-Err-push g c = subst (λ (p : Placed). IsKept c.reserve.new.self p.entries p.next c.self.inside.key) (sym c.in-Err-push.ensures.err) (kept_reserved c.self.inside.slots c.reserve.new.self c.reserve.new.self.capacity c.self.inside.places.entries c.self.inside.places.next c.self.inside.key c.reserve.ensures.same c.self.invariant)

pub invariant_of-self-in-Ok-push : goal.invariant_of-self-in-Ok-push
invariant_of-self-in-Ok-push g c =
    let there = subst (λ n. get c.fill.new.self c.in-Ok.slot ≡ Some (record { number = n; value = c.args.value })) c.next-number.ensures c.fill.ensures.changed in
    let reserved = kept_reserved c.self.inside.slots c.reserve.new.self c.reserve.new.self.capacity c.self.inside.places.entries c.self.inside.places.next c.self.inside.key c.reserve.ensures.same c.self.invariant in
    subst (λ next. IsKept c.fill.new.self c.push.new.self.entries next c.self.inside.key) (sym c.in-Ok-push.ensures.next)
    (kept_put c.reserve.new.self c.self.inside.places.entries c.self.inside.places.next c.self.inside.key reserved c.in-Ok.slot c.args.value c.fill.new.self c.push.new.self.entries c.in-Ok.ensures.slot.vacant there c.fill.ensures.others c.in-Ok-push.ensures.entries
    (λ last. c.if-number.false (c.next-number.ensures ∙ last)))

pub returns-in-Ok-push : goal.returns-in-Ok-push
returns-in-Ok-push g c =
    let there = subst (λ n. get c.fill.new.self c.in-Ok.slot ≡ Some (record { number = n; value = c.args.value })) c.next-number.ensures c.fill.ensures.changed in
    let reserved = kept_reserved c.self.inside.slots c.reserve.new.self c.reserve.new.self.capacity c.self.inside.places.entries c.self.inside.places.next c.self.inside.key c.reserve.ensures.same c.self.invariant in
    rw (← c.self.view_is) (
      c.next-number.ensures,
      (λ last. c.if-number.false (c.next-number.ensures ∙ last)),
      subst (λ t. Adds t c.args.value (slotted c.fill.new.self c.push.new.self.entries c.push.new.self.next c.self.inside.key))
          (slotted_reserved c.self.inside.slots c.reserve.new.self c.reserve.new.self.capacity c.self.inside.places.entries c.self.inside.places.next c.self.inside.key c.reserve.ensures.same)
          (subst (λ next. Adds (slotted c.reserve.new.self c.self.inside.places.entries c.self.inside.places.next c.self.inside.key) c.args.value (slotted c.fill.new.self c.push.new.self.entries next c.self.inside.key)) (sym c.in-Ok-push.ensures.next)
          (adds_slotted c.reserve.new.self c.self.inside.places.entries c.self.inside.places.next c.self.inside.key reserved c.in-Ok.slot c.args.value c.fill.new.self c.push.new.self.entries c.in-Ok.ensures.slot.vacant there c.fill.ensures.others c.in-Ok-push.ensures.entries
          c.in-Ok.ensures.slot.least)),
    )
