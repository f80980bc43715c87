use Rattle.std.proofs.Common.{None, set, subst, sym, ap, ◌∙◌}
use Rattle.nfs_handles.specs.Placed.{Place, HasNo, IsPlaceOf, Rises, led}
use Rattle.nfs_handles.proofs.Rising.{lookup_at, lookup_none, led_dead, set_rises}
use Rattle.nfs_handles.proofs.number_slots.NumberSlots.remove.Goals as goal

pub returns-in_err-at-clause-value : goal.returns-in_err-at-clause-value
returns-in_err-at-clause-value c =
    let none = subst (λ ps. HasNo ps c.args.number) c.as_slice.ensures.value c.in_err-at.ensures.none in
    rw (← c.self.view_is) (c.from_residual.ensures ∙ sym (lookup_none c.args.number c.self.inside.places.items none))

pub returns-in_err-slot-clause-value : goal.returns-in_err-slot-clause-value
returns-in_err-slot-clause-value c =
    let found = subst (λ ps. IsPlaceOf ps c.args.number c.in_ok-at.at) c.as_slice.ensures.value c.in_ok-at.ensures.found in
    let there = lookup_at c.args.number 0 c.self.inside.next c.self.inside.places.items c.in_ok-at.at c.index.result.now c.self.invariant found.0 (found.1 c.index.result.now) in
    rw (← c.self.view_is) (c.from_residual-in_err-slot.ensures ∙ sym c.in_err-slot.was ∙ c.slot.ensures ∙ ap (λ (p : Place). p.slot) c.index.ensures ∙ sym there)

pub invariant_of-self : goal.invariant_of-self
invariant_of-self c =
    let found = subst (λ ps. IsPlaceOf ps c.args.number c.in_ok-at.at) c.as_slice.ensures.value c.in_ok-at.ensures.found in
    c.thin-self-inside.ensures.rises c.self.inside.next
    (subst (λ p. Rises 0 (set c.self.inside.places.items c.in_ok-at.at p) c.self.inside.next) (sym c.dead.ensures)
    (set_rises 0 c.self.inside.next c.self.inside.places.items c.in_ok-at.at c.args.number None c.index.result.now c.self.invariant found.0 (found.1 c.index.result.now)))

pub returns-clause-value : goal.returns-clause-value
returns-clause-value c =
    let found = subst (λ ps. IsPlaceOf ps c.args.number c.in_ok-at.at) c.as_slice.ensures.value c.in_ok-at.ensures.found in
    let there = lookup_at c.args.number 0 c.self.inside.next c.self.inside.places.items c.in_ok-at.at c.index.result.now c.self.invariant found.0 (found.1 c.index.result.now) in
    rw (← c.self.view_is) (sym c.in_ok-slot.was ∙ c.slot.ensures ∙ ap (λ (p : Place). p.slot) c.index.ensures ∙ sym there)

pub returns-clause-entries : goal.returns-clause-entries
returns-clause-entries c =
    let found = subst (λ ps. IsPlaceOf ps c.args.number c.in_ok-at.at) c.as_slice.ensures.value c.in_ok-at.ensures.found in
    let slot = sym (c.slot.ensures ∙ ap (λ (p : Place). p.slot) c.index.ensures) ∙ c.in_ok-slot.was in
    rw (← c.self.view_is) (c.thin-self-inside.ensures.entries
    ∙ ap (λ p. led (set c.self.inside.places.items c.in_ok-at.at p)) c.dead.ensures
    ∙ led_dead c.args.number 0 c.self.inside.next c.in_ok-slot.slot c.self.inside.places.items c.in_ok-at.at c.index.result.now c.self.invariant found.0 (found.1 c.index.result.now) slot)
