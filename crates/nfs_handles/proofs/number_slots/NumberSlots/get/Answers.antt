use Rattle.std.proofs.Common.{subst, sym, ap, ◌∙◌}
use Rattle.nfs_handles.specs.Placed.{Place, HasNo, IsPlaceOf}
use Rattle.nfs_handles.proofs.Rising.{lookup_at, lookup_none}
use Rattle.nfs_handles.proofs.number_slots.NumberSlots.get.Goals as goal

pub returns-in_err-at : goal.returns-in_err-at
returns-in_err-at c =
    let none = subst (λ ps. HasNo ps c.args.number) c.as_slice.ensures.value c.in_err-at.ensures.none in
    rw (← c.self.view_is) (c.from_residual.ensures ∙ sym (lookup_none c.args.number c.self.inside.places.items none))

pub returns : goal.returns
returns c =
    let found = subst (λ ps. IsPlaceOf ps c.args.number c.in_ok-at.at) c.as_slice.ensures.value c.in_ok-at.ensures.found in
    let there = lookup_at c.args.number 0 c.self.inside.next c.self.inside.places.items c.in_ok-at.at c.index.result.now c.self.invariant found.0 (found.1 c.index.result.now) in
    rw (← c.self.view_is) (c.slot.ensures ∙ ap (λ (p : Place). p.slot) c.index.ensures ∙ sym there)
