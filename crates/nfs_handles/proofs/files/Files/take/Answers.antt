use Rattle.std.proofs.Common.{ap, sym, subst}
use Rattle.nfs_handles.specs.Changes.{Takes}
use Rattle.nfs_handles.specs.Placed.{Placed}
use Rattle.nfs_handles.specs.Slotted.{IsKept, slotted}
use Rattle.nfs_handles.proofs.Slotted.{at_slotted, kept_taken, takes_slotted}
use Rattle.nfs_handles.proofs.files.Files.take.Goals as goal

pub returns-in_err-slot : goal.returns-in_err-slot
returns-in_err-slot g c = rw (c.from_residual.ensures, ← c.self.view_is) (at_slotted c.self.inside.slots c.self.inside.places.entries c.self.inside.places.next c.self.inside.key c.self.invariant c.args.number.0 _ c.in_err-slot.ensures.value, ap (λ (p : Placed). slotted c.self.inside.slots p.entries p.next c.self.inside.key) c.in_err-slot.ensures.same)

pub invariant_of-self-2 : goal.invariant_of-self-2
invariant_of-self-2 g c = subst (λ next. IsKept c.take.new.self c.remove.new.self.entries next c.self.inside.key) (sym c.in_ok-slot.ensures.next)
    (kept_taken c.self.inside.slots c.self.inside.places.entries c.self.inside.places.next c.self.inside.key c.self.invariant c.args.number.0 c.in_ok-slot.slot c.take.new.self c.remove.new.self.entries c.in_ok-slot.ensures.value c.take.ensures.vacant c.take.ensures.others c.in_ok-slot.ensures.entries)

pub returns : goal.returns
returns g c = rw (← c.self.view_is) (subst (λ next. Takes (slotted c.self.inside.slots c.self.inside.places.entries c.self.inside.places.next c.self.inside.key) c.args.number.0 c.take.result (slotted c.take.new.self c.remove.new.self.entries next c.self.inside.key)) (sym c.in_ok-slot.ensures.next)
    (takes_slotted c.self.inside.slots c.self.inside.places.entries c.self.inside.places.next c.self.inside.key c.self.invariant c.args.number.0 c.in_ok-slot.slot c.take.result c.take.new.self c.remove.new.self.entries c.in_ok-slot.ensures.value c.take.ensures.value c.take.ensures.vacant c.take.ensures.others c.in_ok-slot.ensures.entries))
