use Rattle.std.proofs.Common.{◌≡◌, ◌-◌, Some, None, length, slice_get, sym, ap, subst, ◌∙◌}
use Rattle.nfs_handles.proofs.VacantSlots.{pops_one}
use Rattle.nfs_handles.proofs.slots.pop_vacant.Goals as goal

pub loop-slots-preserved : goal.loop-slots-preserved
loop-slots-preserved g c = record {
  pops = pops_one _ c.loop-slots.slots.items _ c.pop.result c.pop.ensures.items
      (subst (λ l. slice_get l (length l - 1) ≡ Some None) c.deref.ensures.value (sym c.in-Some-None.ensures.value ∙ ap Some c.in-Some-None.field-0-is))
      c.loop-slots.invariant.pops;
  capacity = c.pop.ensures.capacity ∙ c.loop-slots.invariant.capacity;
}
