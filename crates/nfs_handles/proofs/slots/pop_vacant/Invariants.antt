use Rattle.std.proofs.Common.{◌≡◌, vec_capacity}
use Rattle.nfs_handles.specs.VacantSlots.{Pops}
use Rattle.nfs_handles.proofs.slots.pop_vacant.Given as goal

abbrev pub invariant-loop-slots : goal.invariant-loop-slots
invariant-loop-slots g l = record {
  pops : Pops l.fn.slots.items l.slots.items;
  capacity : vec_capacity l.slots ≡ vec_capacity l.fn.slots;
}

abbrev pub decreases-loop-slots : goal.decreases-loop-slots
decreases-loop-slots g l = goal.left-loop-slots g l
