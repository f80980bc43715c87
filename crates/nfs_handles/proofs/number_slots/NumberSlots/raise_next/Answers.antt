use Rattle.std.proofs.Common.{◌≤◌, max, sym, subst, arith}
use Rattle.nfs_handles.specs.Placed.{Rises}
use Rattle.nfs_handles.proofs.Rising.{rises_below}
use Rattle.nfs_handles.proofs.number_slots.NumberSlots.raise_next.Goals as goal

pub invariant_of-self : goal.invariant_of-self
invariant_of-self c =
    let more : c.self.inside.next ≤ max c.self.inside.next c.args.next = omega arith in
    subst (λ next. Rises 0 c.self.inside.places.items next) (sym c.max-self-inside.ensures) (rises_below 0 c.self.inside.next (max c.self.inside.next c.args.next) c.self.inside.places.items more c.self.invariant)
