use Rattle.std.proofs.Common.{refl, ◌∙◌}
use Rattle.std.specs.Option.{ghost_name_of}
use borrow.Follows.Closed.{read_of}
use Rattle.nfs_handles.proofs.Slotted.{lent, value_or, same_both}
use Rattle.nfs_handles.proofs.files.Files.get_mut.Goals as goal

pub invariant_of-self-lent : goal.invariant_of-self-lent
invariant_of-self-lent g c = λ r. (
  (λ w. (lent c.self.inside.slots c.self.inside.places.entries c.self.inside.places.next c.self.inside.key c.self.invariant c.args.number.0 c.slot_of-slot.result w c.slot_of-slot.ensures).0),
  c.self.invariant,
)

pub returns : goal.returns
returns g c = rw (← c.self.view_is) (
  same_both (read_of (ghost_name_of c.value_mut.result)) _ _ _ _
      (λ w. (lent c.self.inside.slots c.self.inside.places.entries c.self.inside.places.next c.self.inside.key c.self.invariant c.args.number.0 c.slot_of-slot.result w c.slot_of-slot.ensures).1)
      refl,
  record { writes_back = tt; value = c.value_mut.ensures.value ∙ value_or c.self.inside.slots c.self.inside.places.entries c.self.inside.places.next c.self.inside.key c.self.invariant c.args.number.0 c.slot_of-slot.result c.slot_of-slot.ensures },
)
