use Rattle.std.proofs.Common.{sym, ap, ◌∙◌}
use Rattle.std.specs.Option.{option_copied}
use Rattle.nfs_handles.proofs.Slotted.{value_slotted, value_there}
use Rattle.nfs_handles.proofs.files.Files.get.Goals as goal

pub returns-in_err-slot_at : goal.returns-in_err-slot_at
returns-in_err-slot_at g c = rw (← c.self.view_is) (ap option_copied c.from_residual.ensures ∙ sym (value_slotted c.self.inside.slots c.self.inside.places.entries c.self.inside.places.next c.self.inside.key c.self.invariant c.args.number.0 _ c.in_err-slot_at.ensures))

pub slot_at-requires : goal.slot_at-requires
slot_at-requires g c = c.self.invariant.led

pub returns : goal.returns
returns g c = rw (← c.self.view_is) (c.value.ensures ∙ sym (value_there c.self.inside.slots c.self.inside.places.entries c.self.inside.places.next c.self.inside.key c.self.invariant c.args.number.0 _ c.in_ok-slot_at.ensures))
