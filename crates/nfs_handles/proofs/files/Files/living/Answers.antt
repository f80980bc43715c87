use Rattle.std.proofs.Common.{sym, ◌∙◌}
use Rattle.nfs_handles.proofs.Slotted.{gone_from, of_another, lives_in, never_none}
use Rattle.nfs_handles.proofs.files.Files.living.Goals as goal

pub slot_at-requires : goal.slot_at-requires
slot_at-requires g c = c.self.invariant.led

pub returns-in_err-slot-clause-none : goal.returns-in_err-slot-clause-none
returns-in_err-slot-clause-none g c = rw (c.from_residual.ensures, ← c.self.view_is) (gone_from c.self.inside.slots c.self.inside.places.entries c.self.inside.places.next c.self.inside.key c.self.invariant c.args.tag c.args.number.0 c.in_err-slot.ensures)

pub returns-then-tag_of-tag-clause-none : goal.returns-then-tag_of-tag-clause-none
returns-then-tag_of-tag-clause-none g c = rw (← c.self.view_is) (of_another c.self.inside.slots c.self.inside.places.entries c.self.inside.places.next c.self.inside.key c.self.invariant c.args.tag c.args.number.0 c.in_ok-slot.slot c.in_ok-slot.ensures (λ same. c.if-tag_of-tag.true (c.tag_of.ensures ∙ same)))

pub returns-clause-found : goal.returns-clause-found
returns-clause-found g c = rw (← c.self.view_is) (lives_in c.self.inside.slots c.self.inside.places.entries c.self.inside.places.next c.self.inside.key c.self.invariant c.args.tag c.args.number.0 c.in_ok-slot.slot c.value.result c.in_ok-slot.ensures (sym c.tag_of.ensures ∙ c.if-tag_of-tag.false) c.value.ensures)

pub returns-clause-none : goal.returns-clause-none
returns-clause-none g c = never_none c.self.inside.slots c.self.inside.places.entries c.self.inside.places.next c.self.inside.key c.self.invariant _ c.args.number.0 c.in_ok-slot.slot c.value.result c.in_ok-slot.ensures c.value.ensures
