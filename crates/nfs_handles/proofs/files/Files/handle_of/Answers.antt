use Rattle.std.proofs.Common.{option_map, sym, ap, ◌∙◌}
use Rattle.nfs_handles.specs.NumberedFiles.{TaggedFile}
use Rattle.nfs_handles.specs.Handles.{handle_text}
use Rattle.nfs_handles.proofs.Slotted.{at_slotted, handle_slotted, handle_encoded}
use Rattle.nfs_handles.proofs.files.Files.handle_of.Goals as goal

pub returns-in_err-slot : goal.returns-in_err-slot
returns-in_err-slot g c = rw (← c.self.view_is) (c.from_residual.ensures ∙ sym (ap (option_map (λ (file : TaggedFile _). handle_text c.self.inside.key file.tag c.args.number.0))
    (at_slotted c.self.inside.slots c.self.inside.places.entries c.self.inside.places.next c.self.inside.key c.self.invariant c.args.number.0 _ c.in_err-slot.ensures)))

pub slot_at-requires : goal.slot_at-requires
slot_at-requires g c = c.self.invariant.led

pub returns : goal.returns
returns g c = rw (← c.self.view_is) (sym (handle_slotted c.self.inside.slots c.self.inside.places.entries c.self.inside.places.next c.self.inside.key c.self.invariant c.args.number.0 c.in_ok-slot.slot _ c.in_ok-slot.ensures
    (handle_encoded c.self.inside.key c.to_be_bytes-t.result c.to_be_bytes-n.result c.tag_of.result c.args.number.0 c.self.invariant.numbered.key_len c.to_be_bytes-t.ensures c.to_be_bytes-n.ensures
    ∙ ap (λ tag. handle_text c.self.inside.key tag c.args.number.0) c.tag_of.ensures)))
