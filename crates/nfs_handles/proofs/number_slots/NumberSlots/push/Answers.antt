use Rattle.std.proofs.Common.{◌+◌, [], ◌∷◌, ◌++◌, Some, ap, sym, subst, ◌∙◌}
use Rattle.nfs_handles.specs.Placed.{led, Rises}
use Rattle.nfs_handles.proofs.Rising.{led_push, push_rises}
use Rattle.nfs_handles.proofs.number_slots.NumberSlots.push.Goals as goal

pub invariant_of-self-2 : goal.invariant_of-self-2
invariant_of-self-2 c = subst (λ ps. Rises 0 ps (c.self.inside.next + 1)) (sym (c.in_ok-push.ensures.items ∙ ap (λ p. c.self.inside.places.items ++ p ∷ []) c.in-Some.ensures.some)) (push_rises 0 c.self.inside.next (Some c.args.slot) c.self.inside.places.items c.self.invariant)

pub returns-clause-entries : goal.returns-clause-entries
returns-clause-entries c = rw (← c.self.view_is) (ap led (c.in_ok-push.ensures.items ∙ ap (λ p. c.self.inside.places.items ++ p ∷ []) c.in-Some.ensures.some) ∙ led_push c.self.inside.places.items c.self.inside.next c.args.slot)
