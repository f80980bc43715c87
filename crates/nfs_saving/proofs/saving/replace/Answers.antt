use Rattle.std.proofs.Common.{inl, inr, ◌∙◌}
use Rattle.nfs_saving.proofs.saving.replace.Goals as goal

pub returns-in-Err-clause-refused : goal.returns-in-Err-clause-refused
returns-in-Err-clause-refused g c = λ text has before is. elim (c.in-Err.ensures.refused text has before is) [
  | inl kept ↦ inl (c.give_up.ensures ∙ kept)
  | inr new ↦ inr (c.give_up.ensures ∙ new)
]
