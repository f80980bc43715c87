use Rattle.std.proofs.Common.{◌≡◌, Bool, true, false}
use Rattle.nfs_load.proofs.Contents.{pairs_say, others_say_none}
use Rattle.nfs_load.proofs.field.without_memory.Goals as goal

pub returns-then-are_pairs : goal.returns-then-are_pairs
returns-then-are_pairs c = pairs_say c.args.tree.now.limits.file_size c.args.field.now c.requires.digits c.requires.few (c.are_pairs.ensures.0 c.if-are_pairs.true)

pub returns-else-are_pairs : goal.returns-else-are_pairs
returns-else-are_pairs c = others_say_none c.args.tree.now.limits.file_size c.args.field.now c.requires.digits (λ pairs. yes_and_no (c.are_pairs.ensures.1 pairs) c.if-are_pairs.false)
  where
    yes_and_no : {b : Bool} → b ≡ true → b ≡ false → ⊥
    yes_and_no y n = cc
