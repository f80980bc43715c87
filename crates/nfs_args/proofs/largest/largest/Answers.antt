use Rattle.std.proofs.Common.{◌≤◌, length, sym, ap, subst, ◌∙◌}
use Rattle.nfs_args.specs.Answers.{nfs_text}
use Rattle.nfs_args.specs.Sizes.{largest_of}
use Rattle.nfs_args.proofs.Lengths.{answers_within}
use Rattle.nfs_args.proofs.largest.largest.Goals as goal

pub returns-clause-bound : goal.returns-clause-bound
returns-clause-bound c = λ answer is fits within. subst (λ n. length (nfs_text answer) ≤ n) (ap largest_of is ∙ sym c.row.ensures.largest) (answers_within answer fits within)
