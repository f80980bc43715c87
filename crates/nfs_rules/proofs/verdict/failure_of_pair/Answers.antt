use Rattle.std.proofs.Common.{[], ◌∷◌, sym, subst, ◌∙◌}
use Rattle.nfs_rules.proofs.Pairs.{pair_judged}
use Rattle.nfs_rules.proofs.verdict.failure_of_pair.Goals as goal
use Rattle.nfs_rules.specs.Judging.{Judges}
use Rattle.nfs_rules.specs.Verdicts.{handles_rules}
use Rattle.nfs_rules.specs.Views.{caller_of}

pub returns-in-Ok : goal.returns-in-Ok
returns-in-Ok c =
    let handles = c.args.one.now ∷ c.args.two.now ∷ [] in
    sym (subst (λ e. Judges e (handles_rules c.args.tree.now c.args.table.now (caller_of c.args.caller) handles)) (sym c.in_one_volume.ensures ∙ c.in-Ok.is)
    (pair_judged c.args.tree.now c.args.table.now (caller_of c.args.caller) c.args.one.now c.args.two.now c.of-one.result c.of-two.result c.of-one.ensures.rules c.of-one.ensures.subject c.of-two.ensures.rules c.of-two.ensures.subject))

pub returns-in-Err : goal.returns-in-Err
returns-in-Err c =
    let handles = c.args.one.now ∷ c.args.two.now ∷ [] in
    sym (subst (λ e. Judges e (handles_rules c.args.tree.now c.args.table.now (caller_of c.args.caller) handles)) (sym c.in_one_volume.ensures ∙ c.in-Err.is)
    (pair_judged c.args.tree.now c.args.table.now (caller_of c.args.caller) c.args.one.now c.args.two.now c.of-one.result c.of-two.result c.of-one.ensures.rules c.of-one.ensures.subject c.of-two.ensures.rules c.of-two.ensures.subject))
