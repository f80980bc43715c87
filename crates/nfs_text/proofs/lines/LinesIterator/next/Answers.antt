use Rattle.std.proofs.Common.{◌<◌, ◌∷◌, List, ℕ, length, refl, arith, ap, ◌∙◌}
use Rattle.std.proofs.lemmas.Bool.Decides.{nat_tests}
use Rattle.nfs_text.proofs.Cuts.{lines_step, lines_after}
use Rattle.nfs_text.proofs.lines.LinesIterator.next.Goals as goal

pub returns-clause-steps : goal.returns-clause-steps
returns-clause-steps c =
    let some : 0 < length c.args.self.now.rest.now = grind (arith, nat_tests) in
    lines_step _ _ _ some c.cut_line.ensures
    ∙ ap (λ (left : List (List ℕ)). c.cut_line.result.0.now ∷ left) (lines_after c.cut_line.result.1 c.unwrap_or-self.result _ c.unwrap_or-self.ensures refl)

pub returns-clause-goes : goal.returns-clause-goes
returns-clause-goes c =
    let steps = returns-clause-steps c in
    record { on = λ _. (tt, tt, omega (arith, ap length steps)); keeps = tt; rests = λ _. tt }
