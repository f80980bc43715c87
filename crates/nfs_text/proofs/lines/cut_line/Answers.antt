use Rattle.std.proofs.Common.{sym, ◌∙◌, add-one, arith}
use Rattle.std.proofs.lemmas.Bool.{eqb-true, eq-eqb}
use Rattle.std.proofs.lemmas.List.{take_rest}
use Rattle.nfs_text.proofs.Cuts.{cut_at, cut_whole}
use Rattle.nfs_text.proofs.lines.cut_line.Goals as goal

pub returns-in-Some : goal.returns-in-Some
returns-in-Some c =
    let first = c.in-Some.ensures in
    let split = cut_at 10 c.args.text.now c.in-Some.place first.0.high (eqb-true _ _ first.1) (λ k below same. first.0.before k (omega arith) below (eq-eqb _ _ same)) in
    sym (split ∙ simp (take_rest, add-one))

pub returns-in-None : goal.returns-in-None
returns-in-None c = sym (cut_whole 10 c.args.text.now (λ k within same. c.in-None.ensures k (omega arith) within (eq-eqb _ _ same)))
