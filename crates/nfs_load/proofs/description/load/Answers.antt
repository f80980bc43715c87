use Rattle.std.proofs.Common.{◌≡◌, ◌+◌, ◌-◌, ◌^◌, ◌<◌, ◌++◌, [], ◌∷◌, ◌∙◌, length, ap, subst, sym, None, append-nil, arith}
use Rattle.std.proofs.lemmas.List.{length-append}
use Rattle.nfs_text.specs.Lines.{lines}
use Rattle.nfs_load.specs.Descriptions.{Through, Describes}
use Rattle.nfs_load.proofs.Descriptions.{cut_more, through_more}
use Rattle.nfs_load.proofs.Loadings.{ends, number_is, stops}
use Rattle.nfs_load.proofs.description.load.Goals as goal

pub loop-line-preserved : goal.loop-line-preserved
loop-line-preserved c =
    let few : length c.args.text.now < 2 ^ 64 - 1 = omega arith in (
      c.loop-line.invariant.0 ++ c.in-Some.line.now ∷ [],
      through_more _ _ _ _ _ c.loop-line.invariant.1 c.in_default-take.ensures.1,
      cut_more _ _ _ _ _ c.loop-line.invariant.2 c.in-Some.ensures.steps,
      c.in_default-take.ensures.0
          ∙ number_is c.args.text.now c.loop-line.invariant.0 _ c.loop-line.loading.count c.loop-line.invariant.2 c.loop-line.invariant.3 few
          ∙ sym (length-append c.loop-line.invariant.0 (c.in-Some.line.now ∷ [])),
    )

pub returns-in-Err-clause-described : goal.returns-in-Err-clause-described
returns-in-Err-clause-described c =
    let few : length c.args.text.now < 2 ^ 64 - 1 = omega arith in
    stops c.args.text.now c.loop-line.loading c.loop-line.invariant.0 _ _ c.in-Some.line.now c.in-Err.error _
    c.loop-line.invariant.1 c.loop-line.invariant.2 c.in-Some.ensures.steps c.loop-line.invariant.3 few c.in-Err.ensures.1

pub returns-clause-described : goal.returns-clause-described
returns-clause-described c =
    let few : length c.args.text.now < 2 ^ 64 - 1 = omega arith in
    let all : lines c.args.text.now ≡ c.loop-line.invariant.0 = c.loop-line.invariant.2
    ∙ ap (λ it. c.loop-line.invariant.0 ++ it) c.in_default.ensures.steps.0 ∙ append-nil c.loop-line.invariant.0 in
    subst (λ r. Describes c.args.text.now r) (sym c.finish.ensures.described) (ends c.args.text.now c.loop-line.loading.count c.loop-line.loading.described
    (subst (λ it. Through None it c.loop-line.loading.described) (sym all) c.loop-line.invariant.1)
    (number_is c.args.text.now c.loop-line.invariant.0 _ c.loop-line.loading.count c.loop-line.invariant.2 c.loop-line.invariant.3 few ∙ ap (λ it. length it + 1) (sym all)))
