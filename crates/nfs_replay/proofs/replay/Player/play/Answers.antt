use Rattle.std.proofs.Common.{◌-◌, ◌^◌, ◌<◌, ◌++◌, [], ◌∷◌, ◌∙◌, length, refl, sym, ap, arith}
use Rattle.std.proofs.lemmas.List.{length-append}
use Rattle.nfs_load.proofs.Descriptions.{cut_more}
use Rattle.nfs_load.proofs.Loadings.{number_is}
use Rattle.nfs_replay.specs.Orders.{has_again}
use Rattle.nfs_replay.proofs.Scripts.{all_run, line_run, line_stops, stopped_by_machine}
use Rattle.nfs_replay.proofs.replay.Player.play.Goals as goal

pub loop-line-init : goal.loop-line-init
loop-line-init g c = (
  [],
  [],
  tt,
  sym c.new-lines.ensures,
  refl,
  record {
    kept_so = λ is. c.new-sent.ensures.kept;
    none_again = λ none. ap has_again c.new-lines.ensures ∙ sym c.has_again.ensures ∙ sym c.new-sent.ensures.is_kept ∙ none;
  },
)

pub loop-line-preserved : goal.loop-line-preserved
loop-line-preserved g c =
    let few : length c.args.script.now < 2 ^ 64 - 1 = omega arith in
    let run = line_run c.args.script.now c.loop-line.invariant.0 c.loop-line.invariant.1 _ _ c.in-Some.line.now c.loop-line.before c.loop-line.sent c.line.new.sent _
    c.loop-line.invariant.2 c.loop-line.invariant.3 c.in-Some.ensures.steps c.loop-line.invariant.4 few c.loop-line.invariant.5 c.in_default-line.ensures.run in (
      c.loop-line.invariant.0 ++ c.in-Some.line.now ∷ [],
      c.loop-line.invariant.1 ++ run.0 ∷ [],
      run.1,
      cut_more _ _ _ _ _ c.loop-line.invariant.3 c.in-Some.ensures.steps,
      c.saturating_add-before.ensures ∙ number_is c.args.script.now c.loop-line.invariant.0 _ c.loop-line.before c.loop-line.invariant.3 c.loop-line.invariant.4 few
          ∙ sym (length-append c.loop-line.invariant.0 (c.in-Some.line.now ∷ [])),
      run.2,
    )

pub returns-in-Err-clause-first : goal.returns-in-Err-clause-first
returns-in-Err-clause-first g c =
    let few : length c.args.script.now < 2 ^ 64 - 1 = omega arith in
    line_stops c.args.script.now c.loop-line.invariant.0 c.loop-line.invariant.1 _ _ c.in-Some.line.now c.loop-line.before c.loop-line.sent c.in-Err.fault c.stop.result
    c.loop-line.invariant.2 c.loop-line.invariant.3 c.in-Some.ensures.steps c.loop-line.invariant.4 few c.loop-line.invariant.5 c.in-Err.ensures.fault c.stop.ensures

pub returns-in_err-run_calls-clause-first : goal.returns-in_err-run_calls-clause-first
returns-in_err-run_calls-clause-first g c = stopped_by_machine c.args.script.now c.from_residual.result c.from_residual.ensures

pub returns-clause-all : goal.returns-clause-all
returns-clause-all g c = all_run c.args.script.now c.loop-line.invariant.0 c.loop-line.invariant.1 _ c.loop-line.invariant.2 c.loop-line.invariant.3 c.in_default.ensures.steps.0
