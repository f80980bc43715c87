-- Other exports for the events to come leave what was.
use Rattle.std.proofs.Common.{◌≡◌, ℕ, ◌<◌, List, [], ◌∷◌, length, sym, ap, subst, ◌∙◌, arith}
use Rattle.std.specs.Prelude.{if◌then◌else◌}
use Rattle.std.proofs.lemmas.Bool.{le-ltb, lt-ltb}
use Rattle.nfs_exports.specs.declared.export_table.Export.{Export}
use Rattle.nfs_server.specs.Events.{Done}
use Rattle.nfs_server.specs.Fits.{Held, History, Fits, exporting, reloaded, with_exports}
use Rattle.nfs_server.specs.Steps.{Setup, State, Step, IsRun}

-- a run is one by the setups that were in force at its events
same_run : (setups others : ℕ → Setup) (opening : State) (history : List Done) (state : State) → ((n : ℕ) → n < length history → others n ≡ setups n)
    → IsRun setups opening history state → IsRun others opening history state
same_run setups others opening [] state same run = run
same_run setups others opening (d ∷ before) state same run = (
  run.0,
  same_run setups others opening before run.0 (λ n earlier. same n (omega (arith, earlier))) run.1,
  subst (λ setup. Step setup before run.0 d.event d.choice d.answer state) (sym (same (length before) (omega arith))) run.2,
)

module _ (history : History) (exports : List (List Export)) where
  was : (n : ℕ) → n < length history.done → (reloaded history exports).setups n ≡ history.setups n
  was n earlier = ap (λ b. if b then history.setups n else exporting exports (history.setups n)) (lt-ltb n (length history.done) earlier)

  -- whatever history fits a server, with other exports from there on it fits the server with these
  pub reloaded_fits : (old : Held) → Fits history old → Fits (reloaded history exports) (with_exports exports old)
  reloaded_fits old fits = record {
    opens = fits.opens;
    run = same_run history.setups (reloaded history exports).setups history.opening history.done old.state was fits.run;
    in_force = λ n later. ap (λ b. if b then history.setups n else exporting exports (history.setups n)) (le-ltb n (length history.done) later)
        ∙ ap (exporting exports) (fits.in_force n later);
    cached = fits.cached;
    notes_are = fits.notes_are;
  }
