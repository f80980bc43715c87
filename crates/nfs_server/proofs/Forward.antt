-- A run, whose newest event comes first, is one event after another.
use Rattle.std.proofs.Common.{ℕ, List, [], ◌∷◌, ◌++◌, length, reverse, refl, sym, ap, subst, ◌∙◌, append_assoc, append-nil}
use Rattle.std.proofs.lemmas.List.{reverse-append, reverse-reverse}
use Rattle.nfs_server.specs.Events.{Done}
use Rattle.nfs_server.specs.Steps.{Setup, State, Step}
use Rattle.nfs_server.specs.Forward.{Follow, RunsForward}

one_more : (setups : ℕ → Setup) (history : List Done) (old : State) (later : List Done) (between : State) (d : Done) (new : State) → Follow setups history old later between → Step (setups (length (reverse later ++ history))) (reverse later ++ history) between d.event d.choice d.answer new → Follow setups history old (later ++ d ∷ []) new
one_more setups history old [] between d new run step = (new, subst (λ s. Step (setups (length history)) history s d.event d.choice d.answer new) run step, refl)
one_more setups history old (e ∷ later) between d new run step =
    let same = ap (λ l. l ++ history) (reverse-append (e ∷ []) later) ∙ append_assoc (reverse later) (e ∷ []) history in
    (run.0, run.1, one_more setups (e ∷ history) run.0 later between d new run.2 (subst (λ p. Step (setups (length p)) p between d.event d.choice d.answer new) same step))

pub runs_forward : RunsForward
runs_forward setups opening [] state run = run
runs_forward setups opening (d ∷ history) state run =
    let same = sym (append-nil (reverse (reverse history)) ∙ reverse-reverse history) in
    subst (λ l. Follow setups [] opening l state) (sym (reverse-append (d ∷ []) history))
    (one_more setups [] opening (reverse history) run.0 d state (runs_forward setups opening history run.0 run.1) (subst (λ p. Step (setups (length p)) p run.0 d.event d.choice d.answer state) same run.2))
