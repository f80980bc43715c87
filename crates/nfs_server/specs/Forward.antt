-- The same runs in the order of time.
use Rattle.std.specs.Prelude.{◌≡◌, ℕ, List, [], ◌∷◌, length, reverse}
use Rattle.nfs_server.specs.Events.{Done}
use Rattle.nfs_server.specs.Steps.{Setup, State, Step, IsRun}

-- After a history, which has the newest event first, these events follow one another, the first of them first.
abbrev pub Follow : (ℕ → Setup) → List Done → State → List Done → State → Type 0
Follow setups history old [] new = new ≡ old
Follow setups history old (d ∷ later) new = (between : State) × Step (setups (length history)) history old d.event d.choice d.answer between
    × Follow setups (d ∷ history) between later new

-- a history that is a run is one event after another, from the opening state on
abbrev pub RunsForward : Type 0
RunsForward = (setups : ℕ → Setup) (opening : State) (history : List Done) (state : State) → IsRun setups opening history state
    → Follow setups [] opening (reverse history) state
