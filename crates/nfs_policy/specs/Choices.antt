-- What follows from the free choices of a run.
use Rattle.std.specs.Prelude.{◌≡◌, ℕ, List, [], ◌∷◌}
use Rattle.nfs_inodes.specs.Tree.{Tree}
use Rattle.nfs_server.specs.Events.{Done}
use Rattle.nfs_server.specs.Steps.{Setup, State, IsRun}
use Rattle.nfs_policy.specs.Confining.{NeverReads}
use Rattle.nfs_policy.specs.Shape.{AgreeOutside}

-- the same events with the same choices, whatever was answered
abbrev pub AsksAlike : List Done → List Done → Type 0
AsksAlike [] [] = Unit {0}
AsksAlike [] (e ∷ earlier) = ⊥
AsksAlike (d ∷ before) [] = ⊥
AsksAlike (d ∷ before) (e ∷ earlier) = AsksAlike before earlier × (e.event ≡ d.event) × (e.choice ≡ d.choice)

-- From one state, with the same exports in force at each, the same events with the same choices get the same answers, and end in the same state.
abbrev pub AnswersFollow : Type 0
AnswersFollow = (setups : ℕ → Setup) (opening : State) (history others : List Done) (state state' : State)
    → IsRun setups opening history state → IsRun setups opening others state' → AsksAlike history others
    → (others ≡ history) × (state' ≡ state)

-- Where no READ of f was granted, the same events with the same choices get the same answers over any other bytes of f.
abbrev pub BytesAreHidden : Type 0
BytesAreHidden = (f : ℕ) (setups : ℕ → Setup) (opening : State) (history : List Done) (state : State) (run : IsRun setups opening history state)
    → NeverReads f setups opening history state run → (other : Tree) → AgreeOutside f opening.tree other
    → (others : List Done) (state' : State) → IsRun setups (record opening { tree = other }) others state' → AsksAlike history others
    → (others ≡ history) × AgreeOutside f state.tree state'.tree × (state'.mounts ≡ state.mounts)
