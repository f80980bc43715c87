-- What a sink takes.
use Rattle.std.specs.Prelude.{◌≡◌, ℕ, ◌<◌, Bool, true, false, List, [], ◌∷◌, ◌++◌, map, reverse, take, length}
use Rattle.nfs_server.specs.declared.event.Event as seen
use Rattle.nfs_server.specs.Events.{Event, Answer, Done}
use Rattle.nfs_server.specs.InMemory.{event_of}
use Rattle.nfs_server.specs.Fits.{Held, History, Fits}

abbrev pub events_of : List seen.Event → List Event
events_of = map event_of

-- the history with these events, the newest first
abbrev pub longer : History → List Done → History
longer history done = record history { done = done ++ history.done }

-- A sink took these answers, the newest of them first, and is in this state now. To the newest it said last, to each before it true.
abbrev pub Took : {S : Type 0} → (S → Answer → Bool → S → Type 0) → Bool → S → List Done → S → Type 0
Took takes last before [] sink = sink ≡ before
Took {S} takes last before (d ∷ earlier) sink = (between : S) × Took takes true before earlier between × takes between d.answer last sink

-- the first n events were answered and handed to a sink, the last take as said, and the history with them fits
pub record Hands {S : Type 0} (takes : S → Answer → Bool → S → Type 0)
    (history : History) (events : List Event) (n : ℕ) (last : Bool) (before sink : S) (s : Held) : Type 0 where
  pub done : List Done
  pub events_are : map (λ (d : Done). d.event) (reverse done) ≡ take n events
  pub taken : Took takes last before done sink
  pub fits : Fits (longer history done) s

-- a run ends with the events, or after one whose take answered false
abbrev pub RunsThrough : {S : Type 0} → (S → Answer → Bool → S → Type 0) → History → List Event → ℕ → S → S → Held → Type 0
RunsThrough takes history events n before sink s = (last : Bool) × Hands takes history events n last before sink s
    × (last ≡ true → n ≡ length events) × (last ≡ false → 0 < n)
