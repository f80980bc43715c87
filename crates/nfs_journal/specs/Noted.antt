-- The noted events of a history.
use Rattle.std.specs.Prelude.{◌≡◌, ℕ, ◌&&◌, false, List, [], ◌∷◌, length, IsSome, if◌then◌else◌, nat_eq}
use Rattle.std.specs.List.{AllByRecursion}
use Rattle.nfs_server.specs.Events.{Done}
use Rattle.nfs_server.specs.Fits.{Held, History, Fits}
use Rattle.nfs_server.specs.Noted.{has_entry}
use Rattle.nfs_server.specs.Retransmissions.{is_refused}
use Rattle.nfs_server.specs.Steps.{Setup}

-- The events of a history that are noted, the newest first.
abbrev pub noted : List Done → List Done
noted [] = []
noted (d ∷ before) = if has_entry d then d ∷ noted before else noted before

-- The setups of the noted events: at each the one that was in force when it came, after all of them the one that is in force now.
abbrev pub noted_setups : (ℕ → Setup) → Setup → List Done → ℕ → Setup
noted_setups setups now [] n = now
noted_setups setups now (d ∷ before) n = if has_entry d && nat_eq n (length (noted before)) then setups (length before) else noted_setups setups now before n

-- The history of the noted events alone.
abbrev pub noted_history : History → History
noted_history history = record history {
  setups = noted_setups history.setups (history.setups (length history.done)) history.done;
  done = noted history.done;
}

-- ---- laws

-- A server that a history fits is fitted by its noted events alone: it has the same setup, tree, mount list and reply cache after them,
-- and the same notes.
abbrev pub NotedIsHistory : Type 0
NotedIsHistory = (history : History) (s : Held) → Fits history s → Fits (noted_history history) s

-- it was not refused for want of memory
abbrev pub IsServed : Done → Type 0
IsServed d = is_refused d.answer.line ≡ false

-- no noted event was
abbrev pub NotedAreServed : Type 0
NotedAreServed = (done : List Done) → AllByRecursion IsServed (noted done)

-- each has a reply
abbrev pub NotedAreAnswered : Type 0
NotedAreAnswered = (history : History) (s : Held) → Fits history s → AllByRecursion (λ d. IsSome d.answer.reply) (noted history.done)
