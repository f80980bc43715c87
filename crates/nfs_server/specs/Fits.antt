-- Which histories fit a server. The server stores none: a history is the caller's.
use Rattle.std.specs.Prelude.{◌≡◌, ℕ, ◌≤◌, List, [], ◌∷◌, length, Option, if◌then◌else◌, nat_lt}
use Rattle.nfs_exports.specs.declared.export_table.Export.{Export}
use Rattle.nfs_inodes.specs.Law.{Law}
use Rattle.nfs_reply_cache.specs.Places.{Place}
use Rattle.nfs_server.specs.Entries.{journal_text}
use Rattle.nfs_server.specs.Events.{Event, Answer, Choice, Done}
use Rattle.nfs_server.specs.Notes.{AreNoted}
use Rattle.nfs_server.specs.Retransmissions.{cached_after}
use Rattle.nfs_server.specs.Steps.{Setup, State, Step, IsRun}
use Rattle.nfs_server.specs.declared.audit_line.AuditLine.{AuditLine}

-- what a server holds: beside its setup and state, the replies that are kept, the most recently used first,
-- the line of its last call, where that was denied, and its notes, where some are kept and none were lost
pub record Held : Type 0 where
  pub setup : Setup
  pub state : State
  pub kept : List Place
  pub line : Option AuditLine
  pub notes : Option (List ℕ)

-- An opening state, the setup in force after each number of events, and the events since with their choices and answers, the newest first;
-- and what of their journal outlives the process.
pub record History : Type 0 where
  pub opening : State
  pub setups : ℕ → Setup
  pub done : List Done
  pub lasting : List ℕ

-- the history with one more event
abbrev pub after : History → Event → Choice → Answer → History
after history event choice answer = record history { done = record { event = event; choice = choice; answer = answer } ∷ history.done }

-- the history of a server that has seen no event
abbrev pub opening_with : Setup → State → History
opening_with setup opening = record { opening = opening; setups = λ n. setup; done = []; lasting = [] }

-- the history whose whole journal outlives the process
abbrev pub settled : History → History
settled history = record history { lasting = journal_text history.done }

-- the setup with these exports
abbrev pub exporting : List (List Export) → Setup → Setup
exporting exports setup = record setup { exports = exports }

-- a server with these exports, which holds all else as it did
abbrev pub with_exports : List (List Export) → Held → Held
with_exports exports s = record s { setup = exporting exports s.setup }

-- the history with these exports in force for all events to come
abbrev pub reloaded : History → List (List Export) → History
reloaded history exports = record history { setups = λ n. if nat_lt n (length history.done) then history.setups n else exporting exports (history.setups n) }

-- what a server begins with: a lawful tree, and a mount list of no client
pub record IsOpening (opening : State) : Type 0 where
  pub lawful : Law opening.tree
  pub unmounted : opening.mounts ≡ []

-- The history is a run from such an opening that ends in what the server holds, whose setup is in force from there on,
-- the cached replies are those that it leaves, and the notes are what of its journal doesn't last yet.
pub record Fits (history : History) (s : Held) : Type 0 where
  pub opens : IsOpening history.opening
  pub run : IsRun history.setups history.opening history.done s.state
  pub in_force : (n : ℕ) → length history.done ≤ n → history.setups n ≡ s.setup
  pub cached : s.kept ≡ cached_after s.setup.places history.done
  pub notes_are : AreNoted history.done history.lasting s.notes

-- one more event is a step after a history that fits, and the longer history fits
abbrev pub GoesOn : History → Held → Event → Choice → Answer → Held → Type 0
GoesOn history old event choice answer new = Step old.setup history.done old.state event choice answer new.state × Fits (after history event choice answer) new
