-- What clients do leaves the tree of a server describable, so that what is written of it loads as that tree again.
use Rattle.std.specs.Prelude.{◌≡◌, ◌⊎◌, ℕ, ◌≤◌, List, length, Result, Ok, Err}
use Rattle.nfs_describe.specs.Texts.{Says, most_text_bytes}
use Rattle.nfs_exports.specs.declared.export_table.Export.{Export}
use Rattle.nfs_inodes.specs.Changes.{with_key}
use Rattle.nfs_inodes.specs.Tree.{Tree}
use Rattle.nfs_lives.specs.Opening.{opened}
use Rattle.nfs_load.specs.Descriptions.{Describes}
use Rattle.nfs_load.specs.declared.load_error.LoadError.{LoadError}
use Rattle.nfs_load.specs.declared.load_error.LoadError.TheVariants.{Memory}
use Rattle.nfs_load.specs.declared.loaded.Loaded.{Loaded}
use Rattle.nfs_load.specs.Moments.{IsTime}
use Rattle.nfs_policy.specs.Confining.{Throughout}
use Rattle.nfs_round_trip.specs.RoundTrip.{IsDescribable, IsRestored}
use Rattle.nfs_server.specs.Events.{Event, Answer, Choice, Done}
use Rattle.nfs_server.specs.Fits.{Held, History, Fits}
use Rattle.nfs_server.specs.Steps.{Setup, State, Step, IsRun}
use Rattle.nfs_xdr.specs.Reading.{AreBytes}

-- by exports with which the tree is describable an event leaves it describable, with these exports and with any others with which it was
abbrev pub LeavesDescribable : Setup → State → State → Type 0
LeavesDescribable setup old new = IsDescribable old.tree setup.exports
    → (table : List (List Export)) → IsDescribable old.tree table → IsDescribable new.tree table

-- an event of bytes, at a moment of 32 bits
pub record IsEvent (event : Event) : Type 0 where
  pub bytes : AreBytes event.bytes
  pub moment : IsTime event.moment

abbrev pub StepsStayDescribable : Type 0
StepsStayDescribable = (setup : Setup) (history : List Done) (old : State) (event : Event) (choice : Choice) (answer : Answer) (new : State)
    → IsEvent event → Step setup history old event choice answer new → LeavesDescribable setup old new

abbrev pub AreEvents : Setup → State → Event → State → Type 0
AreEvents setup old event new = IsEvent event

-- Whatever exports were in force, if the opening tree is describable with each of them.
abbrev pub RunsStayDescribable : Type 0
RunsStayDescribable = (setups : ℕ → Setup) (opening : State) → ((n : ℕ) → IsDescribable opening.tree (setups n).exports)
    → (history : List Done) (state : State) (run : IsRun setups opening history state)
    → Throughout setups opening history state run AreEvents
    → (table : List (List Export)) → IsDescribable opening.tree table → IsDescribable state.tree table

-- a text that says the tree with these exports says, when it is loaded, that tree again; or memory is wanted
abbrev pub LoadsAgain : Tree → List (List Export) → Type 0
LoadsAgain t table = (text : List ℕ) → Says t table text → length text ≤ most_text_bytes → (result : Result Loaded LoadError) → Describes text result
    → (result ≡ Err Memory) ⊎ ((loaded : Loaded) × (result ≡ Ok loaded) × IsRestored t loaded.tree × (loaded.table ≡ table))

-- A tree is describable with these exports, and loads again under each key of 8 bytes.
pub record IsKept (t : Tree) (table : List (List Export)) : Type 0 where
  pub describable : IsDescribable t table
  pub again : (key : List ℕ) → length key ≡ 8 → AreBytes key → LoadsAgain (with_key t key) table

-- these are the exports of a description with as many volumes as the tree
pub record AreRead (t : Tree) (table : List (List Export)) : Type 0 where
  pub text : List ℕ
  pub loaded : Loaded
  pub describes : Describes text (Ok loaded)
  pub volumes : length loaded.tree.volumes ≡ length t.volumes
  pub table_is : table ≡ loaded.table

-- A server that opened with what a description says, under some key and from some number on: after any events, with whatever exports of such descriptions in force.
abbrev pub ServersLoadAgain : Type 0
ServersLoadAgain = (text : List ℕ) (loaded : Loaded) → Describes text (Ok loaded) → (key : List ℕ) (next : ℕ)
    → (history : History) (s : Held) (fits : Fits history s)
    → history.opening.tree ≡ opened loaded.tree key next → ((n : ℕ) → AreRead loaded.tree (history.setups n).exports)
    → Throughout history.setups history.opening history.done s.state fits.run AreEvents
    → IsKept s.state.tree s.setup.exports
