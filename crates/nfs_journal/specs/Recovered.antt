-- What a server holds that has run a journal again.
use Rattle.std.specs.Prelude.{◌≡◌, ℕ, List, ◌++◌, length}
use Rattle.std.specs.List.{AllByRecursion}
use Rattle.nfs_exports.specs.declared.export_table.Export.{Export}
use Rattle.nfs_journal.specs.Alike.{HoldTheSame}
use Rattle.nfs_journal.specs.Entries.{FitsEntry}
use Rattle.nfs_journal.specs.Noted.{noted, noted_history}
use Rattle.nfs_journal.specs.Recovering.{HasRerunAll}
use Rattle.nfs_journal.specs.Segments.{AreSegments, IsFront, Segment, exports_after}
use Rattle.nfs_rpc.specs.Progress.{Progress}
use Rattle.nfs_server.specs.Connections.{IsBetween}
use Rattle.nfs_server.specs.Events.{Done}
use Rattle.nfs_server.specs.Fits.{Held, History, Fits, opening_with, reloaded}
use Rattle.nfs_server.specs.Steps.{Setup, State}

-- A server was there for this history, of which this is the journal. Each of its events fits an entry, and the exports in force at its end are those
-- that the journal puts in force last.
pub record IsLife (history : History) (journal : List Segment) (s : Held) : Type 0 where
  pub fits : Fits history s
  pub entries : AllByRecursion FitsEntry history.done
  pub segments : AreSegments s.setup history.setups journal history.done
  pub in_force : (exports : List (List Export)) → exports_after exports journal ≡ s.setup.exports

-- A server that began with this setup and opening has run a journal again: to this history, and so many bytes are unfinished.
pub record HasRecovered (setup : Setup) (opening : State) (journal : List Segment) (t : Held) : Type 0 where
  pub history : History
  pub unfinished : ℕ
  pub progress : Progress
  pub between : IsBetween progress
  pub rerun : HasRerunAll (opening_with setup opening) journal unfinished history t progress

-- A server that begins with the same opening and as many places for replies comes to hold the same from the whole journal, and nothing is unfinished.
abbrev pub RecoveryIsExact : Type 0
RecoveryIsExact = (history : History) (journal : List Segment) (s t : Held) (setup : Setup) → IsLife history journal s → setup.places ≡ s.setup.places
    → (it : HasRecovered setup history.opening journal t) → (it.unfinished ≡ 0) × HoldTheSame s t

-- It holds what the other held after so many of its noted events, to which the later ones have not come; but these exports are in force.
pub record HoldsAsEarlier (history : History) (exports : List (List Export)) (entries : ℕ) (t : Held) : Type 0 where
  pub later : List Done
  pub earlier : List Done
  pub noted_are : noted history.done ≡ later ++ earlier
  pub entries_are : length earlier ≡ entries
  pub s : Held
  pub fits : Fits (reloaded (record (noted_history history) { done = earlier }) exports) s
  pub same : HoldTheSame s t

-- From the front of the journal, wherever it is cut, it comes to hold what the other held after the first of its noted events, with the exports that
-- the front puts in force last, or its own where it puts none.
abbrev pub FrontIsEarlier : Type 0
FrontIsEarlier = (history : History) (journal found : List Segment) (s t : Held) (setup : Setup) → IsLife history journal s → IsFront found journal
    → setup.places ≡ s.setup.places → (it : HasRecovered setup history.opening found t)
    → HoldsAsEarlier history (exports_after setup.exports found) (length it.history.done) t
