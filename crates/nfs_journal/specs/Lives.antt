-- A server over many lives, from one to the next by its journal.
use Rattle.std.specs.Prelude.{suc, zero, ◌≡◌, ℕ, List, [], ◌∷◌, length}
use Rattle.std.specs.List.{AllByRecursion}
use Rattle.nfs_journal.specs.Alike.{HoldTheSame}
use Rattle.nfs_journal.specs.Entries.{FitsEntry}
use Rattle.nfs_journal.specs.Recovered.{HasRecovered, HoldsAsEarlier, IsLife}
use Rattle.nfs_journal.specs.Segments.{AppendsTo, IsFront, Segment, exports_after, segment_of, without_last}
use Rattle.nfs_server.specs.Entries.{journal_text}
use Rattle.nfs_server.specs.Events.{Done}
use Rattle.nfs_server.specs.Fits.{Held, History, Fits, opening_with, reloaded}
use Rattle.nfs_server.specs.Runs.{longer}
use Rattle.nfs_server.specs.Steps.{Setup, State}

-- One life. It begins with what it finds of a journal. Then its own exports are in force, by which it answers events of its own, the newest first. It
-- leaves the entries that it ran again, without what was unfinished after them, and then those of its own events that are noted.
pub record IsLived (setup : Setup) (opening : State) (found left : List Segment) (s : Held) : Type 0 where
  pub recovered : Held
  pub begun : HasRecovered setup opening found recovered
  pub own : List Done
  pub own_fit : AllByRecursion FitsEntry own
  pub lasting : List ℕ
  pub fits : Fits (record (longer (reloaded begun.history setup.exports) own) { lasting = lasting }) s
  pub left_is : AppendsTo (without_last begun.unfinished found) setup.exports (journal_text own) left

-- After so many lives the last leaves this journal, and its server holds this. A journal begins with the exports of the first server. Each life begins
-- with the opening that the description gives, finds what the one before it left, of which the end may be lost, and may have other exports.
abbrev pub AfterLives : State → ℕ → List Segment → Held → Type 0
AfterLives opening zero left s = (left ≡ segment_of s.setup.exports [] ∷ []) × Fits (opening_with s.setup opening) s
AfterLives opening (suc n) left s = (before : List Segment) × (was : Held) × AfterLives opening n before was
    × (found : List Segment) × IsFront found before × (setup : Setup) × (setup.places ≡ was.setup.places) × IsLived setup opening found left s

-- ---- laws

-- the history from the opening with these events, the newest first, of whose journal so much outlives the process
abbrev pub history_of : State → (ℕ → Setup) → List Done → List ℕ → History
history_of opening setups done lasting = record { opening = opening; setups = setups; done = done; lasting = lasting }

-- A journal is that of one history from the opening, and the server holds what the history leads to.
pub record IsOneHistory (opening : State) (left : List Segment) (s : Held) : Type 0 where
  pub setups : ℕ → Setup
  pub done : List Done
  pub lasting : List ℕ
  pub life : IsLife (history_of opening setups done lasting) left s

-- Over any number of lives the journal is that of one history.
abbrev pub LivesAreOneHistory : Type 0
LivesAreOneHistory = (opening : State) (n : ℕ) (left : List Segment) (s : Held) → AfterLives opening n left s → IsOneHistory opening left s

-- A server that runs the journal again that is left after any number of lives holds the same as the last of them: setup, tree, mount list and
-- reply cache; and nothing is unfinished.
abbrev pub NextHoldsTheSame : Type 0
NextHoldsTheSame = (opening : State) (n : ℕ) (left : List Segment) (s t : Held) (setup : Setup) → AfterLives opening n left s → setup.places ≡ s.setup.places
    → (begun : HasRecovered setup opening left t) → (begun.unfinished ≡ 0) × HoldTheSame s t

-- Where the end of that journal is lost, it holds what the history of the lives leads to after the first of its noted events, with the exports that are
-- put in force last in what is left, or its own.
abbrev pub NextHoldsEarlier : Type 0
NextHoldsEarlier = (opening : State) (n : ℕ) (left found : List Segment) (s t : Held) (setup : Setup) → AfterLives opening n left s → IsFront found left
    → setup.places ≡ s.setup.places → (begun : HasRecovered setup opening found t)
    → (one : IsOneHistory opening left s)
    × HoldsAsEarlier (history_of opening one.setups one.done one.lasting) (exports_after setup.exports found) (length begun.history.done) t
