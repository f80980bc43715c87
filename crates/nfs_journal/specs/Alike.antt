-- Servers that were asked and answered the same.
use Rattle.std.specs.Prelude.{◌≡◌, ℕ, List, [], ◌∷◌}
use Rattle.std.specs.List.{AllByRecursion}
use Rattle.nfs_journal.specs.Noted.{IsServed}
use Rattle.nfs_server.specs.Events.{Done}
use Rattle.nfs_server.specs.Fits.{Held, History, Fits}

-- the same call with the same reply
pub record AreAlike (a b : Done) : Type 0 where
  pub event_is : a.event ≡ b.event
  pub reply_is : a.answer.reply ≡ b.answer.reply

abbrev pub AllAlike : List Done → List Done → Type 0
AllAlike [] [] = Unit {0}
AllAlike (a ∷ done) (b ∷ other) = AreAlike a b × AllAlike done other
AllAlike [] (b ∷ other) = ⊥
AllAlike (a ∷ done) [] = ⊥

-- the same opening, and the same setup in force after each number of events
pub record BeginAlike (a b : History) : Type 0 where
  pub opening_is : a.opening ≡ b.opening
  pub setup_is : (n : ℕ) → a.setups n ≡ b.setups n

-- the same setup, tree, mount list and reply cache
abbrev pub HoldTheSame : Held → Held → Type 0
HoldTheSame s t = (s.setup ≡ t.setup) × (s.state ≡ t.state) × (s.kept ≡ t.kept)

-- Two servers that began alike, and were asked and answered the same without want of memory, hold the same.
abbrev pub AlikeHoldTheSame : Type 0
AlikeHoldTheSame = (history other : History) (s t : Held) → Fits history s → Fits other t → BeginAlike history other
    → AllByRecursion IsServed history.done → AllByRecursion IsServed other.done → AllAlike history.done other.done
    → HoldTheSame s t
