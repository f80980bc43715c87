-- The journal of a service.
use Rattle.std.specs.Prelude.{◌≡◌, ◌≤◌, ℕ, Bool, false, List, [], ◌∷◌, ◌++◌, length, Option, Some, None, option_map}
use Rattle.nfs_server.specs.Fits.{Held}
use Rattle.nfs_server.specs.Notes.{to_note}
use Rattle.nfs_serving.specs.Service.{Change, IsChange, ServiceState, joins, turns, leaves, passes, reloads, settles}
use Rattle.nfs_serving.specs.Turns.{SendsPending, Standing}
use Rattle.nfs_xdr.specs.Known.{Grows}

-- a journal: what of it outlives the process, where that is known, and whether it has failed
pub record Journal : Type 0 where
  pub lasting : Option (List ℕ)
  pub failed : Bool

-- how a journal is seen, if there is one
abbrev pub journal_of : {J : Type 0} → (J → Option (List ℕ)) → (J → Bool) → Option J → Option Journal
journal_of lasting failed journal = option_map (λ j. record { lasting = lasting j; failed = failed j }) journal

-- where there is a journal, the server keeps notes, and there are none: the entries of all that was answered last
abbrev pub IsSettled : Option Journal → Held → Type 0
IsSettled None s = Unit {0}
IsSettled (Some journal) s = s.notes ≡ Some []

-- the change by which these notes come to last, if any do
abbrev pub settles_of : Option (List ℕ) → List Change
settles_of None = []
settles_of (Some notes) = settles notes ∷ []

-- all notes that came to last by these changes, in their order, if any did
abbrev pub noted_by : List Change → Option (List ℕ)
noted_by [] = None
noted_by (joins key number addr ∷ earlier) = noted_by earlier
noted_by (turns key moment bytes ∷ earlier) = noted_by earlier
noted_by (leaves key number calls end ∷ earlier) = noted_by earlier
noted_by (passes ∷ earlier) = noted_by earlier
noted_by (reloads exports ∷ earlier) = noted_by earlier
noted_by (settles notes ∷ earlier) = Some (to_note (noted_by earlier) ++ notes)

-- these notes, if any, are all that the server had, and it has none then
abbrev pub SettlesBy : Option (List ℕ) → Held → Held → Type 0
SettlesBy None old new = new ≡ old
SettlesBy (Some notes) old new = (old.notes ≡ Some notes) × (new ≡ record old { notes = Some [] })

-- where there is a journal that has not failed, it had not before, these notes have come to last in it, and nothing else has
abbrev pub JournalGoes : Option Journal → Option (List ℕ) → Option Journal → Type 0
JournalGoes None notes new = (notes ≡ None) × (new ≡ None)
JournalGoes (Some old) notes None = ⊥
JournalGoes (Some old) notes (Some new) = new.failed ≡ false → (old.failed ≡ false) × Grows old.lasting (to_note notes) new.lasting

-- ---- turns beside a journal

-- where there is a journal that has not failed, no more than 2 MiB are noted, which is half of what there is room for
abbrev pub LeavesRoom : Option Journal → Held → Type 0
LeavesRoom None s = Unit {0}
LeavesRoom (Some journal) s = journal.failed ≡ false → length (to_note s.notes) ≤ 2097152

-- the client of this key has its turn, and nothing goes out in it but what was pending when it began
pub record IsHeldBack {L : Type 0} (outgoing : L → Option (List ℕ)) (key : ℕ) (old new : ServiceState L) : Type 0 where
  pub number : ℕ
  pub was : Standing L
  pub now : Standing L
  pub sat : old.seat key ≡ Some (record { number = number; client = was })
  pub sits : new.seat key ≡ Some (record { number = number; client = now })
  pub sends : SendsPending outgoing was now

-- it is so where there is a journal, also once notes are lost
abbrev pub HoldsBack : {L : Type 0} → (L → Option (List ℕ)) → Option Journal → ℕ → ServiceState L → ServiceState L → Type 0
HoldsBack outgoing None key old new = Unit {0}
HoldsBack outgoing (Some journal) key old new = IsHeldBack outgoing key old new

-- a turn begins where there is room for what it notes, and holds its replies back
abbrev pub IsBeside : {L : Type 0} → (L → Option (List ℕ)) → Option Journal → Change → ServiceState L → ServiceState L → Type 0
IsBeside outgoing journal (turns key moment came) old new = LeavesRoom journal old.server × HoldsBack outgoing journal key old new
IsBeside outgoing journal (joins key number addr) old new = Unit {0}
IsBeside outgoing journal (leaves key number calls end) old new = Unit {0}
IsBeside outgoing journal passes old new = Unit {0}
IsBeside outgoing journal (reloads exports) old new = Unit {0}
IsBeside outgoing journal (settles notes) old new = Unit {0}

-- one change after another in which turns are taken so, the newest first
abbrev pub AreBeside : {L : Type 0} → (L → Option (List ℕ)) → (L → Option (List ℕ)) → Bool → Option Journal → List Change → ServiceState L → ServiceState L → Type 0
AreBeside outgoing incoming shared journal [] old new = new ≡ old
AreBeside {L} outgoing incoming shared journal (change ∷ earlier) old new = (between : ServiceState L) × AreBeside outgoing incoming shared journal earlier old between
    × IsChange outgoing incoming shared change between new × IsBeside outgoing journal change between new
