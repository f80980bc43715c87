-- The segments of a journal.
use Rattle.std.specs.Prelude.{◌≡◌, ◌⊎◌, ℕ, ◌-◌, ◌<◌, ◌≤◌, List, [], ◌∷◌, ◌++◌, length, take}
use Rattle.nfs_exports.specs.declared.export_table.Export.{Export}
use Rattle.nfs_server.specs.Entries.{journal_text}
use Rattle.nfs_server.specs.Events.{Done}
use Rattle.nfs_server.specs.Fits.{exporting}
use Rattle.nfs_server.specs.Steps.{Setup}

-- exports that a journal puts in force, and the bytes of the entries that are judged by them
pub record Segment : Type 0 where
  pub exports : List (List Export)
  pub bytes : List ℕ

abbrev pub segment_of : List (List Export) → List ℕ → Segment
segment_of exports bytes = record { exports = exports; bytes = bytes }

-- the exports in force after a journal, the newest segment first, before which these were
abbrev pub exports_after : List (List Export) → List Segment → List (List Export)
exports_after exports [] = exports
exports_after exports (segment ∷ before) = segment.exports

-- The journal with more entries, which are judged by these exports: they are put in force, or those that are in force are the same and stay.
abbrev pub AppendsTo : List Segment → List (List Export) → List ℕ → List Segment → Type 0
AppendsTo before exports bytes after = (after ≡ segment_of exports bytes ∷ before)
    ⊎ ((last : List ℕ) × (older : List Segment) × (before ≡ segment_of exports last ∷ older) × (after ≡ segment_of exports (last ++ bytes) ∷ older))

-- the journal without so many bytes at the end of its newest segment
abbrev pub without_last : ℕ → List Segment → List Segment
without_last n [] = []
without_last n (segment ∷ before) = segment_of segment.exports (take (length segment.bytes - n) segment.bytes) ∷ before

-- the front of a journal: its newest segments are lost, and so many bytes at the end of the one before them
abbrev pub IsFront : List Segment → List Segment → Type 0
IsFront found journal = (newer : List Segment) × (older : List Segment) × (n : ℕ) × (journal ≡ newer ++ older) × (found ≡ without_last n older)

-- The journal has the entries of these events, the newest first: each was judged by the exports of its segment, in a setup that is else this one.
abbrev pub AreSegments : Setup → (ℕ → Setup) → List Segment → List Done → Type 0
AreSegments setup setups [] done = done ≡ []
AreSegments setup setups (segment ∷ before) done = (own : List Done) × (earlier : List Done) × (done ≡ own ++ earlier) × (segment.bytes ≡ journal_text own)
    × ((n : ℕ) → length earlier ≤ n → n < length done → setups n ≡ exporting segment.exports setup) × AreSegments setup setups before earlier
