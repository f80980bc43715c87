-- A journal is run again.
use Rattle.std.specs.Prelude.{◌≡◌, ◌≢◌, ◌⊎◌, ℕ, true, false, List, ◌∷◌, [], ◌++◌, length, map, reverse, Option, IsSome, Some, None, ◌+◌, ◌^◌, ◌<◌, ◌≤◌}
use Rattle.std.specs.List.{AllByRecursion}
use Rattle.nfs_journal.specs.Entries.{AreWords, IsNoEntry}
use Rattle.nfs_server.specs.Entries.{entry_of, entry_text, reply_bytes}
use Rattle.nfs_journal.specs.Noted.{IsServed}
use Rattle.nfs_journal.specs.Segments.{Segment}
use Rattle.nfs_journal.specs.declared.broken_entry.BrokenEntry.{BrokenEntry}
use Rattle.nfs_journal.specs.declared.recovery.RecoveryFault.{RecoveryFault}
use Rattle.nfs_journal.specs.declared.recovery.RecoveryFault.TheVariants.{BadEntry, OtherReply, Memory}
use Rattle.nfs_rpc.specs.Progress.{Progress, Unfinished}
use Rattle.nfs_rpc.specs.Records.{AreRecords, IsRecord, ReachesTooLong, ReachesWithin}
use Rattle.nfs_server.specs.Connections.{IsBetween}
use Rattle.nfs_server.specs.Events.{Done}
use Rattle.nfs_server.specs.Fits.{Held, History, Fits, reloaded, with_exports}
use Rattle.nfs_server.specs.Notes.{most_noted}
use Rattle.nfs_server.specs.Retransmissions.{is_refused}
use Rattle.nfs_server.specs.Runs.{longer}
use Rattle.nfs_server.specs.declared.audit_line.AuditLine.{AuditLine}
use Rattle.nfs_xdr.specs.Encoding.{Begins}

-- it was answered, with memory, and the numbers of its entry have 32 bits each
pub record IsRerun (d : Done) : Type 0 where
  pub served : IsServed d
  pub answered : IsSome d.answer.reply
  pub words : AreWords d.event (reply_bytes d.answer.reply)

-- one event was answered as this entry says, whatever history fits
abbrev pub Reruns : List ℕ → Held → Held → Type 0
Reruns entry old new = (history : History) → Fits history old → (d : Done) × (entry_of d ≡ entry) × IsRerun d × Fits (longer history (d ∷ [])) new

-- a reply is not the one that was expected, or is not looked at for want of memory
abbrev pub IsOther : RecoveryFault → List ℕ → List ℕ → Option AuditLine → Type 0
IsOther BadEntry reply expected line = ⊥
IsOther OtherReply reply expected line = (is_refused line ≡ false) × (reply ≢ expected)
IsOther Memory reply expected line = is_refused line ≡ true

-- one event was not answered as this entry says, whatever history fits: the bytes are none, it was answered otherwise, or refused for want of memory
abbrev pub Fails : RecoveryFault → List ℕ → Held → Held → Type 0
Fails BadEntry entry old new = IsNoEntry entry × (new ≡ old)
Fails OtherReply entry old new = (history : History) → Fits history old → (d : Done) × (reply : List ℕ) × (entry_text d.event reply ≡ entry)
    × IsServed d × (d.answer.reply ≢ Some reply) × Fits (longer history (d ∷ [])) new
Fails Memory entry old new = (history : History) → Fits history old → (d : Done) × (reply : List ℕ) × (entry_text d.event reply ≡ entry)
    × (is_refused d.answer.line ≡ true) × Fits (longer history (d ∷ [])) new

-- At the front of the bytes stand so many entries, and then a rest of so many bytes that may be the beginning of one more. Each event was
-- answered again in its turn, as its entry says.
pub record HasRerun (history : History) (bytes : List ℕ) (entries unfinished : ℕ) (s : Held) (p : Progress) : Type 0 where
  pub done : List Done
  pub rest : List ℕ
  pub cut : AreRecords bytes (map entry_of (reverse done)) rest
  pub rerun : AllByRecursion IsRerun done
  pub fits : Fits (longer history done) s
  pub rest_is : Unfinished rest p
  pub entries_are : length done ≡ entries
  pub unfinished_is : length rest ≡ unfinished

-- The segments of a journal, the newest first, were run again one after another, each event under the exports of its segment. From one history they
-- led to another. After the newest so many bytes are unfinished, and none after those before it.
abbrev pub HasRerunAll : History → List Segment → ℕ → History → Held → Progress → Type 0
HasRerunAll from [] unfinished to s p = (to ≡ from) × Fits from s × (unfinished ≡ 0) × Unfinished [] p
HasRerunAll from (segment ∷ before) unfinished to s p = (between : History) × (was : Held) × (start : Progress) × HasRerunAll from before 0 between was start
    × (entries : ℕ) × (rerun : HasRerun (reloaded between segment.exports) segment.bytes entries unfinished s p)
    × (to ≡ longer (reloaded between segment.exports) rerun.done)

-- The same of every history that fits, and of whatever was unfinished before the bytes, which was so long.
abbrev pub RunsOn : List ℕ → ℕ → ℕ → ℕ → Held → Held → Progress → Progress → Type 0
RunsOn bytes before entries unfinished old new from to = (history : History) → Fits history old → (text : List ℕ) → Unfinished text from
    → length text ≡ before → HasRerun history (text ++ bytes) entries unfinished new to

-- ---- faults

-- at the front of the bytes stands a record that fails as an entry
abbrev pub FailsNext : RecoveryFault → List ℕ → Held → Held → Type 0
FailsNext fault bytes old new = (entry : List ℕ) × (after : List ℕ) × Begins IsRecord entry bytes after × Fails fault entry old new

-- so, or it brings a length above the limit, or there is no memory for it
abbrev pub Breaks : RecoveryFault → ℕ → List ℕ → Held → Held → Type 0
Breaks BadEntry limit bytes old new = (ReachesTooLong limit bytes × (new ≡ old)) ⊎ FailsNext BadEntry bytes old new
Breaks OtherReply limit bytes old new = FailsNext OtherReply bytes old new
Breaks Memory limit bytes old new = (ReachesWithin limit bytes × (new ≡ old)) ⊎ FailsNext Memory bytes old new

-- At the front of the bytes stand so many entries, whose events were answered again, and then so many bytes that bring this fault.
pub record HasBroken (fault : RecoveryFault) (history : History) (limit : ℕ) (bytes : List ℕ) (entries left : ℕ) (s : Held) : Type 0 where
  pub done : List Done
  pub rest : List ℕ
  pub cut : AreRecords bytes (map entry_of (reverse done)) rest
  pub rerun : AllByRecursion IsRerun done
  pub between : Held
  pub fits : Fits (longer history done) between
  pub breaks : Breaks fault limit rest between s
  pub entries_are : length done ≡ entries
  pub left_is : length rest ≡ left

-- The same of every history that fits, and of whatever was unfinished before the bytes, which was so long.
abbrev pub BreaksOn : RecoveryFault → List ℕ → ℕ → ℕ → ℕ → Held → Held → Progress → Type 0
BreaksOn fault bytes before entries left old new from = (history : History) → Fits history old → (text : List ℕ) → Unfinished text from
    → length text ≡ before → HasBroken fault history from.limit (text ++ bytes) entries left new

-- ---- a journal, chunk by chunk

-- How far a journal was run again: how its bytes are read, how many entries were run again, the offset after the last of them, and how many
-- bytes stand after it, which may be the beginning of one more; and the entry that is at fault, if one is.
pub record Position : Type 0 where
  pub progress : Progress
  pub entries : ℕ
  pub end : ℕ
  pub unfinished : ℕ
  pub broken : Option BrokenEntry

abbrev pub position_of : Progress → ℕ → ℕ → ℕ → Option BrokenEntry → Position
position_of progress entries end unfinished broken = record { progress = progress; entries = entries; end = end; unfinished = unfinished; broken = broken }

-- the numbers have 64 bits each, with one entry more, and while none is at fault the next bytes can be read
pub record IsSound (at : Position) : Type 0 where
  pub between : at.broken ≡ None → IsBetween at.progress
  pub counted : at.entries ≤ at.end + at.unfinished
  pub entries_fit : at.entries + 1 < 2 ^ 64
  pub bytes_fit : at.end + at.unfinished < 2 ^ 64

-- nothing was run again, and the entries begin at this offset
pub record IsFresh (offset : ℕ) (at : Position) : Type 0 where
  pub begins : Unfinished [] at.progress
  pub limit : at.progress.limit ≡ most_noted
  pub entries : at.entries ≡ 0
  pub end : at.end ≡ offset
  pub unfinished : at.unfinished ≡ 0
  pub unbroken : at.broken ≡ None

-- A chunk was run again: the entries in it are counted, and so are its bytes.
pub record Advances (chunk : List ℕ) (old new : Position) (from to : Held) : Type 0 where
  pub entries : ℕ
  pub runs : RunsOn chunk old.unfinished entries new.unfinished from to old.progress new.progress
  pub entries_are : new.entries ≡ old.entries + entries
  pub bytes_are : new.end + new.unfinished ≡ old.end + old.unfinished + length chunk
  pub limit_stays : new.progress.limit ≡ old.progress.limit
  pub unbroken : new.broken ≡ None

-- A chunk was run again up to this entry, which is at fault: its number and where it begins are those after the entries before it.
pub record Stops (broken : BrokenEntry) (chunk : List ℕ) (old new : Position) (from to : Held) : Type 0 where
  pub entries : ℕ
  pub left : ℕ
  pub breaks : BreaksOn broken.fault chunk old.unfinished entries left from to old.progress
  pub entries_are : new.entries ≡ old.entries + entries
  pub bytes_are : new.end + left ≡ old.end + old.unfinished + length chunk
  pub entry_is : broken.entry ≡ new.entries + 1
  pub offset_is : broken.offset ≡ new.end

-- ---- laws

-- Chunks that are run again one after another are run again as one.
abbrev pub ChunksAreOne : Type 0
ChunksAreOne = (xs ys : List ℕ) (a b c : Position) (from between to : Held) → Advances xs a b from between → Advances ys b c between to
    → Advances (xs ++ ys) a c from to

-- What is counted from the beginning on are the entries of all the bytes, and what is unfinished after them.
abbrev pub AllAreCounted : Type 0
AllAreCounted = (offset : ℕ) (bytes : List ℕ) (old new : Position) (from to : Held) (history : History) → IsFresh offset old → Advances bytes old new from to
    → Fits history from → HasRerun history bytes new.entries new.unfinished to new.progress

-- Before its first segment nothing of a journal was run again.
abbrev pub SegmentsBegin : Type 0
SegmentsBegin = (offset : ℕ) (history : History) (s : Held) (at : Position) → IsFresh offset at → Fits history s → HasRerunAll history [] at.unfinished history s at.progress

-- Where nothing is unfinished, the next segment is run again by putting its exports in force and taking its bytes.
abbrev pub SegmentsGoOn : Type 0
SegmentsGoOn = (from between : History) (before : List Segment) (segment : Segment) (was s : Held) (old new : Position)
    → HasRerunAll from before old.unfinished between was old.progress → old.unfinished ≡ 0 → Advances segment.bytes old new (with_exports segment.exports was) s
    → (to : History) × HasRerunAll from (segment ∷ before) new.unfinished to s new.progress
