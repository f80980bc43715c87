-- A journal is looked at entry by entry, without its server.
use Rattle.std.specs.Prelude.{◌≡◌, ◌⊎◌, ℕ, ◌+◌, List, ◌++◌, length, None}
use Rattle.std.specs.List.{AllByRecursion}
use Rattle.nfs_journal.specs.Entries.{AreWords, IsNoEntry}
use Rattle.nfs_journal.specs.Recovering.{Position}
use Rattle.nfs_journal.specs.declared.broken_entry.BrokenEntry.{BrokenEntry}
use Rattle.nfs_journal.specs.declared.recovery.RecoveryFault.{RecoveryFault}
use Rattle.nfs_journal.specs.declared.recovery.RecoveryFault.TheVariants.{BadEntry, OtherReply, Memory}
use Rattle.nfs_rpc.specs.Progress.{Progress, Unfinished}
use Rattle.nfs_rpc.specs.Records.{AreRecords, IsRecord, ReachesTooLong, ReachesWithin}
use Rattle.nfs_server.specs.Entries.{entry_text}
use Rattle.nfs_server.specs.Events.{Event}
use Rattle.nfs_xdr.specs.Encoding.{Begins}

-- these bytes are an entry of some event and some reply
pub record IsEntry (bytes : List ℕ) : Type 0 where
  pub event : Event
  pub reply : List ℕ
  pub words : AreWords event reply
  pub text_is : entry_text event reply ≡ bytes

-- At the front of the bytes stand so many entries, and then a rest of so many bytes that may be the beginning of one more.
pub record HasEntries (bytes : List ℕ) (count unfinished : ℕ) (p : Progress) : Type 0 where
  pub entries : List (List ℕ)
  pub rest : List ℕ
  pub cut : AreRecords bytes entries rest
  pub are_entries : AllByRecursion IsEntry entries
  pub rest_is : Unfinished rest p
  pub count_is : length entries ≡ count
  pub unfinished_is : length rest ≡ unfinished

-- The same of whatever was unfinished before the bytes, which was so long.
abbrev pub ReadsOn : List ℕ → ℕ → ℕ → ℕ → Progress → Progress → Type 0
ReadsOn bytes before count unfinished from to = (text : List ℕ) → Unfinished text from → length text ≡ before → HasEntries (text ++ bytes) count unfinished to

-- ---- faults

-- at the front of the bytes stands a record that is no entry
abbrev pub BeginsBad : List ℕ → Type 0
BeginsBad bytes = (content : List ℕ) × (after : List ℕ) × Begins IsRecord content bytes after × IsNoEntry content

-- so, or it brings a length above the limit; or there is no memory for it
abbrev pub HasFault : RecoveryFault → ℕ → List ℕ → Type 0
HasFault BadEntry limit bytes = ReachesTooLong limit bytes ⊎ BeginsBad bytes
HasFault OtherReply limit bytes = ⊥
HasFault Memory limit bytes = ReachesWithin limit bytes

-- At the front of the bytes stand so many entries, and then so many bytes that bring this fault.
pub record ReachesFault (fault : RecoveryFault) (limit : ℕ) (bytes : List ℕ) (count left : ℕ) : Type 0 where
  pub entries : List (List ℕ)
  pub rest : List ℕ
  pub cut : AreRecords bytes entries rest
  pub are_entries : AllByRecursion IsEntry entries
  pub faults : HasFault fault limit rest
  pub count_is : length entries ≡ count
  pub left_is : length rest ≡ left

-- The same of whatever was unfinished before the bytes, which was so long.
abbrev pub FaultOn : RecoveryFault → List ℕ → ℕ → ℕ → ℕ → Progress → Type 0
FaultOn fault bytes before count left from = (text : List ℕ) → Unfinished text from → length text ≡ before
    → ReachesFault fault from.limit (text ++ bytes) count left

-- ---- a journal, chunk by chunk

-- A chunk was looked at: the entries in it are counted, and so are its bytes.
pub record Scans (chunk : List ℕ) (old new : Position) : Type 0 where
  pub entries : ℕ
  pub reads : ReadsOn chunk old.unfinished entries new.unfinished old.progress new.progress
  pub entries_are : new.entries ≡ old.entries + entries
  pub bytes_are : new.end + new.unfinished ≡ old.end + old.unfinished + length chunk
  pub limit_stays : new.progress.limit ≡ old.progress.limit
  pub unbroken : new.broken ≡ None

-- A chunk was looked at up to this entry, which is at fault: its number and where it begins are those after the entries before it.
pub record StopsScan (broken : BrokenEntry) (chunk : List ℕ) (old new : Position) : Type 0 where
  pub entries : ℕ
  pub left : ℕ
  pub faults : FaultOn broken.fault chunk old.unfinished entries left old.progress
  pub entries_are : new.entries ≡ old.entries + entries
  pub bytes_are : new.end + left ≡ old.end + old.unfinished + length chunk
  pub entry_is : broken.entry ≡ new.entries + 1
  pub offset_is : broken.offset ≡ new.end
