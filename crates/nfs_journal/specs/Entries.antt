-- The entries of a journal, as they are read.
use Rattle.std.specs.Prelude.{◌≡◌, ◌≢◌, ℕ, ◌^◌, ◌<◌, List, take, drop, length, Result, Ok, Err, if◌then◌else◌, nat_lt}
use Rattle.std.specs.Int.{w32}
use Rattle.nfs_journal.specs.Noted.{noted}
use Rattle.nfs_journal.specs.declared.entry.Entry.{Entry}
use Rattle.nfs_rpc.specs.Records.{IsPart}
use Rattle.nfs_server.specs.Entries.{entry_of, entry_text, journal_text, reply_bytes}
use Rattle.nfs_server.specs.Events.{Event, Done}
use Rattle.nfs_server.specs.InMemory.{event_of}
use Rattle.nfs_xdr.specs.Reading.{◌>>=◌, number_at}
use Rattle.nfs_xdr.specs.declared.fault.XdrFault.{XdrFault}
use Rattle.nfs_xdr.specs.declared.fault.XdrFault.TheVariants.{Short}

abbrev pub event_with : ℕ → ℕ → ℕ → List ℕ → Event
event_with addr seconds nanos bytes = record { addr = record { 0 = addr }; moment = record { seconds = seconds; nanos = nanos }; bytes = bytes }

-- the event and the reply that stand there without a checksum
abbrev pub content_at : List ℕ → Result (Event × List ℕ) XdrFault
content_at bytes = do
  addr ← number_at w32 bytes
  seconds ← number_at w32 addr.1
  nanos ← number_at w32 seconds.1
  len ← number_at w32 nanos.1
  if nat_lt (length len.1) len.0 then Err Short else Ok (event_with addr.0 seconds.0 nanos.0 (drop len.0 len.1), take len.0 len.1)

-- what was read is this, or the fault
abbrev pub Decodes : Result Entry XdrFault → Result (Event × List ℕ) XdrFault → Type 0
Decodes (Ok entry) read = read ≡ Ok (event_of entry.event, entry.reply.now)
Decodes (Err fault) read = read ≡ Err fault

-- The numbers of an entry have 32 bits each, as those of every event in memory.
pub record AreWords (event : Event) (reply : List ℕ) : Type 0 where
  pub addr : event.addr.0 < 2 ^ 32
  pub seconds : event.moment.seconds < 2 ^ 32
  pub nanos : event.moment.nanos < 2 ^ 32
  pub reply_length : length reply < 2 ^ 32

-- The same of an event that was answered, whose entry fits one fragment.
pub record FitsEntry (d : Done) : Type 0 where
  pub words : AreWords d.event (reply_bytes d.answer.reply)
  pub part : IsPart (entry_of d)

-- no event and reply have these bytes as their entry
abbrev pub IsNoEntry : List ℕ → Type 0
IsNoEntry bytes = (event : Event) (reply : List ℕ) → AreWords event reply → entry_text event reply ≢ bytes

-- ---- laws

-- An entry is that of one event and one reply.
abbrev pub EntriesAreReadOnce : Type 0
EntriesAreReadOnce = (event other : Event) (reply answer : List ℕ) → AreWords event reply → AreWords other answer
    → entry_text event reply ≡ entry_text other answer → (event ≡ other) × (reply ≡ answer)

-- The journal of the noted events alone is the same.
abbrev pub JournalIsOfNoted : Type 0
JournalIsOfNoted = (done : List Done) → journal_text (noted done) ≡ journal_text done
