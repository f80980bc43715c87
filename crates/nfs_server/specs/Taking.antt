-- The steps by which a chunk of a stream is taken.
use Rattle.std.specs.Prelude.{◌≡◌, ℕ, Bool, true, ◌-◌, ◌≤◌, ◌<◌, List, [], ◌∷◌, ◌++◌, take, length, Option, None, Some, IfOk, Result, Ok, Err}
use Rattle.nfs_rpc.specs.Lent.{HasNoneAtFront, IsBefore}
use Rattle.nfs_rpc.specs.Progress.{Progress, Unfinished}
use Rattle.nfs_rpc.specs.Records.{IsRecord}
use Rattle.nfs_server.specs.Connections.{IsBetween}
use Rattle.nfs_server.specs.Denying.{fails_rule}
use Rattle.nfs_server.specs.Events.{Event, Answer, Done}
use Rattle.nfs_server.specs.Feeding.{Device, BreaksOff, Brings, event_at, framed, line_bytes, replies_of}
use Rattle.nfs_server.specs.Fits.{Held, History, Fits}
use Rattle.nfs_server.specs.Runs.{longer}
use Rattle.nfs_server.specs.declared.session_fault.SessionFault.{SessionFault}
use Rattle.nfs_server.specs.declared.session_fault.SessionFault.TheVariants.{ConnectionTaken, UnknownConnection, Ended, TooLong, Memory, AuditFault, WriteFault}
use Rattle.nfs_server.specs.declared.taking.Origin.{Origin}
use Rattle.nfs_server.specs.declared.taking.Step.{Step}
use Rattle.nfs_server.specs.declared.taking.Stop.{Stop}
use Rattle.nfs_server.specs.declared.taking.Stop.TheVariants.{Done as Finished, Denied, Memory as NoMemory}
use Rattle.nfs_server.specs.declared.taking.Taken.{Taken}
use Rattle.nfs_xdr.specs.Encoding.{Begins}
use Rattle.nfs_xdr.specs.Known.{Grows}

-- what is written of one answer, so many bytes of it as a reply
abbrev pub Writes : Answer → Result ℕ SessionFault → Device → Device → Type 0
Writes a (Ok n) audit replies = (n ≡ length (framed a.reply)) × Grows audit.before (line_bytes a.line) audit.after
    × Grows replies.before (framed a.reply) replies.after
Writes a (Err AuditFault) audit replies = BreaksOff audit [] (line_bytes a.line) × Grows replies.before [] replies.after
Writes a (Err WriteFault) audit replies = BreaksOff replies [] (framed a.reply) × Grows audit.before (line_bytes a.line) audit.after
Writes a (Err TooLong) audit replies = ⊥
Writes a (Err Memory) audit replies = ⊥
Writes a (Err ConnectionTaken) audit replies = ⊥
Writes a (Err UnknownConnection) audit replies = ⊥
Writes a (Err Ended) audit replies = ⊥

-- an event is answered after every history that fits, and this is written
abbrev pub AnswersEvent : Event → Result ℕ SessionFault → Held → Held → Device → Device → Type 0
AnswersEvent event result old new audit replies = (history : History) → Fits history old
    → (d : Done) × (d.event ≡ event) × Fits (longer history (d ∷ [])) new × Writes d.answer result audit replies

-- a reader stands at the beginning of a record
abbrev pub BeginsAnew : Progress → Type 0
BeginsAnew p = IsBetween p × Unfinished [] p

-- what bytes bring to every history that fits, whatever was unfinished, and something of the events
abbrev pub FeedsWith : (List Done → Type 0) → Origin → List ℕ → Result ℕ SessionFault → Held → Held → Progress → Progress → Device → Device → Type 0
FeedsWith Also origin bytes result old new from to audit replies = (history : History) → Fits history old → (text : List ℕ) → Unfinished text from
    → (b : Brings history origin (text ++ bytes) result new to audit replies) × Also b.done

-- the bytes of a chunk that were taken; all of it at a fault
abbrev pub bytes_stepped : Result Step SessionFault → List ℕ → List ℕ
bytes_stepped (Ok step) chunk = take step.used chunk
bytes_stepped (Err fault) chunk = chunk

abbrev pub bytes_taken : Result Taken SessionFault → List ℕ → List ℕ
bytes_taken (Ok taken) chunk = take taken.used chunk
bytes_taken (Err fault) chunk = chunk

-- how many records were answered
abbrev pub count_stepped : Result Step SessionFault → Result ℕ SessionFault
count_stepped (Ok step) = Ok step.records
count_stepped (Err fault) = Err fault

abbrev pub count_taken : Result Taken SessionFault → Result ℕ SessionFault
count_taken (Ok taken) = Ok taken.records
count_taken (Err fault) = Err fault

-- there is one event, or none
abbrev pub IsOneAtMost : List Done → Type 0
IsOneAtMost [] = Unit {0}
IsOneAtMost (d ∷ []) = Unit {0}
IsOneAtMost (d ∷ e ∷ earlier) = ⊥

abbrev pub FeedsOne : Origin → List ℕ → Result Step SessionFault → Held → Held → Progress → Progress → Device → Device → Type 0
FeedsOne origin chunk result = FeedsWith (λ done. IsOneAtMost done
    × IfOk result (λ step. step.replied ≡ length (replies_of done))) origin (bytes_stepped result chunk) (count_stepped result)

-- what is left of room, if it is bounded, after so many bytes
abbrev pub room_after : Option ℕ → ℕ → Option ℕ
room_after None n = None
room_after (Some room) n = Some (room - n)

-- the replies before the newest don't fill the room
abbrev pub LeavesRoom : Option ℕ → List Done → Type 0
LeavesRoom None done = Unit {0}
LeavesRoom (Some room) [] = Unit {0}
LeavesRoom (Some room) (d ∷ earlier) = length (replies_of earlier) < room

-- this is left of the room after the replies to events
pub record IsRoomLeft (room left : Option ℕ) (done : List Done) : Type 0 where
  pub left_is : left ≡ room_after room (length (replies_of done))
  pub leaves : LeavesRoom room done

-- bytes fill the room
abbrev pub AreFull : Option ℕ → List ℕ → Type 0
AreFull None bytes = ⊥
AreFull (Some room) bytes = room ≤ length bytes

-- It stops at the reply that fills the room: none before it does, and some of the chunk is left only where one does, or the next record waits.
abbrev pub Stops : Option ℕ → List ℕ → Result Taken SessionFault → List Done → Type 0
Stops room chunk (Ok taken) done = (taken.stop ≡ Finished → taken.used < length chunk → AreFull room (replies_of done)) × LeavesRoom room done
Stops room chunk (Err fault) done = LeavesRoom room done

abbrev pub FeedsSome : Origin → List ℕ → Option ℕ → Result Taken SessionFault → Held → Held → Progress → Progress → Device → Device → Type 0
FeedsSome origin chunk room result = FeedsWith (Stops room chunk result) origin (bytes_taken result chunk) (count_taken result)

-- ---- records that wait

-- where a record waits, nothing was taken
abbrev pub Holds : Stop → ℕ → Type 0
Holds Finished used = Unit {0}
Holds Denied used = used ≡ 0
Holds NoMemory used = used ≡ 0

-- this record stands at the front of some bytes
abbrev pub IsNext : List ℕ → List ℕ → Type 0
IsNext content bytes = (after : List ℕ) × Begins IsRecord content bytes after

-- A record waits only where lines have no room, whatever was unfinished: the next one is a call that fails a rule, or there is no memory to look at it,
-- which takes memory only where it doesn't stand whole, in one fragment, at the front of what is left.
abbrev pub Waits : Stop → Bool → Origin → List ℕ → Held → Progress → Type 0
Waits Finished full origin left s p = Unit {0}
Waits Denied full origin left s p = (full ≡ true) × ((text : List ℕ) → Unfinished text p → (content : List ℕ) × IsNext content (text ++ left) × (fails_rule s (event_at origin content) ≡ true))
Waits NoMemory full origin left s p = (full ≡ true) × (IsBefore p → HasNoneAtFront p.limit left)
