-- One stream of records, which is read until it ends.
use Rattle.std.specs.Prelude.{◌≡◌, ℕ, ◌<◌, ◌≤◌, ◌⊎◌, Bool, true, List, [], ◌∷◌, ◌++◌, map, reverse, take, length, IfOk, Result, Ok, Err}
use Rattle.std.specs.List.{AllByRecursion}
use Rattle.nfs_attrs.specs.declared.moment.Moment.{Moment}
use Rattle.nfs_exports.specs.declared.addr.Addr.{Addr}
use Rattle.nfs_rpc.specs.Progress.{Progress, Unfinished, IsWithin}
use Rattle.nfs_rpc.specs.Records.{IsRecord, AreRecords, ReachesTooLong, ReachesWithin}
use Rattle.nfs_server.specs.Connections.{max_record_bytes}
use Rattle.nfs_server.specs.Events.{Done}
use Rattle.nfs_server.specs.Feeding.{Device, WritesAll, AuditBreaks, ReplyBreaks, Ends}
use Rattle.nfs_server.specs.Fits.{Held, History, Fits}
use Rattle.nfs_server.specs.Runs.{longer}
use Rattle.nfs_server.specs.declared.serve_fault.ServeFault.{ServeFault}
use Rattle.nfs_server.specs.declared.serve_fault.ServeFault.TheVariants.{ReadFault, WriteFault, AuditFault, TooLong, TurnsSpent, Memory}
use Rattle.nfs_server.specs.declared.session_fault.SessionFault.{SessionFault}
use Rattle.nfs_server.specs.declared.session_fault.SessionFault.TheVariants as session
use Rattle.nfs_server.specs.declared.stream.Part.{Part}
use Rattle.nfs_server.specs.declared.stream.Served.{Served}
use Rattle.nfs_xdr.specs.Encoding.{BeginsNone}

-- ---- what is read, and when

-- the most bytes that one read asks for
abbrev pub read_bytes : ℕ
read_bytes = 8192

-- what something was, and what it is
pub record Course (X : Type 0) : Type 0 where
  pub before : X
  pub after : X

abbrev pub course : {X : Type 0} → X → X → Course X
course before after = record { before = before; after = after }

-- Reads, the newest first. Each gave some bytes, and no more than one asks for.
abbrev pub Reads : {R : Type 0} → (R → List ℕ → R → Type 0) → R → List (List ℕ) → R → Type 0
Reads gives old [] new = new ≡ old
Reads {R} gives old (chunk ∷ earlier) new = (between : R) × Reads gives old earlier between × gives between chunk new × (0 < length chunk)
    × (length chunk ≤ read_bytes)

-- the bytes of reads, in their order
abbrev pub bytes_read : List (List ℕ) → List ℕ
bytes_read [] = []
bytes_read (chunk ∷ earlier) = bytes_read earlier ++ chunk

-- A clock was asked once for each event, the newest of which stands first, and each is at the moment that it reported.
abbrev pub Asks : {C : Type 0} → (C → Moment → C → Type 0) → C → List Done → C → Type 0
Asks reports old [] new = new ≡ old
Asks {C} reports old (d ∷ earlier) new = (between : C) × Asks reports old earlier between × reports between d.event.moment new

-- ---- what is answered

-- At the front of the bytes stand records, none above the limit, and then this rest. Each is an event from
-- this address, answered in its turn, the newest first, and the history with them fits.
pub record StreamServes (history : History) (addr : Addr) (limit : ℕ) (bytes : List ℕ) (done : List Done) (rest : List ℕ) (s : Held) : Type 0 where
  pub cut : AreRecords bytes (map (λ (d : Done). d.event.bytes) (reverse done)) rest
  pub within : AllByRecursion (λ (d : Done). (d.event.addr ≡ addr) × (length d.event.bytes ≤ limit)) done
  pub fits : Fits (longer history done) s

-- what is left holds no whole record, and reaches no header too long
pub record IsRest (limit : ℕ) (rest : List ℕ) : Type 0 where
  pub none_whole : BeginsNone IsRecord rest
  pub none_long : IsWithin limit rest

-- How a stream ended after these reads, and what was written. Want of memory is met before the first read, or where a header asks for room.
abbrev pub StreamEnds : Result Served ServeFault → List (List ℕ) → List Done → List ℕ → Device → Device → Type 0
StreamEnds (Ok served) reads done rest audit replies = (served.calls ≡ length done) × (served.rest ≡ length rest)
    × IsRest max_record_bytes rest × WritesAll done audit replies
StreamEnds (Err ReadFault) reads done rest audit replies = IsRest max_record_bytes rest × WritesAll done audit replies
StreamEnds (Err TurnsSpent) reads done rest audit replies = IsRest max_record_bytes rest × WritesAll done audit replies
StreamEnds (Err TooLong) reads done rest audit replies = ReachesTooLong max_record_bytes rest × WritesAll done audit replies
StreamEnds (Err Memory) reads done rest audit replies = ((reads ≡ []) ⊎ ReachesWithin max_record_bytes rest) × WritesAll done audit replies
StreamEnds (Err AuditFault) reads done rest audit replies = AuditBreaks done audit replies
StreamEnds (Err WriteFault) reads done rest audit replies = ReplyBreaks done audit replies

-- Of at most so many reads these many gave bytes. After them one more read gave the end, or failed and gave nothing, or there was none more.
abbrev pub ReadsEnd : {R : Type 0} → (R → List ℕ → R → Type 0) → (R → R → Type 0) → Result Served ServeFault → ℕ → ℕ → Course R → Type 0
ReadsEnd gives breaks (Ok served) turns reads reader = (reads < turns) × gives reader.before [] reader.after
ReadsEnd gives breaks (Err ReadFault) turns reads reader = (reads < turns) × breaks reader.before reader.after
ReadsEnd gives breaks (Err TurnsSpent) turns reads reader = (reads ≡ turns) × (reader.after ≡ reader.before)
ReadsEnd gives breaks (Err TooLong) turns reads reader = (reads ≤ turns) × (reader.after ≡ reader.before)
ReadsEnd gives breaks (Err Memory) turns reads reader = (reads ≤ turns) × (reader.after ≡ reader.before)
ReadsEnd gives breaks (Err AuditFault) turns reads reader = (reads ≤ turns) × (reader.after ≡ reader.before)
ReadsEnd gives breaks (Err WriteFault) turns reads reader = (reads ≤ turns) × (reader.after ≡ reader.before)

-- After this history, a stream from this address that is read by so many turns at most brings this.
pub record Streams {R C : Type 0} (gives : R → List ℕ → R → Type 0) (breaks : R → R → Type 0) (reports : C → Moment → C → Type 0)
    (history : History) (addr : Addr) (turns : ℕ) (result : Result Served ServeFault) (s : Held)
    (reader : Course R) (clock : Course C) (audit replies : Device) : Type 0 where
  pub reads : List (List ℕ)
  pub between : R
  pub read : Reads gives reader.before reads between
  pub read_ends : ReadsEnd gives breaks result turns (length reads) (course between reader.after)
  pub done : List Done
  pub rest : List ℕ
  pub serves : StreamServes history addr max_record_bytes (bytes_read reads) done rest s
  pub asks : Asks reports clock.before done clock.after
  pub ends : StreamEnds result reads done rest audit replies

-- a fault of a device is answered only where that device has failed
abbrev pub FailsWith : Bool → Bool → Bool → ServeFault → Type 0
FailsWith reader_failed audit_failed replies_failed ReadFault = reader_failed ≡ true
FailsWith reader_failed audit_failed replies_failed AuditFault = audit_failed ≡ true
FailsWith reader_failed audit_failed replies_failed WriteFault = replies_failed ≡ true
FailsWith reader_failed audit_failed replies_failed TooLong = Unit {0}
FailsWith reader_failed audit_failed replies_failed TurnsSpent = Unit {0}
FailsWith reader_failed audit_failed replies_failed Memory = Unit {0}

-- ---- some bytes of it

-- what these bytes of a stream bring, the first of which were unfinished before
pub record StreamBrings {C : Type 0} (reports : C → Moment → C → Type 0)
    (history : History) (addr : Addr) (bytes : List ℕ) (result : Result ℕ SessionFault) (s : Held)
    (p : Progress) (clock : Course C) (audit replies : Device) : Type 0 where
  pub done : List Done
  pub rest : List ℕ
  pub serves : StreamServes history addr p.limit bytes done rest s
  pub asks : Asks reports clock.before done clock.after
  pub ends : Ends result done rest p audit replies

-- The same of every history that fits, and of whatever was unfinished; where that were so many bytes, so many are unfinished now.
abbrev pub StreamFeeds : {C : Type 0} → (C → Moment → C → Type 0) → Addr → List ℕ → Result ℕ SessionFault → Course ℕ → Course Held
    → Course Progress → Course C → Device → Device → Type 0
StreamFeeds reports addr bytes result left server progress clock audit replies = (history : History) → Fits history server.before → (text : List ℕ)
    → Unfinished text progress.before
    → (b : StreamBrings reports history addr (text ++ bytes) result server.after progress.after clock audit replies)
    × IfOk result (λ n. length text ≡ left.before → length b.rest ≡ left.after)

-- how many records were answered, and how many bytes are unfinished then
abbrev pub calls_of : Result Served SessionFault → Result ℕ SessionFault
calls_of (Ok served) = Ok served.calls
calls_of (Err fault) = Err fault

abbrev pub left_after : Result Served SessionFault → ℕ
left_after (Ok served) = served.rest
left_after (Err fault) = 0

abbrev pub served_of : Result Part SessionFault → Result Served SessionFault
served_of (Ok part) = Ok part.served
served_of (Err fault) = Err fault

-- the bytes of a chunk that were taken; all of it at a fault
abbrev pub bytes_used : Result Part SessionFault → List ℕ → List ℕ
bytes_used (Ok part) chunk = take part.used chunk
bytes_used (Err fault) chunk = chunk

-- the fault of a stream that a fault of its records ends
abbrev pub IsReportedAs : SessionFault → ServeFault → Type 0
IsReportedAs session.TooLong fault = fault ≡ TooLong
IsReportedAs session.Memory fault = fault ≡ Memory
IsReportedAs session.AuditFault fault = fault ≡ AuditFault
IsReportedAs session.WriteFault fault = fault ≡ WriteFault
IsReportedAs other fault = ⊥
