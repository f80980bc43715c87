-- What bytes of a connection's stream bring: the answers to the records that they make whole.
use Rattle.std.specs.Prelude.{◌≡◌, ℕ, ◌≤◌, Bool, true, List, [], ◌∷◌, ◌++◌, map, reverse, take, length, Option, None, Some, Result, Ok, Err}
use Rattle.std.specs.List.{AllByRecursion}
use Rattle.nfs_rpc.specs.Progress.{Progress, Unfinished, IsWithin}
use Rattle.nfs_rpc.specs.Records.{fragment, IsRecord, AreRecords, ReachesTooLong, ReachesWithin}
use Rattle.nfs_server.specs.AuditLines.{line_text}
use Rattle.nfs_server.specs.Events.{Event, Done}
use Rattle.nfs_server.specs.Fits.{Held, History, Fits}
use Rattle.nfs_server.specs.Runs.{longer}
use Rattle.nfs_server.specs.declared.audit_line.AuditLine.{AuditLine}
use Rattle.nfs_server.specs.declared.taking.Origin.{Origin}
use Rattle.nfs_server.specs.declared.session_fault.SessionFault.{SessionFault}
use Rattle.nfs_server.specs.declared.session_fault.SessionFault.TheVariants.{ConnectionTaken, UnknownConnection, Ended, TooLong, Memory, AuditFault, WriteFault}
use Rattle.nfs_xdr.specs.Known.{Grows}
use Rattle.nfs_xdr.specs.Encoding.{BeginsNone}

-- ---- what is written

-- the line of an answer, where it has one
abbrev pub line_bytes : Option AuditLine → List ℕ
line_bytes None = []
line_bytes (Some line) = line_text line

-- the reply, where there is one, as a record of one fragment
abbrev pub framed : Option (List ℕ) → List ℕ
framed None = []
framed (Some reply) = fragment true reply

-- the lines of events in their order, of which the newest stands first
abbrev pub lines_of : List Done → List ℕ
lines_of [] = []
lines_of (d ∷ earlier) = lines_of earlier ++ line_bytes d.answer.line

-- and their framed replies
abbrev pub replies_of : List Done → List ℕ
replies_of [] = []
replies_of (d ∷ earlier) = replies_of earlier ++ framed d.answer.reply

-- what a device holds before and after, where that is known
pub record Device : Type 0 where
  pub before : Option (List ℕ)
  pub after : Option (List ℕ)

abbrev pub device : Option (List ℕ) → Option (List ℕ) → Device
device before after = record { before = before; after = after }

-- these bytes were written, and then some first ones of those
pub record BreaksOff (d : Device) (all part : List ℕ) : Type 0 where
  pub n : ℕ
  pub within : n ≤ length part
  pub wrote : Grows d.before (all ++ take n part) d.after

-- the lines and the replies of all events were written
pub record WritesAll (done : List Done) (audit replies : Device) : Type 0 where
  pub lines_are : Grows audit.before (lines_of done) audit.after
  pub replies_are : Grows replies.before (replies_of done) replies.after

-- The audit device failed at the newest event: of it nothing was written but some first bytes of its line.
abbrev pub AuditBreaks : List Done → Device → Device → Type 0
AuditBreaks [] audit replies = ⊥
AuditBreaks (d ∷ earlier) audit replies = BreaksOff audit (lines_of earlier) (line_bytes d.answer.line)
    × Grows replies.before (replies_of earlier) replies.after

-- The device for replies failed at the newest event, after its line: of its reply some first bytes were written.
abbrev pub ReplyBreaks : List Done → Device → Device → Type 0
ReplyBreaks [] audit replies = ⊥
ReplyBreaks (d ∷ earlier) audit replies = BreaksOff replies (replies_of earlier) (framed d.answer.reply)
    × Grows audit.before (lines_of (d ∷ earlier)) audit.after

-- ---- what is answered

-- a whole record is one event
abbrev pub event_at : Origin → List ℕ → Event
event_at origin bytes = record { addr = origin.addr; moment = origin.moment; bytes = bytes }

-- At the front of the bytes stand records, none above the limit, and then this rest. Each was answered in its
-- turn, the newest first, and the history with them fits.
pub record Serves (history : History) (origin : Origin) (limit : ℕ) (bytes : List ℕ) (done : List Done) (rest : List ℕ) (s : Held) : Type 0 where
  pub records : List (List ℕ)
  pub cut : AreRecords bytes records rest
  pub within : AllByRecursion (λ content. length content ≤ limit) records
  pub events_are : map (λ (d : Done). d.event) (reverse done) ≡ map (event_at origin) records
  pub fits : Fits (longer history done) s

-- what is left is less than a record, and reaches no header too long
pub record IsLeft (rest : List ℕ) (p : Progress) : Type 0 where
  pub unfinished : Unfinished rest p
  pub none_whole : BeginsNone IsRecord rest
  pub none_long : IsWithin p.limit rest

-- what ends a connection: a device's fault only where that device has failed
abbrev pub EndsWith : Bool → Bool → SessionFault → Type 0
EndsWith audit_failed replies_failed TooLong = Unit {0}
EndsWith audit_failed replies_failed Memory = Unit {0}
EndsWith audit_failed replies_failed AuditFault = audit_failed ≡ true
EndsWith audit_failed replies_failed WriteFault = replies_failed ≡ true
EndsWith audit_failed replies_failed ConnectionTaken = ⊥
EndsWith audit_failed replies_failed UnknownConnection = ⊥
EndsWith audit_failed replies_failed Ended = ⊥

-- why no more was taken, and what was written
abbrev pub Ends : Result ℕ SessionFault → List Done → List ℕ → Progress → Device → Device → Type 0
Ends (Ok n) done rest p audit replies = (n ≡ length done) × IsLeft rest p × WritesAll done audit replies
Ends (Err TooLong) done rest p audit replies = ReachesTooLong p.limit rest × WritesAll done audit replies
Ends (Err Memory) done rest p audit replies = ReachesWithin p.limit rest × WritesAll done audit replies
Ends (Err AuditFault) done rest p audit replies = AuditBreaks done audit replies
Ends (Err WriteFault) done rest p audit replies = ReplyBreaks done audit replies
Ends (Err ConnectionTaken) done rest p audit replies = ⊥
Ends (Err UnknownConnection) done rest p audit replies = ⊥
Ends (Err Ended) done rest p audit replies = ⊥

-- After this history, these bytes of a stream, the first of which were unfinished before, bring this.
pub record Brings (history : History) (origin : Origin) (bytes : List ℕ) (result : Result ℕ SessionFault) (s : Held) (p : Progress) (audit replies : Device) : Type 0 where
  pub done : List Done
  pub rest : List ℕ
  pub serves : Serves history origin p.limit bytes done rest s
  pub ends : Ends result done rest p audit replies

-- The same of every history that fits, and of whatever was unfinished.
abbrev pub Feeds : Origin → List ℕ → Result ℕ SessionFault → Held → Held → Progress → Progress → Device → Device → Type 0
Feeds origin chunk result old new from to audit replies = (history : History) → Fits history old → (text : List ℕ) → Unfinished text from
    → Brings history origin (text ++ chunk) result new to audit replies
