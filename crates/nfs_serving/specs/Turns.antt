-- The turns of a client.
use Rattle.std.specs.Prelude.{◌≡◌, ◌≢◌, ◌⊎◌, ℕ, ◌+◌, ◌-◌, ◌^◌, min, Bool, true, false, List, [], ◌++◌, Option, None, Some, Result, Ok, Err, is_err}
use Rattle.nfs_attrs.specs.declared.moment.Moment.{Moment}
use Rattle.nfs_rpc.specs.Lent.{IsBefore}
use Rattle.nfs_server.specs.Connections.{Joined}
use Rattle.nfs_server.specs.Feeding.{Device, device, Feeds}
use Rattle.nfs_server.specs.Fits.{Held}
use Rattle.nfs_server.specs.ReplyRoom.{Buffered, is_full}
use Rattle.nfs_server.specs.Streams.{IsReportedAs}
use Rattle.nfs_server.specs.declared.serve_fault.ServeFault.{ServeFault}
use Rattle.nfs_server.specs.declared.serve_fault.ServeFault.TheVariants.{ReadFault, WriteFault, AuditFault, TooLong, TurnsSpent, Memory}
use Rattle.nfs_server.specs.declared.session_fault.SessionFault.{SessionFault}
use Rattle.nfs_server.specs.declared.session_fault.SessionFault.TheVariants as session
use Rattle.nfs_server.specs.Taking.{Waits}
use Rattle.nfs_server.specs.declared.taking.Origin.{Origin}
use Rattle.nfs_server.specs.declared.taking.Stop.{Stop}
use Rattle.nfs_server.specs.declared.taking.Stop.TheVariants.{Done as Finished}
use Rattle.nfs_serving.specs.Outgoing.{Outgoing, IsDrained, IsQuiet, Passes, with_pending}
use Rattle.nfs_serving.specs.declared.turn.End.{End}
use Rattle.nfs_serving.specs.declared.turn.End.TheVariants.{Closed, Fault}
use Rattle.nfs_serving.specs.declared.turn.Turn.{Turn}
use Rattle.nfs_serving.specs.declared.turn.Turn.TheVariants as turn
use Rattle.nfs_xdr.specs.Known.{Grows, Shrinks, IsAtEnd}
use Rattle.nfs_xdr.specs.declared.link.Came.{Came}

-- a client: its connection, the way out, what has come and is not taken, how it ended, if it did, and how many records were answered
pub record Standing (L : Type 0) : Type 0 where
  pub connection : Joined
  pub channel : Outgoing L
  pub chunk : List ℕ
  pub end : Option End
  pub calls : ℕ

-- how many were answered, with those of a feed that no fault has ended; at most as many as 64 bits count
abbrev pub calls_after : ℕ → Result ℕ SessionFault → ℕ
calls_after calls (Ok n) = min (calls + n) (2 ^ 64 - 1)
calls_after calls (Err fault) = calls

-- all that was written for a client: what was sent, where that is known, and what is pending
abbrev pub written : {L : Type 0} → (L → Option (List ℕ)) → Standing L → Option (List ℕ)
written outgoing c = with_pending (outgoing c.channel.link) c.channel.pending

abbrev pub origin_of : {L : Type 0} → Standing L → Moment → Origin
origin_of c moment = record { addr = c.connection.addr; moment = moment }

-- nothing is on its way
abbrev pub IsAtRest : {L : Type 0} → Standing L → Type 0
IsAtRest c = (c.channel.pending ≡ []) × (c.chunk ≡ []) × IsBefore c.connection.progress

-- These bytes came, and none was taken. Some first bytes of what was pending were sent. No record was too long.
pub record Rests {L : Type 0} (outgoing incoming : L → Option (List ℕ)) (came : List ℕ) (old new : Standing L) : Type 0 where
  pub comes : Shrinks (incoming old.channel.link) came (incoming new.channel.link)
  pub chunk_is : new.chunk ≡ old.chunk ++ came
  pub connection_stays : new.connection ≡ old.connection
  pub calls_stay : new.calls ≡ old.calls
  pub passes : Passes (outgoing old.channel.link) old.channel.pending (outgoing new.channel.link) new.channel.pending
  pub none_too_long : new.end ≡ Some (Fault TooLong) → old.end ≡ Some (Fault TooLong)

-- the fault that ends a client by its records: for replies that don't gather there is no memory
abbrev pub IsEndedBy : SessionFault → ServeFault → Type 0
IsEndedBy session.WriteFault fault = fault ≡ Memory
IsEndedBy other fault = IsReportedAs other fault

-- how what came of its records has ended a client, if it did
abbrev pub IsEndBy : Result ℕ SessionFault → Option End → Type 0
IsEndBy (Ok n) end = end ≡ None
IsEndBy (Err fault) end = (reported : ServeFault) × (end ≡ Some (Fault reported)) × IsEndedBy fault reported

-- how a client stands then: its link is broken, or it stands by what came of its records
abbrev pub StandsAfter : {L : Type 0} → Result ℕ SessionFault → Standing L → Type 0
StandsAfter result c = ((c.end ≡ Some (Fault WriteFault)) × (c.channel.failed ≡ true)) ⊎ IsEndBy result c.end

-- These bytes came, and some were taken, in their order. That happens only after all that was pending. What the
-- records that they make whole are answered was sent or is pending.
pub record Takes {L : Type 0} (outgoing incoming : L → Option (List ℕ))
    (moment : Moment) (came : List ℕ) (old new : Standing L) (server served : Held) (audit : Device) : Type 0 where
  pub comes : Shrinks (incoming old.channel.link) came (incoming new.channel.link)
  pub taken : List ℕ
  pub in_order : old.chunk ++ came ≡ taken ++ new.chunk
  pub more : List ℕ
  pub settles : Grows (outgoing old.channel.link) (old.channel.pending ++ more) (outgoing new.channel.link)
  pub result : Result ℕ SessionFault
  pub alive : old.connection.ended ≡ false
  pub ended_is : new.connection.ended ≡ is_err result
  pub addr_stays : new.connection.addr ≡ old.connection.addr
  pub limit_stays : new.connection.progress.limit ≡ old.connection.progress.limit
  pub calls_are : new.calls ≡ calls_after old.calls result
  pub stands : StandsAfter result new
  pub feeds : Feeds (origin_of old moment) taken result server served old.connection.progress new.connection.progress audit (device (written outgoing old) (written outgoing new))

-- how a client stands by what came of its records: it goes on, or their fault ends it. Replies fail to gather only where there is no room for them.
abbrev pub StandsBy : Result ℕ SessionFault → Buffered → Option End → Type 0
StandsBy (Ok n) reply end = end ≡ None
StandsBy (Err fault) reply end = IsEndBy (Err fault) end × (fault ≡ session.WriteFault → is_full reply ≡ true)

-- the buffer as a device, where nothing had gathered before
abbrev pub gathered : Buffered → Device
gathered reply = device (Some []) (Some reply.earlier)

-- Some of the bytes that had come were taken, in their order. What the records that they make whole are answered has gathered.
pub record Gathers {L : Type 0} (moment : Moment) (old new : Standing L) (server served : Held) (audit : Device) (reply : Buffered) : Type 0 where
  pub taken : List ℕ
  pub in_order : old.chunk ≡ taken ++ new.chunk
  pub result : Result ℕ SessionFault
  pub alive : old.connection.ended ≡ false
  pub ended_is : new.connection.ended ≡ is_err result
  pub addr_stays : new.connection.addr ≡ old.connection.addr
  pub limit_stays : new.connection.progress.limit ≡ old.connection.progress.limit
  pub calls_are : new.calls ≡ calls_after old.calls result
  pub channel_stays : new.channel ≡ old.channel
  pub feeds : Feeds (origin_of old moment) taken result server served old.connection.progress new.connection.progress audit (gathered reply)
  pub stands : StandsBy result reply new.end

-- a turn in which these bytes came; one that takes nothing leaves the server and writes no line
abbrev pub TurnsBy : {L : Type 0} → (L → Option (List ℕ)) → (L → Option (List ℕ)) → Moment → List ℕ → Standing L → Standing L → Held → Held → Device → Type 0
TurnsBy outgoing incoming moment came old new server served audit =
    (Rests outgoing incoming came old new × (served ≡ server) × (audit.after ≡ audit.before))
    ⊎ Takes outgoing incoming moment came old new server served audit

abbrev pub Turns : {L : Type 0} → (L → Option (List ℕ)) → (L → Option (List ℕ)) → Moment → Standing L → Standing L → Held → Held → Device → Type 0
Turns outgoing incoming moment old new server served audit = (came : List ℕ) × TurnsBy outgoing incoming moment came old new server served audit

-- nothing was sent but some first bytes of what had been pending
abbrev pub SendsPending : {L : Type 0} → (L → Option (List ℕ)) → Standing L → Standing L → Type 0
SendsPending outgoing old new = (left : List ℕ) × Passes (outgoing old.channel.link) old.channel.pending (outgoing new.channel.link) left

-- what a turn says of the client after it
abbrev pub Reports : {L : Type 0} → Turn → Standing L → Type 0
Reports turn.Fed new = new.channel.pending ≡ []
Reports turn.Drained new = (new.channel.pending ≡ []) × (new.chunk ≡ [])
Reports turn.Idle new = (new.channel.pending ≡ []) × (new.chunk ≡ [])
Reports turn.Held new = new.channel.pending ≡ []
Reports turn.Owing new = new.channel.pending ≢ []
Reports turn.Answered new = new.channel.pending ≢ []
Reports (turn.Ended end) new = (new.end ≡ Some end) × ((new.channel.pending ≡ []) ⊎ (new.channel.failed ≡ true))

-- Why replies are pending after a turn, before which these were. Where it held its replies, those that the link did not take were pending before.
abbrev pub IsPendingSince : Bool → List ℕ → Turn → Type 0
IsPendingSince holds before turn.Fed = Unit {0}
IsPendingSince holds before turn.Drained = Unit {0}
IsPendingSince holds before turn.Idle = Unit {0}
IsPendingSince holds before turn.Held = Unit {0}
IsPendingSince holds before turn.Owing = holds ≡ true → before ≢ []
IsPendingSince holds before turn.Answered = holds ≡ true
IsPendingSince holds before (turn.Ended end) = Unit {0}

-- a turn after which nothing more is there has asked the link
abbrev pub HasAsked : {L : Type 0} → (L → Option (List ℕ)) → (L → ℕ → Came → L → Type 0) → Turn → Standing L → Type 0
HasAsked incoming reports turn.Fed new = Unit {0}
HasAsked incoming reports turn.Drained new = IsDrained incoming reports new.channel.link
HasAsked incoming reports turn.Idle new = IsQuiet reports new.channel.link
HasAsked incoming reports turn.Held new = Unit {0}
HasAsked incoming reports turn.Owing new = Unit {0}
HasAsked incoming reports turn.Answered new = Unit {0}
HasAsked incoming reports (turn.Ended end) new = Unit {0}

-- a client's next record waits, since the log is full, whatever was unfinished
abbrev pub IsHeld : {L : Type 0} → Moment → Standing L → Held → Bool → Type 0
IsHeld moment c server full = (stop : Stop) × (stop ≢ Finished) × Waits stop full (origin_of c moment) c.chunk server c.connection.progress

-- What ended a client: its link told its end or a fault, a fault of its records ended the connection, the log failed at the last line that it was given, or there was no memory.
abbrev pub IsCause : {L : Type 0} → (L → Option (List ℕ)) → (L → Bool) → Bool → Option End → Standing L → Type 0
IsCause incoming broken audit_failed None c = Unit {0}
IsCause incoming broken audit_failed (Some Closed) c = IsAtEnd (incoming c.channel.link)
IsCause incoming broken audit_failed (Some (Fault ReadFault)) c = broken c.channel.link ≡ true
IsCause incoming broken audit_failed (Some (Fault WriteFault)) c = c.channel.failed ≡ true
IsCause incoming broken audit_failed (Some (Fault AuditFault)) c = (c.connection.ended ≡ true) × (audit_failed ≡ true)
IsCause incoming broken audit_failed (Some (Fault TooLong)) c = c.connection.ended ≡ true
IsCause incoming broken audit_failed (Some (Fault Memory)) c = Unit {0}
IsCause incoming broken audit_failed (Some (Fault TurnsSpent)) c = ⊥

-- the causes that lie in a client's records
abbrev pub IsCauseInRecords : Bool → Bool → Option End → Type 0
IsCauseInRecords ended audit_failed None = Unit {0}
IsCauseInRecords ended audit_failed (Some Closed) = ⊥
IsCauseInRecords ended audit_failed (Some (Fault ReadFault)) = ⊥
IsCauseInRecords ended audit_failed (Some (Fault WriteFault)) = ⊥
IsCauseInRecords ended audit_failed (Some (Fault AuditFault)) = (ended ≡ true) × (audit_failed ≡ true)
IsCauseInRecords ended audit_failed (Some (Fault TooLong)) = ended ≡ true
IsCauseInRecords ended audit_failed (Some (Fault Memory)) = Unit {0}
IsCauseInRecords ended audit_failed (Some (Fault TurnsSpent)) = ⊥

-- a client ends only for a cause that came, unless it had ended already
abbrev pub EndsForCause : {L : Type 0} → (L → Option (List ℕ)) → (L → Bool) → Bool → Standing L → Standing L → Type 0
EndsForCause incoming broken audit_failed old new = (new.end ≡ old.end) ⊎ IsCause incoming broken audit_failed new.end new
