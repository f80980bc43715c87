-- What changes a service: clients join, have turns and leave, in whatever order.
use Rattle.std.specs.Prelude.{◌≡◌, ◌≢◌, ◌⊎◌, ℕ, ◌+◌, ◌≤◌, Bool, true, false, List, [], ◌∷◌, ◌++◌, map, reverse, length, take, codes, decimal, Option, Some, None, if◌then◌else◌, nat_eq}
use Rattle.std.specs.List.{AllByRecursion}
use Rattle.nfs_attrs.specs.declared.moment.Moment.{Moment}
use Rattle.nfs_exports.specs.declared.addr.Addr.{Addr}
use Rattle.nfs_exports.specs.declared.export_table.Export.{Export}
use Rattle.nfs_rpc.specs.Progress.{Unfinished}
use Rattle.nfs_rpc.specs.Records.{AreRecords, ReachesTooLong}
use Rattle.nfs_server.specs.Events.{Done}
use Rattle.nfs_server.specs.FaultWords.{word_of_stream}
use Rattle.nfs_server.specs.Feeding.{device, lines_of, line_bytes, replies_of}
use Rattle.nfs_server.specs.Fits.{Held, History, Fits, reloaded, settled, with_exports}
use Rattle.nfs_server.specs.Runs.{longer}
use Rattle.nfs_server.specs.Together.{IsServed}
use Rattle.nfs_server.specs.declared.serve_fault.ServeFault.TheVariants.{ReadFault, TooLong}
use Rattle.nfs_serving.specs.Turns.{Standing, IsAtRest, SendsPending, TurnsBy, written}
use Rattle.nfs_serving.specs.declared.turn.End.{End}
use Rattle.nfs_serving.specs.declared.turn.End.TheVariants.{Closed, Fault}
use Rattle.nfs_xdr.specs.Known.{Grows, Shrinks, StaysFailed}

-- ---- what is

-- a client, and the number of its connection
pub record Seat (L : Type 0) : Type 0 where
  pub number : ℕ
  pub client : Standing L

-- a server, the clients by their keys, how many have joined, what was written to the log of denied calls and as lines of ended connections, where that is known, whether the log's device has failed, and whether each line of a connection was written to its end
pub record ServiceState (L : Type 0) : Type 0 where
  pub server : Held
  pub seat : ℕ → Option (Seat L)
  pub joined : ℕ
  pub log : Option (List ℕ)
  pub lines : Option (List ℕ)
  pub broken : Bool
  pub complete : Bool

-- a client at its beginning: nothing has come, and nothing is pending
pub record IsNew {L : Type 0} (c : Standing L) : Type 0 where
  pub begins : Unfinished [] c.connection.progress
  pub nothing_came : c.chunk ≡ []
  pub goes_on : c.end ≡ None

-- ---- what changes it

-- a client joins under a key, with the number of its connection and its address; that of a key has a turn, at a moment, in which bytes come; it leaves, after so many calls, by an end; lines that were written are passed on to their devices; these exports are put in force, a list for each volume; or these notes come to last in the journal
pub data Change : Type 0 where
  joins : ℕ → ℕ → Addr → Change
  turns : ℕ → Moment → List ℕ → Change
  leaves : ℕ → ℕ → ℕ → End → Change
  passes : Change
  reloads : List (List Export) → Change
  settles : List ℕ → Change

abbrev pub OthersSit : {L : Type 0} → ℕ → ServiceState L → ServiceState L → Type 0
OthersSit key old new = (other : ℕ) → other ≢ key → new.seat other ≡ old.seat other

-- the line of a connection that ended
abbrev pub ending : ℕ → End → List ℕ
ending calls Closed = codes " calls=" ++ decimal calls
ending calls (Fault fault) = codes " fault=" ++ word_of_stream fault

abbrev pub end_text : ℕ → ℕ → End → List ℕ
end_text number calls end = codes "connection " ++ decimal number ++ ending calls end ++ codes "\n"

pub record Joins {L : Type 0} (key number : ℕ) (addr : Addr) (old new : ServiceState L) : Type 0 where
  pub client : Standing L
  pub free : old.seat key ≡ None
  pub sits : new.seat key ≡ Some (record { number = number; client = client })
  pub begins : IsNew client
  pub addr_is : client.connection.addr ≡ addr
  pub number_is : number ≡ old.joined + 1
  pub joined_is : new.joined ≡ number
  pub others : OthersSit key old new
  pub server_stays : new.server ≡ old.server
  pub log_stays : new.log ≡ old.log
  pub lines_stay : new.lines ≡ old.lines
  pub broken_stays : new.broken ≡ old.broken
  pub complete_stays : new.complete ≡ old.complete

-- A client has its turn. Where the server keeps notes, nothing goes out in it but what was pending when it began.
pub record HasTurn {L : Type 0} (outgoing incoming : L → Option (List ℕ)) (key : ℕ) (moment : Moment) (came : List ℕ) (old new : ServiceState L) : Type 0 where
  pub number : ℕ
  pub was : Standing L
  pub now : Standing L
  pub sat : old.seat key ≡ Some (record { number = number; client = was })
  pub sits : new.seat key ≡ Some (record { number = number; client = now })
  pub turn : TurnsBy outgoing incoming moment came was now old.server new.server (device old.log new.log)
  pub held_back : (notes : List ℕ) → old.server.notes ≡ Some notes → SendsPending outgoing was now
  pub log_stays : StaysFailed old.broken old.log new.broken new.log
  pub others : OthersSit key old new
  pub joined_stays : new.joined ≡ old.joined
  pub lines_stay : new.lines ≡ old.lines
  pub complete_stays : new.complete ≡ old.complete

-- how a client leaves: as it has ended; or as one that closed, where its peer has reset it with nothing on its way, or it was silent
abbrev pub LeavesBy : {L : Type 0} → Standing L → End → Type 0
LeavesBy client end = (client.end ≡ Some end) ⊎ ((end ≡ Closed) × ((client.end ≡ None) ⊎ ((client.end ≡ Some (Fault ReadFault)) × IsAtRest client)))

-- some first bytes of a line
abbrev pub IsPartOf : List ℕ → List ℕ → Type 0
IsPartOf line part = (n : ℕ) × (n ≤ length line) × (part ≡ take n line)

-- Its line is written, to the log too where that has all lines, or only some first bytes of it, or none, where it is incomplete.
pub record Leaves {L : Type 0} (shared : Bool) (key number calls : ℕ) (end : End) (old new : ServiceState L) : Type 0 where
  pub client : Standing L
  pub sat : old.seat key ≡ Some (record { number = number; client = client })
  pub calls_are : client.calls ≡ calls
  pub ended : LeavesBy client end
  pub gone : new.seat key ≡ None
  pub line : List ℕ
  pub part : IsPartOf (end_text number calls end) line
  pub whole : new.complete ≡ true → (old.complete ≡ true) × (line ≡ end_text number calls end)
  pub lines_grow : Grows old.lines line new.lines
  pub log_grows : Grows old.log (if shared then line else []) new.log
  pub log_stays : StaysFailed old.broken old.log new.broken new.log
  pub others : OthersSit key old new
  pub joined_stays : new.joined ≡ old.joined
  pub server_stays : new.server ≡ old.server

-- all events to come are judged by these exports, and nothing else changes
abbrev pub Reloads : {L : Type 0} → List (List Export) → ServiceState L → ServiceState L → Type 0
Reloads exports old new = new ≡ record old { server = with_exports exports old.server }

-- these are all of the server's notes, there are none then, and nothing else changes
abbrev pub Settles : {L : Type 0} → List ℕ → ServiceState L → ServiceState L → Type 0
Settles notes old new = (old.server.notes ≡ Some notes) × (new ≡ record old { server = record old.server { notes = Some [] } })

-- nothing new is written
pub record PassesOn {L : Type 0} (old new : ServiceState L) : Type 0 where
  pub server_stays : new.server ≡ old.server
  pub seats_stay : new.seat ≡ old.seat
  pub joined_stays : new.joined ≡ old.joined
  pub log_is : Grows old.log [] new.log
  pub log_stays : StaysFailed old.broken old.log new.broken new.log
  pub lines_stay : Grows old.lines [] new.lines
  pub complete_stays : new.complete ≡ old.complete

abbrev pub IsChange : {L : Type 0} → (L → Option (List ℕ)) → (L → Option (List ℕ)) → Bool → Change → ServiceState L → ServiceState L → Type 0
IsChange outgoing incoming shared (joins key number addr) old new = Joins key number addr old new
IsChange outgoing incoming shared (turns key moment came) old new = HasTurn outgoing incoming key moment came old new
IsChange outgoing incoming shared (leaves key number calls end) old new = Leaves shared key number calls end old new
IsChange outgoing incoming shared passes old new = PassesOn old new
IsChange outgoing incoming shared (reloads exports) old new = Reloads exports old new
IsChange outgoing incoming shared (settles notes) old new = Settles notes old new

-- one change after another, the newest first
abbrev pub AreChanges : {L : Type 0} → (L → Option (List ℕ)) → (L → Option (List ℕ)) → Bool → List Change → ServiceState L → ServiceState L → Type 0
AreChanges outgoing incoming shared [] old new = new ≡ old
AreChanges {L} outgoing incoming shared (change ∷ earlier) old new = (between : ServiceState L) × AreChanges outgoing incoming shared earlier old between × IsChange outgoing incoming shared change between new

-- ---- what that brings

-- what came from the client of a key since it joined
abbrev pub own_bytes : ℕ → List Change → List ℕ
own_bytes key [] = []
own_bytes key (joins k number addr ∷ earlier) = if nat_eq key k then [] else own_bytes key earlier
own_bytes key (turns k moment came ∷ earlier) = own_bytes key earlier ++ (if nat_eq key k then came else [])
own_bytes key (leaves k number calls end ∷ earlier) = own_bytes key earlier
own_bytes key (passes ∷ earlier) = own_bytes key earlier
own_bytes key (reloads exports ∷ earlier) = own_bytes key earlier
own_bytes key (settles notes ∷ earlier) = own_bytes key earlier

-- the address from which it joined
abbrev pub addr_at : ℕ → List Change → Option Addr
addr_at key [] = None
addr_at key (joins k number addr ∷ earlier) = if nat_eq key k then Some addr else addr_at key earlier
addr_at key (turns k moment came ∷ earlier) = addr_at key earlier
addr_at key (leaves k number calls end ∷ earlier) = addr_at key earlier
addr_at key (passes ∷ earlier) = addr_at key earlier
addr_at key (reloads exports ∷ earlier) = addr_at key earlier
addr_at key (settles notes ∷ earlier) = addr_at key earlier

-- a change, its events, the newest first, what it wrote to the log, and what as the line of a connection
pub record Outcome : Type 0 where
  pub change : Change
  pub done : List Done
  pub log : List ℕ
  pub line : List ℕ

-- the history with one change more: a reload puts its exports in force, once notes have come to last, its whole journal lasts, and the events of another make it longer
abbrev pub history_with : Change → List Done → History → History
history_with (reloads exports) done history = reloaded history exports
history_with (settles notes) done history = settled history
history_with other done history = longer history done

-- all notes that came to last, in their order
abbrev pub settled_by : List Change → List ℕ
settled_by [] = []
settled_by (settles notes ∷ earlier) = settled_by earlier ++ notes
settled_by (other ∷ earlier) = settled_by earlier

-- the history with these outcomes, one after another
abbrev pub history_after : History → List Outcome → History
history_after history [] = history
history_after history (o ∷ earlier) = history_with o.change o.done (history_after history earlier)

abbrev pub own_done : ℕ → Change → List Done → List Done → List Done
own_done key (joins k number addr) done earlier = if nat_eq key k then [] else earlier
own_done key (turns k moment came) done earlier = (if nat_eq key k then done else []) ++ earlier
own_done key (leaves k number calls end) done earlier = earlier
own_done key passes done earlier = earlier
own_done key (reloads exports) done earlier = earlier
own_done key (settles notes) done earlier = earlier

-- the events of the client of a key since it joined
abbrev pub own_events : ℕ → List Outcome → List Done
own_events key [] = []
own_events key (o ∷ earlier) = own_done key o.change o.done (own_events key earlier)

-- all that was written to the log, and all lines of connections
abbrev pub log_of : List Outcome → List ℕ
log_of [] = []
log_of (o ∷ earlier) = log_of earlier ++ o.log

abbrev pub lines_written : List Outcome → List ℕ
lines_written [] = []
lines_written (o ∷ earlier) = lines_written earlier ++ o.line

-- all lines of these events, or, where the device broke, those before the newest and some first bytes of that
abbrev pub IsCutShort : List Done → List ℕ → Type 0
IsCutShort [] log = ⊥
IsCutShort (d ∷ earlier) log = (n : ℕ) × (n ≤ length (line_bytes d.answer.line)) × (log ≡ lines_of earlier ++ take n (line_bytes d.answer.line))

abbrev pub IsLog : List Done → List ℕ → Type 0
IsLog done log = (log ≡ lines_of done) ⊎ IsCutShort done log

-- each event is from this address, at this moment
abbrev pub AreFrom : Option Addr → Moment → List Done → Type 0
AreFrom addr moment done = AllByRecursion (λ (d : Done). (addr ≡ Some d.event.addr) × (d.event.moment ≡ moment)) done

abbrev pub changes_of : List Outcome → List Change
changes_of outcomes = map (λ (o : Outcome). o.change) outcomes

abbrev pub lines_after : Change → List ℕ → List ℕ
lines_after (joins key number addr) before = before
lines_after (turns key moment came) before = before
lines_after passes before = before
lines_after (reloads exports) before = before
lines_after (settles notes) before = before
lines_after (leaves key number calls end) before = before ++ end_text number calls end

-- the lines of the connections that ended, in their order
abbrev pub end_lines : List Change → List ℕ
end_lines [] = []
end_lines (change ∷ earlier) = lines_after change (end_lines earlier)

-- What came on a connection is what was taken and what is not. What was taken is the records of these events,
-- in their order, and an unfinished rest; what was sent and what is pending is the framed replies to them, in
-- their order, and nothing else.
pub record IsClientServed {L : Type 0} (outgoing : L → Option (List ℕ)) (bytes : List ℕ) (done : List Done) (first now : Standing L) : Type 0 where
  pub taken : List ℕ
  pub bytes_are : bytes ≡ taken ++ now.chunk
  pub serves : IsServed taken done now.connection.progress (device (written outgoing first) (written outgoing now))

-- These bytes came on a client's link, in their order. They are the records of these events, in their order, and a rest. What was written for it is some first bytes of the framed replies to them, in their order. Where it ended since a record is too long, the rest begins with a record that is longer than the limit.
pub record IsPartServed {L : Type 0} (outgoing incoming : L → Option (List ℕ)) (bytes : List ℕ) (done : List Done) (first now : Standing L) : Type 0 where
  pub comes : Shrinks (incoming first.channel.link) bytes (incoming now.channel.link)
  pub rest : List ℕ
  pub cut : AreRecords bytes (map (λ (d : Done). d.event.bytes) (reverse done)) rest
  pub put : List ℕ
  pub unput : List ℕ
  pub replies_are : replies_of done ≡ put ++ unput
  pub wrote : Grows (written outgoing first) put (written outgoing now)
  pub too_long : now.end ≡ Some (Fault TooLong) → ReachesTooLong now.connection.progress.limit rest

-- A client is from the address from which it joined, and served in part. Where no fault of its records has ended it, it is served as if it were alone.
pub record IsSeatServed {L : Type 0} (outgoing incoming : L → Option (List ℕ)) (bytes : List ℕ) (done : List Done) (addr : Option Addr) (now : Standing L) : Type 0 where
  pub first : Standing L
  pub begins : IsNew first
  pub addr_is : addr ≡ Some now.connection.addr
  pub part : IsPartServed outgoing incoming bytes done first now
  pub served : now.connection.ended ≡ false → IsClientServed outgoing bytes done first now

-- who leaves was served like all others, up to its end
pub record HasLeft {L : Type 0} (outgoing incoming : L → Option (List ℕ)) (shared : Bool) (key number calls : ℕ) (end : End) (done : List Done) (log line : List ℕ) (earlier : List Outcome) : Type 0 where
  pub no_events : done ≡ []
  pub part : IsPartOf (end_text number calls end) line
  pub log_is : log ≡ (if shared then line else [])
  pub client : Standing L
  pub calls_are : client.calls ≡ calls
  pub ended : LeavesBy client end
  pub was_served : IsSeatServed outgoing incoming (own_bytes key (changes_of earlier)) (own_events key earlier) (addr_at key (changes_of earlier)) client

-- what a change brings: only a turn has events, each from the client's address and at the turn's moment, and its lines stand in the log; only who leaves has a line of its connection
abbrev pub IsOutcome : {L : Type 0} → (L → Option (List ℕ)) → (L → Option (List ℕ)) → Bool → Change → List Done → List ℕ → List ℕ → List Outcome → Type 0
IsOutcome outgoing incoming shared (joins key number addr) done log line earlier = (done ≡ []) × (log ≡ []) × (line ≡ [])
IsOutcome outgoing incoming shared (turns key moment came) done log line earlier = AreFrom (addr_at key (changes_of earlier)) moment done × IsLog done log × (line ≡ [])
IsOutcome outgoing incoming shared passes done log line earlier = (done ≡ []) × (log ≡ []) × (line ≡ [])
IsOutcome outgoing incoming shared (reloads exports) done log line earlier = (done ≡ []) × (log ≡ []) × (line ≡ [])
IsOutcome outgoing incoming shared (settles notes) done log line earlier = (done ≡ []) × (log ≡ []) × (line ≡ [])
IsOutcome outgoing incoming shared (leaves key number calls end) done log line earlier = HasLeft outgoing incoming shared key number calls end done log line earlier

abbrev pub AreOutcomes : {L : Type 0} → (L → Option (List ℕ)) → (L → Option (List ℕ)) → Bool → List Outcome → Type 0
AreOutcomes outgoing incoming shared [] = Unit {0}
AreOutcomes outgoing incoming shared (o ∷ earlier) = IsOutcome outgoing incoming shared o.change o.done o.log o.line earlier × AreOutcomes outgoing incoming shared earlier

-- These changes are one history and one log. The lines of connections are those of the ones that ended, each whole where none is incomplete. Each client is served as if it were alone.
pub record IsOneHistory {L : Type 0} (outgoing incoming : L → Option (List ℕ)) (shared : Bool) (history : History) (changes : List Change) (old new : ServiceState L) : Type 0 where
  pub outcomes : List Outcome
  pub outcomes_are : changes_of outcomes ≡ changes
  pub are_outcomes : AreOutcomes outgoing incoming shared outcomes
  pub fits : Fits (history_after history outcomes) new.server
  pub log_is : Grows old.log (log_of outcomes) new.log
  pub lines_are : Grows old.lines (lines_written outcomes) new.lines
  pub whole : new.complete ≡ true → (old.complete ≡ true) × (lines_written outcomes ≡ end_lines changes)
  pub seats_served : (key : ℕ) (seat : Seat L) → new.seat key ≡ Some seat → IsSeatServed outgoing incoming (own_bytes key changes) (own_events key outcomes) (addr_at key changes) seat.client

-- Whatever changes a service that begins with no client: all events are one history, in the order of the turns, each judged by the exports in force at its turn, and one log, and each client is served as if it were alone.
abbrev pub ServiceIsOneHistory : {L : Type 0} → (L → Option (List ℕ)) → (L → Option (List ℕ)) → Type 0
ServiceIsOneHistory {L} outgoing incoming = (shared : Bool) (changes : List Change) (old new : ServiceState L) → ((key : ℕ) → old.seat key ≡ None)
    → AreChanges outgoing incoming shared changes old new → (history : History) → Fits history old.server → IsOneHistory outgoing incoming shared history changes old new

-- whatever changes a service whose log has failed, it has failed, and nothing more is written to it
abbrev pub FailedLogsStay : {L : Type 0} → (L → Option (List ℕ)) → (L → Option (List ℕ)) → Type 0
FailedLogsStay {L} outgoing incoming = (shared : Bool) (changes : List Change) (old new : ServiceState L) → AreChanges outgoing incoming shared changes old new → StaysFailed old.broken old.log new.broken new.log
