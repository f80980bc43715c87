-- What a service is, and what its turns bring.
use Rattle.std.specs.Prelude.{◌≡◌, ◌≢◌, ◌⊎◌, ℕ, ◌+◌, ◌/◌, ◌<◌, ◌≤◌, Bool, false, true, List, [], ◌∷◌, ◌++◌, length, Option, Some, None, IsSome, is_some, option_map}
use Rattle.std.specs.List.{AllByRecursion}
use Rattle.std.specs.declared.net.ip_addr.IpAddr.{IpAddr}
use Rattle.slab.specs.Slab.{Slab, get, Updates, SameValues}
use Rattle.nfs_exports.specs.declared.addr.Addr.{Addr}
use Rattle.nfs_attrs.specs.declared.moment.Moment.{Moment}
use Rattle.nfs_exports.specs.declared.export_table.Export.{Export}
use Rattle.nfs_lines.specs.Written.{Written}
use Rattle.nfs_loop.specs.Journals.{Journal, AreBeside, IsSettled, JournalGoes, noted_by, settles_of}
use Rattle.nfs_loop.specs.Peers.{IsAddrOf}
use Rattle.nfs_loop.specs.Reports.{Report, ready, listener_ready, nothing_ready, came, at, since, IsReported, IsReportedFirst, IsTimeIn, Accounts, ComeBy, KeepExports}
use Rattle.nfs_loop.specs.declared.member.Member.{Member}
use Rattle.nfs_loop.specs.declared.watches.Hold.{Hold}
use Rattle.nfs_loop.specs.declared.watches.Hold.TheVariants.{Lines}
use Rattle.nfs_loop.specs.declared.watches.Watch.{Watch}
use Rattle.nfs_loop.specs.declared.refused_peers.RefusedPeer.{RefusedPeer}
use Rattle.nfs_loop.specs.Refusing.{hold_for}
use Rattle.nfs_loop.specs.Watching.{watch_at, heard_at, hold_at, AllBegin, AllStay, ReleasesBy, SomeMayBeHeld}
use Rattle.nfs_queue.specs.Queues.{is_waiting, with_ready}
use Rattle.nfs_server.specs.Fits.{Held, History}
use Rattle.nfs_serving.specs.Service.{Seat, ServiceState, IsNew, Change, joins, turns, leaves, passes, reloads, settles, AreChanges, IsOneHistory}
use Rattle.nfs_serving.specs.Outgoing.{IsDrained, IsExhausted, IsQuiet}
use Rattle.nfs_serving.specs.Turns.{IsHeld}
use Rattle.nfs_xdr.specs.Known.{StaysFailed}
use Rattle.nfs_xdr.specs.declared.link.Came.{Came}

abbrev pub seat_of : {L : Type 0} → Member L → Seat L
seat_of m = record { number = m.number; client = m.client.value }

abbrev pub seats : {L : Type 0} → Slab (Member L) → ℕ → Option (Seat L)
seats members key = option_map seat_of (get members key)

-- a server, the members, how many have joined, and what was written of lines
pub record Stage (L : Type 0) : Type 0 where
  pub server : Held
  pub members : Slab (Member L)
  pub joined : ℕ
  pub written : Written

abbrev pub stage : {L : Type 0} → Held → Slab (Member L) → ℕ → Written → Stage L
stage server members joined written = record { server = server; members = members; joined = joined; written = written }

abbrev pub state : {L : Type 0} → Stage L → ServiceState L
state s = record { server = s.server; seat = seats s.members; joined = s.joined; log = s.written.log; lines = s.written.lines; broken = s.written.broken; complete = s.written.complete }

-- the keys of those that had turns, in their order
abbrev pub turned : List Change → List ℕ
turned [] = []
turned (joins key number addr ∷ earlier) = turned earlier
turned (turns key moment bytes ∷ earlier) = turned earlier ++ key ∷ []
turned (leaves key number calls end ∷ earlier) = turned earlier
turned (passes ∷ earlier) = turned earlier
turned (reloads exports ∷ earlier) = turned earlier
turned (settles notes ∷ earlier) = turned earlier

-- what is pending for a client, if there is one
abbrev pub pending_of : {L : Type 0} → Option (Seat L) → List ℕ
pending_of None = []
pending_of (Some seat) = seat.client.channel.pending

-- Whoever has its turn and stays sleeps only where it is owed an event or room for lines. Either replies are pending, and where the turn held its replies, some were pending before it. Or none are, and all that was received was taken, and the link reported that nothing more was there; or its next record is held, and so is the client, until the log is not full any more. So a client whose replies were held, and for which none had been pending, does not sleep.
abbrev pub Sleeps : {L : Type 0} → (L → Option (List ℕ)) → (L → ℕ → Came → L → Type 0) → Bool → Option Hold → Option (Seat L) → Option (Seat L) → Type 0
Sleeps incoming reports holds hold was None = Unit {0}
Sleeps incoming reports holds hold was (Some seat) = ((seat.client.channel.pending ≢ []) × (holds ≡ true → pending_of was ≢ []))
    ⊎ ((seat.client.channel.pending ≡ []) × (((seat.client.chunk ≡ []) × IsExhausted incoming reports seat.client.channel.link)
    ⊎ ((hold ≡ Some Lines) × ((moment : Moment) × (server : Held) × (full : Bool) × IsHeld moment seat.client server full))))

-- it waits again, or it sleeps
abbrev pub IsAgain : {L : Type 0} → (L → Option (List ℕ)) → (L → ℕ → Came → L → Type 0) → Bool → Option Hold → ℕ → List ℕ → Option (Seat L) → Option (Seat L) → Type 0
IsAgain incoming reports holds hold key again was seat = (again ≡ key ∷ []) ⊎ ((again ≡ []) × Sleeps incoming reports holds hold was seat)

-- all sit as they sat, but for the one of this key
abbrev pub OthersStay : {L : Type 0} → ℕ → (ℕ → Option (Seat L)) → (ℕ → Option (Seat L)) → Type 0
OthersStay key was seat = (other : ℕ) → other ≢ key → seat other ≡ was other

-- all sit as they sat, but for those of these keys
abbrev pub AllOthersStay : {L : Type 0} → List ℕ → (ℕ → Option (Seat L)) → (ℕ → Option (Seat L)) → Type 0
AllOthersStay keys was seat = (other : ℕ) → is_waiting other keys ≡ false → seat other ≡ was other

-- The first of the queue has its turn, which holds its replies or not. It may wait again then, after all others, or it sleeps, by what is known of the clients then.
abbrev pub TurnsFirst : {L : Type 0} → (L → Option (List ℕ)) → (L → ℕ → Came → L → Type 0) → Bool → List Watch → (ℕ → Option (Seat L)) → (ℕ → Option (Seat L)) → List ℕ → List Change → List ℕ → Type 0
TurnsFirst incoming reports holds watches was seat [] changes queue = (changes ≡ []) × (queue ≡ [])
TurnsFirst incoming reports holds watches was seat (key ∷ rest) changes queue = (turned changes ≡ key ∷ []) × OthersStay key was seat
    × ((again : List ℕ) × (queue ≡ rest ++ again) × IsAgain incoming reports holds (hold_at watches key) key again (was key) (seat key))

-- Those of these keys that are there and don't sleep wait again, in this order, and nobody else does, once each had a turn. The turns held their replies or not, and the first seats are those before them.
abbrev pub WaitAgain : {L : Type 0} → (L → Option (List ℕ)) → (L → ℕ → Came → L → Type 0) → Bool → List Watch → (ℕ → Option (Seat L)) → (ℕ → Option (Seat L)) → List ℕ → List ℕ → Type 0
WaitAgain incoming reports holds watches was seat [] queue = queue ≡ []
WaitAgain incoming reports holds watches was seat (key ∷ keys) queue = ((rest : List ℕ) × (queue ≡ key ∷ rest) × WaitAgain incoming reports holds watches was seat keys rest)
    ⊎ (Sleeps incoming reports holds (hold_at watches key) (was key) (seat key) × WaitAgain incoming reports holds watches was seat keys queue)

-- ---- when a client was heard of

-- Nothing was heard of a client in its turn: nothing is pending for it, all that came was taken, and the link reported that nothing has come.
abbrev pub IsUnheard : {L : Type 0} → (L → ℕ → Came → L → Type 0) → Option (Seat L) → Type 0
IsUnheard reports None = ⊥
IsUnheard reports (Some seat) = (seat.client.channel.pending ≡ []) × (seat.client.chunk ≡ []) × IsQuiet reports seat.client.channel.link

-- Something was heard of a client in its turn: it is gone; it waits again, since more may have come; replies are pending; its next record is held; or the link brought fewer bytes than there was room for, and all were taken.
abbrev pub IsHeard : {L : Type 0} → (L → Option (List ℕ)) → (L → ℕ → Came → L → Type 0) → Bool → Option Hold → Option (Seat L) → Type 0
IsHeard incoming reports waits hold None = Unit {0}
IsHeard incoming reports waits hold (Some seat) = (waits ≡ true)
    ⊎ ((seat.client.channel.pending ≢ [])
    ⊎ ((hold ≡ Some Lines)
    ⊎ ((seat.client.chunk ≡ []) × IsDrained incoming reports seat.client.channel.link)))

-- When each client was heard of, once each of these keys had a turn, and nobody else, and this queue waits now. Either it stays, and in the client's turn, if it had one, nothing was heard of it. Or the client had a turn in which something was heard of it, and it is a time that the clock reported in between.
abbrev pub HeardInTurns : {L : Type 0} → (L → Option (List ℕ)) → (L → ℕ → Came → L → Type 0) → Option (List Report) → Option (List Report) → List ℕ → List ℕ → List Watch → List Watch → (ℕ → Option (Seat L)) → Type 0
HeardInTurns incoming reports reported reported_now keys queue old new seat = (key : ℕ) →
    ((heard_at new key ≡ heard_at old key) × (is_waiting key keys ≡ true → IsUnheard reports (seat key)))
    ⊎ ((is_waiting key keys ≡ true) × IsTimeIn reported (heard_at new key) reported_now × IsHeard incoming reports (is_waiting key queue) (hold_at new key) (seat key))

-- the first of a queue, if anyone waits
abbrev pub first_of : List ℕ → List ℕ
first_of [] = []
first_of (key ∷ rest) = key ∷ []

-- ---- how a service goes on

-- changes by what was reported in between, in which nobody has a turn, and the exports in force stay
abbrev pub WithoutTurns : Option (List Report) → List Change → Option (List Report) → Type 0
WithoutTurns reported changes reported_now = (turned changes ≡ []) × Accounts reported changes reported_now

-- such changes lead from one stage to the other
pub record Goes {L : Type 0} (outgoing incoming : L → Option (List ℕ)) (Such : List Change → Type 0) (old new : Stage L) : Type 0 where
  pub changes : List Change
  pub are_changes : AreChanges outgoing incoming old.written.shared changes (state old) (state new)
  pub shared_stays : new.written.shared ≡ old.written.shared
  pub such : Such changes

-- in these changes turns are taken beside a journal
abbrev pub AreTurnsBeside : {L : Type 0} → (L → Option (List ℕ)) → (L → Option (List ℕ)) → Option Journal → List Change → Stage L → Stage L → Type 0
AreTurnsBeside outgoing incoming journal changes old new = AreBeside outgoing incoming old.written.shared journal changes (state old) (state new)

-- In the midst of a round, with so many turns left: those that waited first have had their turns, and then the rest has, which still waits before all others. Who had its turn waits again after the rest, or sleeps. All others sit as they sat when the turns began, and when they were heard of stays.
pub record InRound {L : Type 0} (incoming : L → Option (List ℕ)) (reports : L → ℕ → Came → L → Type 0) (holds : Bool) (reported reported_now : Option (List Report)) (watched watches : List Watch) (began seat : ℕ → Option (Seat L)) (first queue : List ℕ) (left : ℕ) (changes : List Change) : Type 0 where
  pub rest : List ℕ
  pub again : List ℕ
  pub first_is : first ≡ turned changes ++ rest
  pub queue_is : queue ≡ rest ++ again
  pub left_is : length rest ≡ left
  pub wait_again : WaitAgain incoming reports holds watches began seat (turned changes) again
  pub others_stay : AllOthersStay (turned changes) began seat
  pub heard : HeardInTurns incoming reports reported reported_now (turned changes) again watched watches seat

-- a client of this peer has joined under a key, after so many others
pub record HasJoined {L : Type 0} (key : ℕ) (peer : IpAddr) (old : Slab (Member L)) (joined : ℕ) (new : Slab (Member L)) (now : ℕ) : Type 0 where
  pub member : Member L
  pub free : get old key ≡ None
  pub sits : Updates old new key (Some member)
  pub begins : IsNew member.client.value
  pub addr_is : IsAddrOf peer (Some member.client.value.connection.addr)
  pub number_is : member.number ≡ joined + 1
  pub joined_is : now ≡ member.number

abbrev pub JoinsOrNot : {L : Type 0} → ℕ → IpAddr → Slab (Member L) → ℕ → Slab (Member L) → ℕ → Type 0
JoinsOrNot key peer old joined new now = (SameValues old new × (now ≡ joined)) ⊎ HasJoined key peer old joined new now

-- What is known of a new client: it was heard of when it came, by what the clock reported next, and nothing else was reported; it is held where connections from its address have to wait then.
pub record BeginsToWatch (key : ℕ) (peer : IpAddr) (refused : List RefusedPeer) (reported reported_now : Option (List Report)) (watches : List Watch) : Type 0 where
  pub addr : Addr
  pub addr_is : IsAddrOf peer (Some addr)
  pub millis : ℕ
  pub is_reported : IsReported reported (since millis) reported_now
  pub watch_is : watch_at watches key ≡ record { heard = millis / 1000; hold = hold_for addr millis refused; is_closing = false }

-- the queue once something is reported of a key: its client waits after the others, if there is one, unless it waits already or gets no turn for now
abbrev pub noted : {M : Type 0} → Option M → Option Hold → ℕ → List ℕ → List ℕ
noted member None key queue = with_ready member key queue
noted member (Some hold) key queue = queue

-- whoever was reported ready waits, or gets no turn for now, or is not there
abbrev pub IsNoted : {M : Type 0} → Slab M → List Watch → List ℕ → Report → Type 0
IsNoted members watches queue (ready key) = (get members key ≡ None) ⊎ (IsSome (hold_at watches key) ⊎ (is_waiting key queue ≡ true))
IsNoted members watches queue listener_ready = Unit {0}
IsNoted members watches queue nothing_ready = Unit {0}
IsNoted members watches queue (came key peer) = Unit {0}
IsNoted members watches queue (at moment) = Unit {0}
IsNoted members watches queue (since millis) = Unit {0}

-- all that waited wait in their order, and after them those of which something was reported
pub record Notes {M : Type 0} (members : Slab M) (watches : List Watch) (old new : List ℕ) (reported reported_now : Option (List Report)) : Type 0 where
  pub added : List ℕ
  pub after : new ≡ old ++ added
  pub all_noted : (before : List Report) → reported ≡ Some before → (news : List Report) × (reported_now ≡ Some (news ++ before)) × AllByRecursion (IsNoted members watches new) news

-- the newest that was reported is that nothing more is ready, or so much was reported
abbrev pub IsAsked : ℕ → List Report → Type 0
IsAsked most [] = most ≡ 0
IsAsked most (t ∷ earlier) = (t ≡ nothing_ready) ⊎ (length (t ∷ earlier) ≡ most)

-- how many times a round asks what is ready, at most
abbrev pub most_asked : ℕ
most_asked = 1024

-- it was asked what is ready until nothing more was, or so many times
abbrev pub AsksAll : ℕ → Option (List Report) → Option (List Report) → Type 0
AsksAll most reported reported_now = (before : List Report) → reported ≡ Some before → (news : List Report) × (reported_now ≡ Some (news ++ before)) × IsAsked most news

-- ---- silent clients

-- nothing was heard of a key's client since then, and it could have been: it waits for no turn, and is not held
pub record IsSilent (watches : List Watch) (queue : List ℕ) (start key : ℕ) : Type 0 where
  pub not_heard : heard_at watches key < start
  pub not_held : hold_at watches key ≡ None
  pub not_waiting : is_waiting key queue ≡ false

-- only the client of this key leaves, and only where it has been silent since then
abbrev pub LeavesIfSilent : {M : Type 0} → List Watch → List ℕ → ℕ → ℕ → Slab M → Slab M → Type 0
LeavesIfSilent watches queue key start old new = (k : ℕ) → (get new k ≡ get old k) ⊎ ((k ≡ key) × (get new k ≡ None) × IsSilent watches queue start key)

-- Who leaves has been silent: so many seconds after the service began, nothing was heard of it for more than so many.
abbrev pub OnlySilentLeave : {M : Type 0} → List Watch → List ℕ → Option ℕ → ℕ → Slab M → Slab M → Type 0
OnlySilentLeave watches queue None seconds old new = (key : ℕ) → get new key ≡ get old key
OnlySilentLeave watches queue (Some idle) seconds old new = (key : ℕ) → (get new key ≡ get old key) ⊎ ((get new key ≡ None) × ((start : ℕ) × (start + idle ≡ seconds) × IsSilent watches queue start key))

-- Whoever is silent leaves: nobody stays of whom nothing was heard for longer than so many seconds, by this time. Those that wait for a turn stay, and those that are held, since nothing could be heard of them. Where it was looked for silent ones in this second already, the next look comes in another.
abbrev pub AllSilentLeave : {M : Type 0} → List Watch → List ℕ → Option ℕ → ℕ → ℕ → Slab M → Type 0
AllSilentLeave watches queue None seconds looked new = Unit {0}
AllSilentLeave watches queue (Some idle) seconds looked new = seconds ≢ looked → (start : ℕ) → start + idle ≡ seconds → (key : ℕ) → IsSilent watches queue start key → get new key ≡ None

-- when it was looked for silent ones last, once it was looked at this time
abbrev pub looked_after : Option ℕ → ℕ → ℕ → ℕ
looked_after None seconds looked = looked
looked_after (Some idle) seconds looked = seconds

-- Those that are silent leave, and nobody else, by the time that the clock reported before anything else was.
pub record SilentLeave {M : Type 0} (watches : List Watch) (queue : List ℕ) (idle : Option ℕ) (looked : ℕ) (reported reported_now : Option (List Report)) (looks : ℕ) (old new : Slab M) : Type 0 where
  pub millis : ℕ
  pub is_reported : IsReportedFirst reported (since millis) reported_now
  pub only : OnlySilentLeave watches queue idle (millis / 1000) old new
  pub all : AllSilentLeave watches queue idle (millis / 1000) looked new
  pub looks_is : looks ≡ looked_after idle (millis / 1000) looked

-- ---- the rounds of the loop

-- The keys of those that wait, the next one first, and what is known of the clients; for how many seconds a client may be silent, if there is a limit, and when silent ones were last looked for, in seconds since the service began; whether the log is full; and the journal, if there is one.
pub record Schedule : Type 0 where
  pub queue : List ℕ
  pub watches : List Watch
  pub idle : Option ℕ
  pub looked : ℕ
  pub full : Bool
  pub journal : Option Journal

abbrev pub schedule : List ℕ → List Watch → Option ℕ → ℕ → Bool → Option Journal → Schedule
schedule queue watches idle looked full journal = record { queue = queue; watches = watches; idle = idle; looked = looked; full = full; journal = journal }

-- the log is full only where its device has not failed, and at least 4 MiB of lines were put into it, where that is known
abbrev pub MayBeFull : Bool → Written → Type 0
MayBeFull full written = full ≡ true → (written.broken ≡ false) × ((log : List ℕ) → written.log ≡ Some log → 4194304 ≤ length log)

-- the change by which these exports are put in force, if any are
abbrev pub reload_of : Option (List (List Export)) → List Change
reload_of None = []
reload_of (Some exports) = reloads exports ∷ []

-- A round: the network is asked what is ready. Those of which something was reported wait after those that waited, unless they get no turn for now; others may have joined since; and after them wait those whose hold is over, by what the clock reported once these had come and before the moment of any turn, and as the log was full or not. Nothing was written up to there. Then each who waits has one turn, in that order, and at the end it waits again, sleeps or is gone. All others stay, and only those that had a turn are held who were not before. When each was heard of stays, but for two: for one that joins, and for one of which something was heard in its turn, it is a time that the clock reported then. At the end of the round, once all turns are over, those that are silent leave, and nobody else does there, by the time that the clock reported then. The changes up to there lead to those who are looked at, and nobody has a turn in the others. At the very end other exports may be put in force, and only there. Where there is a journal, the server has nothing to note when the round begins; what it notes comes to last in the journal between turns, so that no turn begins where more than 2 MiB are noted, and after all else, unless that fails; and nothing goes out in a turn but what was pending when it began, so that whoever is owed replies after its turn, and was owed none before it, waits again.
pub record IsRound {L : Type 0} (outgoing incoming : L → Option (List ℕ)) (reports : L → ℕ → Came → L → Type 0) (changes : List Change) (reported reported_now : Option (List Report)) (from to : Schedule) (old new : Stage L) : Type 0 where
  pub are_changes : AreChanges outgoing incoming old.written.shared changes (state old) (state new)
  pub shared_stays : new.written.shared ≡ old.written.shared
  pub accounts : ComeBy reported changes reported_now
  pub between : Option (List Report)
  pub ready_queue : List ℕ
  pub notes : Notes old.members from.watches from.queue ready_queue reported between
  pub asked : AsksAll most_asked reported between
  pub gathered : Stage L
  pub before : Option (List Report)
  pub joining : List Change
  pub joining_leads : AreChanges outgoing incoming old.written.shared joining (state old) (state gathered)
  pub joining_accounts : WithoutTurns between joining before
  pub nothing_written : gathered.written ≡ old.written
  pub held : List Watch
  pub all_stay : AllStay old.members from.watches gathered.members held
  pub all_begin : AllBegin old.members between before gathered.members held
  pub after : Option (List Report)
  pub left : List Watch
  pub first : List ℕ
  pub releases : ReleasesBy gathered.members from.full before after held left ready_queue first
  pub full_is : MayBeFull from.full old.written
  pub turned_are : turned changes ≡ first
  pub wait_again : WaitAgain incoming reports (is_some from.journal) to.watches (seats gathered.members) (seats new.members) first to.queue
  pub some_held : SomeMayBeHeld first left to.watches
  pub served : Stage L
  pub looks_at : Option (List Report)
  pub turning : List Change
  pub turning_leads : AreChanges outgoing incoming old.written.shared turning (state gathered) (state served)
  pub turning_accounts : Accounts after turning looks_at
  pub journal_turned : Option Journal
  pub journal_in_turns : JournalGoes from.journal (noted_by turning) journal_turned
  pub turning_beside : AreTurnsBeside outgoing incoming journal_turned turning gathered served
  pub others_stay : AllOthersStay first (seats gathered.members) (seats served.members)
  pub some_heard : HeardInTurns incoming reports after looks_at first to.queue left to.watches (seats served.members)
  pub serving : List Change
  pub serving_leads : AreChanges outgoing incoming old.written.shared serving (state old) (state served)
  pub serving_accounts : Accounts reported serving looks_at
  pub serving_is : serving ≡ turning ++ joining
  pub ending : List Change
  pub ended : Stage L
  pub ending_leads : AreChanges outgoing incoming old.written.shared ending (state served) (state ended)
  pub ending_accounts : WithoutTurns looks_at ending reported_now
  pub exports : Option (List (List Export))
  pub reloaded : Stage L
  pub reload_leads : AreChanges outgoing incoming old.written.shared (reload_of exports) (state ended) (state reloaded)
  pub settled_first : IsSettled from.journal old.server
  pub noted : Option (List ℕ)
  pub settle_leads : AreChanges outgoing incoming old.written.shared (settles_of noted) (state reloaded) (state new)
  pub journal_goes : JournalGoes journal_turned noted to.journal
  pub changes_are : changes ≡ settles_of noted ++ (reload_of exports ++ (ending ++ serving))
  pub silent : SilentLeave to.watches to.queue from.idle from.looked looks_at reported_now to.looked served.members new.members
  pub idle_stays : to.idle ≡ from.idle
  pub log_stays : StaysFailed old.written.broken old.written.log new.written.broken new.written.log

-- one round after another, the newest first: whoever waits or is held at the end of one is so when the next begins
abbrev pub AreRounds : {L : Type 0} → (L → Option (List ℕ)) → (L → Option (List ℕ)) → (L → ℕ → Came → L → Type 0) → List (List Change) → Option (List Report) → Schedule → Stage L → Option (List Report) → Schedule → Stage L → Type 0
AreRounds outgoing incoming reports [] reported from old reported_now to new = (new ≡ old) × (reported_now ≡ reported) × (to ≡ from)
AreRounds {L} outgoing incoming reports (changes ∷ earlier) reported from old reported_now to new = (before : Option (List Report)) × (mid : Schedule) × (between : Stage L)
    × AreRounds outgoing incoming reports earlier reported from old before mid between × IsRound outgoing incoming reports changes before reported_now mid to between new

-- the changes of rounds
abbrev pub changes_of : List (List Change) → List Change
changes_of [] = []
changes_of (changes ∷ earlier) = changes ++ changes_of earlier

-- Rounds, and after them changes in which nobody has a turn, and the exports in force stay. Whether the log was full at the end of the last round is said apart, since lines may have been passed on since.
pub record Rounds {L : Type 0} (outgoing incoming : L → Option (List ℕ)) (reports : L → ℕ → Came → L → Type 0) (reported : Option (List Report)) (from to : Schedule) (old : Stage L) (changes : List Change) : Type 0 where
  pub rounds : List (List Change)
  pub reported_now : Option (List Report)
  pub last : Stage L
  pub full : Bool
  pub are_rounds : AreRounds outgoing incoming reports rounds reported from old reported_now (record to { full = full }) last
  pub after : List Change
  pub no_turns : turned after ≡ []
  pub no_reload : KeepExports after
  pub changes_are : changes ≡ after ++ changes_of rounds

-- What changed, by what was reported, is one history and one log, and each client is served as if it were alone. Each round gives one turn to each who waits, and at its end those that are silent leave.
pub record Lived {L : Type 0} (outgoing incoming : L → Option (List ℕ)) (reports : L → ℕ → Came → L → Type 0) (history : History) (reported reported_now : Option (List Report)) (from to : Schedule) (old new : Stage L) : Type 0 where
  pub changes : List Change
  pub one_history : IsOneHistory outgoing incoming old.written.shared history changes (state old) (state new)
  pub accounts : ComeBy reported changes reported_now
  pub rounds : Rounds outgoing incoming reports reported from to old changes
