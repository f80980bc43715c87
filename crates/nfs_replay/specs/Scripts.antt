-- What the lines of a script send when they are run, and at which one a run stops.
use Rattle.std.specs.Prelude.{◌≡◌, ◌⊎◌, ⊤, ℕ, ◌+◌, List, [], ◌∷◌, ◌++◌, length, min, Option, Some, None, option_map, IsSome, Result, Ok, Err, nat_eq, if◌then◌else◌}
use Rattle.hex.specs.Hex.{decode_of}
use Rattle.hex.specs.declared.error.FromHexError.{FromHexError}
use Rattle.nfs_ask.specs.Asks as asks
use Rattle.nfs_ask.specs.Asks.{AsksBy, IsWanted, has_long_word, passed_by}
use Rattle.nfs_ask.specs.Faults.{OnlyWithout}
use Rattle.nfs_ask.specs.Words.{long_number_of}
use Rattle.nfs_ask.specs.declared.ask.Ask as words
use Rattle.nfs_ask.specs.declared.fault.AskFault.{AskFault}
use Rattle.nfs_ask.specs.declared.fault.AskFault.TheVariants as fault
use Rattle.nfs_ask.specs.declared.fault.Wanted.TheVariants as wanted
use Rattle.nfs_handles.specs.Handles.{handle_at}
use Rattle.nfs_inodes.specs.Reading.{numbered_files}
use Rattle.nfs_inodes.specs.Tree.{Tree}
use Rattle.nfs_attrs.specs.declared.moment.Moment.{Moment}
use Rattle.nfs_exports.specs.declared.addr.Addr.{Addr}
use Rattle.nfs_replay.specs.Orders.{Asked, Nothing, Attach, Feed, Detach, Call, Ask, Again, Show, order_in}
use Rattle.nfs_load.specs.Loadings.{number_after}
use Rattle.nfs_replay.specs.Sending.{Keeps, Sent, Waits, kept_of, sent_again, sent_at, sent_from, sent_of}
use Rattle.nfs_replay.specs.declared.queued_call.QueuedCall.{QueuedCall}
use Rattle.nfs_replay.specs.declared.sent.SentRecord.{SentRecord}
use Rattle.nfs_replay.specs.declared.sent.SentRecords.{SentRecords}
use Rattle.nfs_replay.specs.declared.line_fault.LineFault.{LineFault}
use Rattle.nfs_replay.specs.declared.line_fault.LineFault.TheVariants.{OfLine, OfRun}
use Rattle.nfs_replay.specs.declared.fault.RunFault.TheVariants as run
use Rattle.nfs_ask.specs.declared.script_fault.LineCause.{LineCause}
use Rattle.nfs_ask.specs.declared.script_fault.LineCause.TheVariants.{BadLine, BadHex, NoHandle, NoCall, BadWord, NoFile}
use Rattle.nfs_ask.specs.declared.script_fault.ScriptFault.{ScriptFault}
use Rattle.nfs_ask.specs.declared.script_fault.ScriptFault.TheVariants as script
use Rattle.nfs_text.specs.Lines.{lines}
use Rattle.nfs_xdr.specs.Reading.{◌>>=◌}

-- ---- bytes

abbrev pub or_cause : {A : Type 0} → LineCause → Option A → Result A LineCause
or_cause cause None = Err cause
or_cause cause (Some value) = Ok value

abbrev pub or_bad : Result (List ℕ) FromHexError → Result (List ℕ) LineCause
or_bad (Ok bytes) = Ok bytes
or_bad (Err e) = Err BadHex

-- two hexadecimal digits for each byte
abbrev pub digits_in : List ℕ → Result (List ℕ) LineCause
digits_in digits = or_bad (decode_of digits)

-- the handle of a file of a tree, by its number
abbrev pub handle_in : Tree → List ℕ → Result (List ℕ) LineCause
handle_in t digits = do
  number ← or_cause BadHex (long_number_of digits)
  or_cause NoHandle (handle_at (numbered_files t) number)

-- a word is digits, or `@` and a number
abbrev pub word_in : Tree → List ℕ → Result (List ℕ) LineCause
word_in t [] = digits_in []
word_in t (byte ∷ rest) = if nat_eq byte 64 then handle_in t rest else digits_in (byte ∷ rest)

-- what words say, from left to right, or the first cause
abbrev pub bytes_in : Tree → List (List ℕ) → Result (List ℕ) LineCause
bytes_in t [] = Ok []
bytes_in t (word ∷ left) = do
  first ← word_in t word
  others ← bytes_in t left
  Ok (first ++ others)

-- what was read follows some bytes
abbrev pub onto : List ℕ → Result (List ℕ) LineCause → Result (List ℕ) LineCause
onto before (Ok bytes) = Ok (before ++ bytes)
onto before (Err cause) = Err cause

-- A fault of a line has its cause, and one of the machine may come at any time.
abbrev pub FaultsBy : (LineCause → Type 0) → LineFault → Type 0
FaultsBy Cause (OfLine cause) = Cause cause
FaultsBy Cause (OfRun e) = ⊤

abbrev pub IsCauseOf : {A : Type 0} → Result A LineCause → LineFault → Type 0
IsCauseOf found e = FaultsBy (λ cause. found ≡ Err cause) e

-- ---- calls in words

-- the number of the call of a line, where its words give none
abbrev pub xid_of : ℕ → ℕ
xid_of line = min line 4294967295

-- the words ask for a call, and this is its record in a tree
pub record HasRecord (t : Tree) (xid : ℕ) (left : List (List ℕ)) (bytes : List ℕ) : Type 0 where
  pub ask : words.Ask
  pub asks_so : AsksBy left ask
  pub record_is : asks.record_of t ask xid ≡ Some bytes

-- they ask for a call that has none, for this reason
pub record HasNoRecord (t : Tree) (xid : ℕ) (left : List (List ℕ)) (e : AskFault) : Type 0 where
  pub ask : words.Ask
  pub asks_so : AsksBy left ask
  pub without : OnlyWithout (asks.record_of t ask xid) (has_long_word t ask) e

abbrev pub IsRefused : Tree → ℕ → List (List ℕ) → AskFault → Type 0
IsRefused t xid left e = IsWanted (passed_by left) e ⊎ HasNoRecord t xid left e

-- the fault of a line, where this is that of its words
abbrev pub fault_of : AskFault → LineFault
fault_of (fault.Word place wanted.File) = OfLine (NoFile place)
fault_of (fault.Word place other) = OfLine (BadWord place other)
fault_of fault.Memory = OfRun run.Memory

-- ---- lines, in the tree that the server then has

-- words say these bytes, or none for a cause
abbrev pub SayBytes : List (List ℕ) → List ℕ → Type 0
SayBytes left bytes = (t : Tree) × (bytes_in t left ≡ Ok bytes)

abbrev pub SayNone : List (List ℕ) → LineCause → Type 0
SayNone left cause = (t : Tree) × (bytes_in t left ≡ Err cause)

-- words ask for the call of this record, on the line of a number, or for none for a cause
abbrev pub AskForCall : ℕ → List (List ℕ) → List ℕ → Type 0
AskForCall line left bytes = (t : Tree) × HasRecord t (xid_of line) left bytes

abbrev pub AskForNone : ℕ → List (List ℕ) → LineCause → Type 0
AskForNone line left cause = (t : Tree) × (e : AskFault) × IsRefused t (xid_of line) left e × (fault_of e ≡ OfLine cause)

-- a record is sent from an address at a moment, with bytes of which this holds
abbrev pub SendsFrom : Addr → Moment → (List ℕ → Type 0) → Option Sent → Type 0
SendsFrom addr moment Holds sent = (bytes : List ℕ) × Holds bytes × (sent ≡ Some (sent_from addr moment bytes))

-- What is asked for by the line of a number can be run, where the lines before sent these records or none, and sends this one or none.
abbrev pub Sends : ℕ → List (Option Sent) → Option Asked → Option Sent → Type 0
Sends line before None sent = ⊥
Sends line before (Some Nothing) sent = sent ≡ None
Sends line before (Some (Attach conn addr)) sent = sent ≡ None
Sends line before (Some (Feed conn moment left)) sent = (sent ≡ None) × (bytes : List ℕ) × SayBytes left bytes
Sends line before (Some (Detach conn)) sent = sent ≡ None
Sends line before (Some (Call addr moment left)) sent = SendsFrom addr moment (SayBytes left) sent
Sends line before (Some (Ask addr moment left)) sent = SendsFrom addr moment (AskForCall line left) sent
Sends line before (Some (Again number moment addr)) sent = IsSome sent × (option_map (sent_again moment addr) (sent_at number before) ≡ sent)
Sends line before (Some Show) sent = sent ≡ None

-- It can't, for a cause.
abbrev pub HasCause : ℕ → List (Option Sent) → Option Asked → LineCause → Type 0
HasCause line before None cause = cause ≡ BadLine
HasCause line before (Some Nothing) cause = ⊥
HasCause line before (Some (Attach conn addr)) cause = ⊥
HasCause line before (Some (Feed conn moment left)) cause = SayNone left cause
HasCause line before (Some (Detach conn)) cause = ⊥
HasCause line before (Some (Call addr moment left)) cause = SayNone left cause
HasCause line before (Some (Ask addr moment left)) cause = AskForNone line left cause
HasCause line before (Some (Again number moment addr)) cause = (cause ≡ NoCall) × (sent_at number before ≡ None)
HasCause line before (Some Show) cause = ⊥

-- the next line after those that sent these
abbrev pub IsRun : List (Option Sent) → List ℕ → Option Sent → Type 0
IsRun before line sent = Sends (length before + 1) before (order_in line) sent

abbrev pub IsFaulty : List (Option Sent) → List ℕ → LineCause → Type 0
IsFaulty before line cause = HasCause (length before + 1) before (order_in line) cause

-- ---- over what is kept, for the line after so many

abbrev pub SendsBy : ℕ → SentRecords → Option Asked → Option SentRecord → Type 0
SendsBy count kept asked sent = Sends (number_after count) (kept_of kept) asked (option_map sent_of sent)

abbrev pub FailsBy : ℕ → SentRecords → Option Asked → LineCause → Type 0
FailsBy count kept asked cause = HasCause (number_after count) (kept_of kept) asked cause

-- A line is run: what it sends waits, and is kept.
pub record Runs (count : ℕ) (old : SentRecords) (asked : Option Asked) (new : SentRecords) (calls : List QueuedCall) : Type 0 where
  pub sent : Option Sent
  pub sends : Sends (number_after count) (kept_of old) asked sent
  pub keeps : Keeps old sent new
  pub waits : Waits sent calls

-- ---- scripts

-- lines are run one after another, after those that sent the first of these, and send these themselves
abbrev pub AreRun : List (Option Sent) → List (List ℕ) → List (Option Sent) → Type 0
AreRun before [] [] = ⊤
AreRun before [] (sent ∷ others) = ⊥
AreRun before (line ∷ left) [] = ⊥
AreRun before (line ∷ left) (sent ∷ others) = IsRun before line sent × AreRun (before ++ sent ∷ []) left others

-- all of them are run
abbrev pub AllRun : List (List ℕ) → Type 0
AllRun lines = (sent : List (Option Sent)) × AreRun [] lines sent

-- the first line that is faulty: those before it were run
pub record IsFirst (all : List (List ℕ)) (number : ℕ) (cause : LineCause) : Type 0 where
  pub before : List (List ℕ)
  pub line : List ℕ
  pub after : List (List ℕ)
  pub all_are : all ≡ before ++ line ∷ after
  pub number_is : number ≡ length before + 1
  pub sent : List (Option Sent)
  pub are_run : AreRun [] before sent
  pub is_faulty : IsFaulty sent line cause

-- A run ends at its first faulty line, or by the machine.
abbrev pub StopsBy : List ℕ → ScriptFault → Type 0
StopsBy text (script.Line number cause) = IsFirst (lines text) number cause
StopsBy text script.Write = ⊤
StopsBy text script.Memory = ⊤

-- The fault of a line is reported by its number, unless the machine fails first.
abbrev pub IsReported : LineFault → ℕ → ScriptFault → Type 0
IsReported e number (script.Line line cause) = (e ≡ OfLine cause) × (line ≡ number)
IsReported e number script.Write = ⊤
IsReported e number script.Memory = ⊤
