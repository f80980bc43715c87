-- The records that the lines of a script send.
use Rattle.std.specs.Prelude.{◌≡◌, ℕ, ◌-◌, List, [], ◌∷◌, ◌++◌, map, slice_get, nat_lt, Option, Some, None, option_map, unwrap_or, if◌then◌else◌}
use Rattle.std.specs.Option.{option_flatten}
use Rattle.nfs_attrs.specs.declared.moment.Moment.{Moment}
use Rattle.nfs_exports.specs.declared.addr.Addr.{Addr}
use Rattle.nfs_replay.specs.declared.queued_call.QueuedCall.{QueuedCall}
use Rattle.nfs_replay.specs.declared.sent.SentRecord.{SentRecord}
use Rattle.nfs_replay.specs.declared.sent.SentRecords.{SentRecords}

-- a record: who sends it, when it comes, and its bytes
pub record Sent : Type 0 where
  pub addr : Addr
  pub moment : Moment
  pub bytes : List ℕ

abbrev pub sent_from : Addr → Moment → List ℕ → Sent
sent_from addr moment bytes = record { addr = addr; moment = moment; bytes = bytes }

-- what the line of a number sent, where these are what the lines sent, from the first on
abbrev pub sent_at : ℕ → List (Option Sent) → Option Sent
sent_at line sent = if nat_lt 0 line then option_flatten (slice_get sent (line - 1)) else None

-- the same bytes, at another moment and from another address where they are given
abbrev pub sent_again : Option Moment → Option Addr → Sent → Sent
sent_again moment addr first = sent_from (unwrap_or addr first.addr) (unwrap_or moment first.moment) first.bytes

-- ---- in the memory of a run

abbrev pub sent_of : SentRecord → Sent
sent_of r = sent_from r.addr r.moment r.bytes.items

-- what the lines sent, as far as it is kept
abbrev pub kept_of : SentRecords → List (Option Sent)
kept_of s = map (option_map sent_of) s.records.items

-- what one line more sent is kept, in a run that keeps it
pub record Keeps (old : SentRecords) (sent : Option Sent) (new : SentRecords) : Type 0 where
  pub is_kept : new.is_kept ≡ old.is_kept
  pub kept : kept_of new ≡ (if old.is_kept then kept_of old ++ sent ∷ [] else kept_of old)

abbrev pub queued_of : QueuedCall → Sent
queued_of call = sent_from call.addr call.moment call.bytes.items

-- a record that is sent is the last of the calls that wait
abbrev pub Waits : Option Sent → List QueuedCall → Type 0
Waits None calls = Unit {0}
Waits (Some sent) calls = (earlier : List QueuedCall) × (call : QueuedCall) × (calls ≡ earlier ++ call ∷ []) × (queued_of call ≡ sent)
