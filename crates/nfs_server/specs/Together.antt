-- What comes on several connections, in whatever order.
use Rattle.std.specs.Prelude.{◌≡◌, ◌≢◌, ℕ, List, [], ◌∷◌, ◌++◌, map, reverse, Option, Result, IsOk, if◌then◌else◌, nat_eq}
use Rattle.nfs_rpc.specs.Progress.{Progress, Unfinished}
use Rattle.nfs_rpc.specs.Records.{AreRecords}
use Rattle.nfs_server.specs.Events.{Done}
use Rattle.nfs_server.specs.Feeding.{Device, device, replies_of, Feeds}
use Rattle.nfs_server.specs.Fits.{Held, History, Fits}
use Rattle.nfs_server.specs.Runs.{longer}
use Rattle.nfs_server.specs.declared.session_fault.SessionFault.{SessionFault}
use Rattle.nfs_server.specs.declared.taking.Origin.{Origin}
use Rattle.nfs_xdr.specs.Known.{Grows}

-- a chunk that came on a connection, and what its feed answered
pub record Feed : Type 0 where
  pub conn : ℕ
  pub origin : Origin
  pub chunk : List ℕ
  pub result : Result ℕ SessionFault

-- a server, how far the stream of each connection is read, and what was written to it, where that is known
pub record Stand : Type 0 where
  pub server : Held
  pub progress : ℕ → Progress
  pub sent : ℕ → Option (List ℕ)

-- one connection was fed, which leaves the others
pub record IsOneFeed (f : Feed) (old new : Stand) : Type 0 where
  pub log_before : Option (List ℕ)
  pub log_after : Option (List ℕ)
  pub feeds : Feeds f.origin f.chunk f.result old.server new.server (old.progress f.conn) (new.progress f.conn) (device log_before log_after) (device (old.sent f.conn) (new.sent f.conn))
  pub progress_stays : (other : ℕ) → other ≢ f.conn → new.progress other ≡ old.progress other
  pub sent_stays : (other : ℕ) → other ≢ f.conn → new.sent other ≡ old.sent other

-- no feed of the connection brought a fault
abbrev pub IsUnbroken : ℕ → List Feed → Type 0
IsUnbroken conn [] = Unit {0}
IsUnbroken conn (f ∷ earlier) = (conn ≡ f.conn → IsOk f.result) × IsUnbroken conn earlier

-- one feed after another, the newest first, none on a connection that a fault had ended
abbrev pub AreFeeds : List Feed → Stand → Stand → Type 0
AreFeeds [] old new = new ≡ old
AreFeeds (f ∷ earlier) old new = (between : Stand) × AreFeeds earlier old between × IsUnbroken f.conn earlier × IsOneFeed f between new

-- each feed with the events that its bytes made whole, the newest of all first
abbrev pub all_events : List (Feed × List Done) → List Done
all_events [] = []
all_events (a ∷ earlier) = a.1 ++ all_events earlier

-- those of one connection
abbrev pub own_events : ℕ → List (Feed × List Done) → List Done
own_events conn [] = []
own_events conn (a ∷ earlier) = (if nat_eq conn a.0.conn then a.1 else []) ++ own_events conn earlier

-- the bytes that came on it
abbrev pub own_bytes : ℕ → List Feed → List ℕ
own_bytes conn [] = []
own_bytes conn (f ∷ earlier) = own_bytes conn earlier ++ (if nat_eq conn f.conn then f.chunk else [])

-- Bytes of one stream are the records of these events, in their order, and an unfinished rest. The framed
-- replies to them were written in their order, and nothing else.
pub record IsServed (bytes : List ℕ) (done : List Done) (p : Progress) (sent : Device) : Type 0 where
  pub rest : List ℕ
  pub cut : AreRecords bytes (map (λ (d : Done). d.event.bytes) (reverse done)) rest
  pub unfinished : Unfinished rest p
  pub wrote : Grows sent.before (replies_of done) sent.after

-- The events of all feeds, feed by feed, make the history longer. Each connection without a fault is served as if it were alone.
pub record AreTogether (history : History) (texts : ℕ → List ℕ) (feeds : List Feed) (old new : Stand) : Type 0 where
  pub fed : List (Feed × List Done)
  pub feeds_are : map (λ (a : Feed × List Done). a.0) fed ≡ feeds
  pub fits : Fits (longer history (all_events fed)) new.server
  pub served : (conn : ℕ) → IsUnbroken conn feeds
      → IsServed (texts conn ++ own_bytes conn feeds) (own_events conn fed) (new.progress conn) (device (old.sent conn) (new.sent conn))

-- Feeds on any number of connections are one history, in the order in which records become whole.
abbrev pub FeedsAreOneHistory : Type 0
FeedsAreOneHistory = (feeds : List Feed) (old new : Stand) → AreFeeds feeds old new → (history : History) → Fits history old.server
    → (texts : ℕ → List ℕ) → ((conn : ℕ) → Unfinished (texts conn) (old.progress conn))
    → AreTogether history texts feeds old new
