-- The connections of a server.
use Rattle.std.specs.Prelude.{◌≡◌, ◌≢◌, ℕ, ◌*◌, Bool, false, List, [], Option, None, Some, nat_eq}
use Rattle.std.specs.Map.{lookup}
use Rattle.nfs_rpc.specs.Progress.{Progress, Unfinished}
use Rattle.nfs_rpc.specs.declared.framer.Stage.TheVariants.{Ready, Failed}
use Rattle.nfs_rpc.specs.declared.framer.FrameFault.{FrameFault}
use Rattle.nfs_rpc.specs.declared.framer.FrameFault.TheVariants as frame
use Rattle.nfs_args.specs.Sizes.{max_data}
use Rattle.nfs_exports.specs.declared.addr.Addr.{Addr}
use Rattle.nfs_server.specs.declared.session_fault.SessionFault.{SessionFault}
use Rattle.nfs_server.specs.declared.session_fault.SessionFault.TheVariants as fault
use Rattle.nfs_server.specs.Fits.{Held}

-- a connection: the peer's address, how far its stream is read, and whether a fault ended it
pub record Joined : Type 0 where
  pub addr : Addr
  pub progress : Progress
  pub ended : Bool

-- the most bytes of a record: twice the data of the largest READ or WRITE
abbrev pub max_record_bytes : ℕ
max_record_bytes = 2 * max_data

-- a connection from an address that stands at the beginning of its stream, with no unfinished bytes
pub record IsAtStart (addr : Addr) (j : Joined) : Type 0 where
  pub addr_is : j.addr ≡ addr
  pub limit_is : j.progress.limit ≡ max_record_bytes
  pub begins : Unfinished [] j.progress
  pub goes_on : j.ended ≡ false

-- a server and its connections, each with its number
pub record Open : Type 0 where
  pub server : Held
  pub connections : List (ℕ × Joined)

-- the connection of a number
abbrev pub at : ℕ → Open → Option Joined
at conn o = lookup (nat_eq conn) o.connections

-- whether it is there and a fault ended it
abbrev pub has_ended : Option Joined → Bool
has_ended None = false
has_ended (Some j) = j.ended

-- it is there, and no fault ended it
abbrev pub IsAlive : Option Joined → Type 0
IsAlive None = ⊥
IsAlive (Some j) = j.ended ≡ false

-- the connections of all other numbers are as they were
abbrev pub OthersStay : ℕ → Open → Open → Type 0
OthersStay conn old new = (other : ℕ) → other ≢ conn → at other new ≡ at other old

-- The connection of a number, which had not ended, was fed. What that did to the server and to how far the stream is read is said apart.
pub record IsFed (conn : ℕ) (was : Joined) (old new : Open) (ended : Bool) (Does : Held → Held → Progress → Progress → Type 0) : Type 0 where
  pub now : Joined
  pub there : at conn new ≡ Some now
  pub addr_stays : now.addr ≡ was.addr
  pub limit_stays : now.progress.limit ≡ was.progress.limit
  pub ended_is : now.ended ≡ ended
  pub does : Does old.server new.server was.progress now.progress

-- the fault of a connection whose records can't be read
abbrev pub session_fault : FrameFault → SessionFault
session_fault frame.TooLong = fault.TooLong
session_fault frame.Memory = fault.Memory
session_fault frame.Failed = fault.Ended

-- a reader of records is between two records, or in one: it has neither a whole one nor failed
abbrev pub IsBetween : Progress → Type 0
IsBetween p = (p.stage ≢ Ready) × (p.stage ≢ Failed)
