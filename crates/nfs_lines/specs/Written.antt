-- What was written of a service's lines.
use Rattle.std.specs.Prelude.{◌≡◌, ℕ, ◌≤◌, Bool, true, false, List, [], length, take, Option, Some, None, nat_eq, if◌then◌else◌}
use Rattle.nfs_lines.specs.Queued.{Queued, put_plainly}
use Rattle.nfs_lines.specs.declared.lines.Lines.{Lines}
use Rattle.nfs_xdr.specs.Known.{Grows, StaysFailed}

-- the log of denied calls, the lines of connections where they go elsewhere, each where it is known, whether the log has both, whether its device has failed, and whether no line of a connection was dropped
pub record Written : Type 0 where
  pub log : Option (List ℕ)
  pub lines : Option (List ℕ)
  pub shared : Bool
  pub broken : Bool
  pub complete : Bool

abbrev pub lines_of : {C : Type 0} → (C → Option (List ℕ)) → Bool → Option (Queued C) → Option (List ℕ)
lines_of taken is_plain None = None
lines_of taken is_plain (Some q) = put_plainly taken is_plain q

abbrev pub is_shared : {Q : Type 0} → Option Q → Bool
is_shared None = true
is_shared (Some q) = false

abbrev pub written : {A C : Type 0} → (A → Option (List ℕ)) → (C → Option (List ℕ)) → Lines A C → Written
written log_taken taken l = record {
  log = put_plainly log_taken l.denied.is_plain l.denied.queue;
  lines = lines_of taken l.is_plain l.connections;
  shared = is_shared l.connections;
  broken = l.denied.queue.failed;
  complete = nat_eq l.dropped 0;
}

-- nothing new was written
pub record PassedOn (old new : Written) : Type 0 where
  pub log_is : Grows old.log [] new.log
  pub log_stays : StaysFailed old.broken old.log new.broken new.log
  pub lines_stay : Grows old.lines [] new.lines
  pub shared_stays : new.shared ≡ old.shared
  pub complete_stays : new.complete ≡ old.complete

-- some first bytes of a line of a connection were written, in the log where that has both; all of it where that is said
pub record Wrote (line : List ℕ) (is_whole : Bool) (old new : Written) : Type 0 where
  pub n : ℕ
  pub within : n ≤ length line
  pub log_grows : Grows old.log (if new.shared then take n line else []) new.log
  pub log_stays : StaysFailed old.broken old.log new.broken new.log
  pub lines_grow : Grows old.lines (take n line) new.lines
  pub shared_stays : new.shared ≡ old.shared
  pub whole : is_whole ≡ true → take n line ≡ line

-- a line of a connection was written, in the log where that has both; where it could not be, only some first bytes of it were, or none, and its lines are not complete from then on
pub record Reported (line : List ℕ) (old new : Written) : Type 0 where
  pub n : ℕ
  pub within : n ≤ length line
  pub log_grows : Grows old.log (if new.shared then take n line else []) new.log
  pub log_stays : StaysFailed old.broken old.log new.broken new.log
  pub lines_grow : Grows old.lines (take n line) new.lines
  pub shared_stays : new.shared ≡ old.shared
  pub whole : new.complete ≡ true → (old.complete ≡ true) × (take n line ≡ line)
