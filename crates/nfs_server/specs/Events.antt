-- Events, answers, and what a server may choose.
use Rattle.std.specs.Prelude.{ℕ, Bool, List, Option, None, Some}
use Rattle.nfs_attrs.specs.declared.moment.Moment.{Moment}
use Rattle.nfs_exports.specs.declared.addr.Addr.{Addr}
use Rattle.nfs_server.specs.declared.audit_line.AuditLine.{AuditLine}

-- a record from an address at a moment
pub record Event : Type 0 where
  pub addr : Addr
  pub moment : Moment
  pub bytes : List ℕ

-- what an event is answered: the reply, if there is one, and the line of a call that was denied
pub record Answer : Type 0 where
  pub reply : Option (List ℕ)
  pub line : Option AuditLine

-- the one thing about an event that nothing before it tells: whether there is memory
pub record Choice : Type 0 where
  pub has_memory : Bool

-- an event that was answered, and the choice that was made
pub record Done : Type 0 where
  pub event : Event
  pub choice : Choice
  pub answer : Answer

abbrev pub silence : Answer
silence = record { reply = None; line = None }

-- a reply, and no line
abbrev pub granted : List ℕ → Answer
granted reply = record { reply = Some reply; line = None }

-- a reply, and its line
abbrev pub denied : List ℕ → AuditLine → Answer
denied reply line = record { reply = Some reply; line = Some line }
