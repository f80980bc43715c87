-- Events and answers as they are in memory.
use Rattle.std.specs.Prelude.{ℕ, Bool, true, false, List, Option, Some}
use Rattle.std.specs.Option.{option_map}
use Rattle.nfs_server.specs.declared.event.Event as seen
use Rattle.nfs_server.specs.declared.event.Outcome as outcome
use Rattle.nfs_server.specs.declared.event.Handled.{Handled}
use Rattle.nfs_server.specs.declared.event.Handled.TheVariants.{Answered, NoReply}
use Rattle.nfs_exports.specs.declared.export_table.Export.{Export}
use Rattle.nfs_inodes.specs.Tree.{Tree}
use Rattle.nfs_reply_cache.specs.Places.{Replies}
use Rattle.nfs_mount.specs.declared.mount.Mount.{Mount}
use Rattle.nfs_server.specs.Events.{Event, Answer, silence}
use Rattle.nfs_server.specs.Fits.{Held}
use Rattle.nfs_server.specs.declared.audit_line.AuditLine.{AuditLine}

abbrev pub event_of : seen.Event → Event
event_of e = record { addr = e.addr; moment = e.moment; bytes = e.bytes.now }

abbrev pub answer_of : outcome.Outcome → Answer
answer_of o = record { reply = option_map (λ bytes. bytes.now) o.reply; line = o.line }

-- with what stands in the reply buffer, and the line of the last call
abbrev pub reported : List ℕ → Option AuditLine → Answer
reported bytes line = record { reply = Some bytes; line = line }

-- whether a record has no reply
abbrev pub is_silent : Handled → Bool
is_silent Answered = false
is_silent NoReply = true

abbrev pub answered : Handled → List ℕ → Option AuditLine → Answer
answered Answered bytes line = reported bytes line
answered NoReply bytes line = silence

-- the fields of a server
abbrev pub held : Replies → List (List Export) → Tree → List Mount → Option AuditLine → Option (List ℕ) → Held
held kept exports tree mounts line notes = record {
  setup = record { places = kept.most; exports = exports };
  state = record { tree = tree; mounts = mounts };
  kept = kept.places;
  line = line;
  notes = notes;
}
