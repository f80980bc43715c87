-- Notes: the entries of what a server has answered, until they last in its journal.
use Rattle.std.specs.Prelude.{◌≡◌, ℕ, ◌+◌, true, List, [], ◌++◌, length, nat_lt, Option, Some, None, if◌then◌else◌}
use Rattle.nfs_rpc.specs.Records.{fragment}
use Rattle.nfs_server.specs.Entries.{entry_text, journal_text, reply_bytes}
use Rattle.nfs_server.specs.Events.{Event, Answer, Done}
use Rattle.nfs_server.specs.Noted.{is_noted_with}
use Rattle.nfs_xdr.specs.Written.{Written}

-- the most bytes of notes
abbrev pub most_noted : ℕ
most_noted = 4194304

-- One entry more. They are lost where there is no room for it; where none are kept, none are.
abbrev pub with_entry : List ℕ → Option (List ℕ) → Option (List ℕ)
with_entry entry None = None
with_entry entry (Some notes) = if nat_lt most_noted (length notes + length entry) then None else Some (notes ++ entry)

-- the notes after an event that was answered so
abbrev pub notes_after : Event → Answer → Option (List ℕ) → Option (List ℕ)
notes_after event answer notes = if is_noted_with event answer then with_entry (fragment true (entry_text event (reply_bytes answer.reply))) notes else notes

-- Where notes are kept and none were lost, the journal of these events is what lasts of it, and then the notes.
abbrev pub AreNoted : List Done → List ℕ → Option (List ℕ) → Type 0
AreNoted done lasting notes = (bytes : List ℕ) → notes ≡ Some bytes → journal_text done ≡ lasting ++ bytes

-- what of them is still to come to last
abbrev pub to_note : Option (List ℕ) → List ℕ
to_note None = []
to_note (Some bytes) = bytes

-- where notes are kept, they and the room that is left for more make up all that there is
abbrev pub HasRoomLeft : Option Written → Type 0
HasRoomLeft None = Unit {0}
HasRoomLeft (Some out) = length out.bytes + out.room ≡ most_noted
