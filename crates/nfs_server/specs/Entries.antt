-- The entries of a journal.
use Rattle.std.specs.Prelude.{ℕ, List, [], ◌∷◌, ◌++◌, length, Option, Some, None, true, if◌then◌else◌}
use Rattle.std.specs.Int.{w32, to_be_bytes}
use Rattle.nfs_checksum.specs.Checksums.{crc32c}
use Rattle.nfs_rpc.specs.Records.{fragment}
use Rattle.nfs_server.specs.Events.{Event, Done}
use Rattle.nfs_server.specs.Noted.{has_entry}

-- who sent it and when it came, how long its reply is, its reply, and the record itself
abbrev pub content_text : Event → List ℕ → List ℕ
content_text event reply = to_be_bytes w32 event.addr.0 ++ to_be_bytes w32 event.moment.seconds ++ to_be_bytes w32 event.moment.nanos
    ++ to_be_bytes w32 (length reply) ++ reply ++ event.bytes

-- these bytes and their checksum
abbrev pub checked : List ℕ → List ℕ
checked bytes = bytes ++ to_be_bytes w32 (crc32c bytes)

-- An entry: an event, its reply, and the checksum of both.
abbrev pub entry_text : Event → List ℕ → List ℕ
entry_text event reply = checked (content_text event reply)

abbrev pub reply_bytes : Option (List ℕ) → List ℕ
reply_bytes None = []
reply_bytes (Some reply) = reply

-- the entry of an event that was answered
abbrev pub entry_of : Done → List ℕ
entry_of d = entry_text d.event (reply_bytes d.answer.reply)

-- The journal of a history, which has the newest event first: the entries of its noted events, each a record of one fragment, the oldest first.
abbrev pub journal_text : List Done → List ℕ
journal_text [] = []
journal_text (d ∷ before) = journal_text before ++ (if has_entry d then fragment true (entry_of d) else [])
