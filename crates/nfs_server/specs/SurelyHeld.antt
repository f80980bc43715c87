-- What clients may rely on of the reply cache, said without it.
use Rattle.std.specs.Prelude.{◌≡◌, ℕ, ◌+◌, ◌<◌, true, List, [], ◌∷◌, Option, Some, None, if◌then◌else◌}
use Rattle.nfs_reply_cache.specs.Places.{Key, same}
use Rattle.nfs_server.specs.Events.{Event, Done}
use Rattle.nfs_server.specs.Retransmissions.{first_reply, is_changing, key_of, standing}

-- an earlier changing call: how many events with changing calls came after it, and its reply
pub record Earlier : Type 0 where
  pub since : ℕ
  pub reply : List ℕ

-- one more changing call, which had this reply for the key or none
abbrev pub one_later : Option (List ℕ) → Option Earlier → Option Earlier
one_later (Some reply) before = Some (record { since = 0; reply = reply })
one_later None (Some before) = Some (record { since = before.since + 1; reply = before.reply })
one_later None None = None

-- the latest event with a changing call of this address and record that was answered otherwise than by SYSTEM_ERR; the history has the newest event first
abbrev pub earlier : Key → List Done → Option Earlier
earlier key [] = None
earlier key (d ∷ history) = if is_changing d.event
    then one_later (if same key (key_of d.event) then standing d.answer else None) (earlier key history) else earlier key history

-- Its reply is surely held where fewer events with changing calls, whatever their answers, came after it than there are places: then a retransmission gets it.
abbrev pub SurelyHeld : Type 0
SurelyHeld = (places : ℕ) (history : List Done) (event : Event) (before : Earlier) → is_changing event ≡ true
    → earlier (key_of event) history ≡ Some before → before.since < places → first_reply places history event ≡ Some before.reply

-- No retransmission gets another reply than that.
abbrev pub NoneButTheFirst : Type 0
NoneButTheFirst = (places : ℕ) (history : List Done) (event : Event) (reply : List ℕ) → first_reply places history event ≡ Some reply
    → (since : ℕ) × (earlier (key_of event) history ≡ Some (record { since = since; reply = reply }))
