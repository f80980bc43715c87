-- What a line of a script asks for.
use Rattle.std.specs.Prelude.{ℕ, Bool, true, false, ◌||◌, List, [], ◌∷◌, Option, Some, None, option_map, bytes_eq, codes, if◌then◌else◌}
use Rattle.nfs_ask.specs.Words.{is_nothing, number_of}
use Rattle.nfs_attrs.specs.declared.moment.Moment.{Moment}
use Rattle.nfs_exports.specs.Addresses.{◌>>=◌, address_of}
use Rattle.nfs_exports.specs.declared.addr.Addr.{Addr}
use Rattle.nfs_load.specs.Lines.{is_comment}
use Rattle.nfs_replay.specs.declared.script.Order.{Order}
use Rattle.nfs_replay.specs.declared.script.Order.TheVariants as read
use Rattle.nfs_replay.specs.declared.script.Sending.{Sending}
use Rattle.nfs_replay.specs.declared.script.Sending.TheVariants as sending
use Rattle.nfs_text.specs.Words.{words, words_left}

-- nothing, a connection, bytes on one, its end, a record, a call in words, the record of a line once more, or the listing
pub data Asked : Type 0 where
  Nothing : Asked
  Attach : ℕ → Addr → Asked
  Feed : ℕ → Moment → List (List ℕ) → Asked
  Detach : ℕ → Asked
  Call : Addr → Moment → List (List ℕ) → Asked
  Ask : Addr → Moment → List (List ℕ) → Asked
  Again : ℕ → Option Moment → Option Addr → Asked
  Show : Asked

-- which record is to be sent
abbrev pub record_asked_by : Sending → Asked
record_asked_by (sending.Call addr moment bytes) = Call addr moment (words_left bytes)
record_asked_by (sending.Ask addr moment asked) = Ask addr moment (words_left asked)
record_asked_by (sending.Again line moment addr) = Again line moment addr

-- what an order that was read asks for
abbrev pub asked_by : Order → Asked
asked_by read.Nothing = Nothing
asked_by (read.Attach conn addr) = Attach conn addr
asked_by (read.Feed conn moment bytes) = Feed conn moment (words_left bytes)
asked_by (read.Detach conn) = Detach conn
asked_by (read.Send it) = record_asked_by it
asked_by read.Show = Show

-- ---- its words, from left to right

-- what the next word says, and the words after it
abbrev pub next_by : {A : Type 0} → (List ℕ → Option A) → List (List ℕ) → Option (A × List (List ℕ))
next_by value_of [] = None
next_by value_of (word ∷ left) = option_map (λ value. (value, left)) (value_of word)

-- the same of a word that may be missing
abbrev pub given_by : {A : Type 0} → (List ℕ → Option A) → List (List ℕ) → Option (Option A × List (List ℕ))
given_by value_of [] = Some (None, [])
given_by value_of (word ∷ left) = option_map (λ value. (Some value, left)) (value_of word)

-- whole seconds
abbrev pub moment_of : List ℕ → Option Moment
moment_of word = option_map (λ n. record { seconds = n; nanos = 0 }) (number_of word)

-- one that no word follows, and one that at least one does
abbrev pub if_last : List (List ℕ) → Asked → Option Asked
if_last left asked = if is_nothing left then Some asked else None

abbrev pub unless_last : List (List ℕ) → Asked → Option Asked
unless_last left asked = if is_nothing left then None else Some asked

abbrev pub attach_in : List (List ℕ) → Option Asked
attach_in left = do
  conn ← next_by number_of left
  addr ← next_by address_of conn.1
  if_last addr.1 (Attach conn.0 addr.0)

abbrev pub detach_in : List (List ℕ) → Option Asked
detach_in left = do
  conn ← next_by number_of left
  if_last conn.1 (Detach conn.0)

abbrev pub feed_in : List (List ℕ) → Option Asked
feed_in left = do
  conn ← next_by number_of left
  moment ← next_by moment_of conn.1
  unless_last moment.1 (Feed conn.0 moment.0 moment.1)

abbrev pub call_in : List (List ℕ) → Option Asked
call_in left = do
  addr ← next_by address_of left
  moment ← next_by moment_of addr.1
  unless_last moment.1 (Call addr.0 moment.0 moment.1)

abbrev pub ask_in : List (List ℕ) → Option Asked
ask_in left = do
  addr ← next_by address_of left
  moment ← next_by moment_of addr.1
  Some (Ask addr.0 moment.0 moment.1)

abbrev pub again_in : List (List ℕ) → Option Asked
again_in left = do
  line ← next_by number_of left
  moment ← given_by moment_of line.1
  addr ← given_by address_of moment.1
  if_last addr.1 (Again line.0 moment.0 addr.0)

abbrev pub show_in : List (List ℕ) → Option Asked
show_in left = if_last left Show

-- by its first word
abbrev pub order_by : List ℕ → List (List ℕ) → Option Asked
order_by word left =
    if bytes_eq word (codes "attach") then attach_in left
    else (if bytes_eq word (codes "detach") then detach_in left
    else (if bytes_eq word (codes "feed") then feed_in left
    else (if bytes_eq word (codes "call") then call_in left
    else (if bytes_eq word (codes "ask") then ask_in left
    else (if bytes_eq word (codes "again") then again_in left
    else (if bytes_eq word (codes "show") then show_in left
    else None))))))

abbrev pub order_of_words : List (List ℕ) → Option Asked
order_of_words [] = Some Nothing
order_of_words (word ∷ left) = order_by word left

-- A line whose first byte is `#`, and one without words, asks for nothing.
abbrev pub order_in : List ℕ → Option Asked
order_in line = if is_comment line then Some Nothing else order_of_words (words line)

-- ---- whether a record is sent once more

abbrev pub is_again : Option Asked → Bool
is_again None = false
is_again (Some Nothing) = false
is_again (Some (Attach conn addr)) = false
is_again (Some (Feed conn moment left)) = false
is_again (Some (Detach conn)) = false
is_again (Some (Call addr moment left)) = false
is_again (Some (Ask addr moment left)) = false
is_again (Some (Again line moment addr)) = true
is_again (Some Show) = false

-- by one of these lines
abbrev pub has_again : List (List ℕ) → Bool
has_again [] = false
has_again (line ∷ left) = is_again (order_in line) || has_again left
