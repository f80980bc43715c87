-- What is known of clients by their keys, and when those that are held get turns again.
use Rattle.std.specs.Prelude.{◌≡◌, ◌⊎◌, ◌≢◌, ℕ, ◌+◌, ◌<◌, Bool, true, false, not, nat_le, if◌then◌else◌, List, [], ◌∷◌, ◌++◌, length, Option, Some, None, IsSome, slice_index_or}
use Rattle.slab.specs.Slab.{Slab, get}
use Rattle.nfs_loop.specs.Reports.{Report, since, IsReported, IsTimeIn}
use Rattle.nfs_loop.specs.declared.watches.Hold.{Hold}
use Rattle.nfs_loop.specs.declared.watches.Hold.TheVariants.{Lines, Until}
use Rattle.nfs_loop.specs.declared.watches.Watch.{Watch}
use Rattle.nfs_queue.specs.Queues.{is_waiting, with_ready}

-- nothing is known
abbrev pub nothing_known : Watch
nothing_known = record { heard = 0; hold = None; is_closing = false }

-- what is known of the client of a key
abbrev pub watch_at : List Watch → ℕ → Watch
watch_at watches key = slice_index_or watches key nothing_known

-- why the client of a key gets no turn for now, if it gets none
abbrev pub hold_at : List Watch → ℕ → Option Hold
hold_at watches key = (watch_at watches key).hold

-- when something was heard of the client of a key last, in seconds since the service began
abbrev pub heard_at : List Watch → ℕ → ℕ
heard_at watches key = (watch_at watches key).heard

abbrev pub one_if_held : Option Hold → ℕ
one_if_held None = 0
one_if_held (Some hold) = 1

-- how many get no turn for now
abbrev pub held_count : List Watch → ℕ
held_count [] = 0
held_count (w ∷ watches) = one_if_held w.hold + held_count watches

-- each that is there stands among those of which something is known, so that it can be held
abbrev pub AreWatched : {M : Type 0} → Slab M → List Watch → Type 0
AreWatched members watches = (key : ℕ) → IsSome (get members key) → key < length watches

-- ---- when a hold is over

-- whether a hold is over: where the log is not full any more; at its time, in milliseconds since the service began
abbrev pub is_over : Bool → ℕ → Option Hold → Bool
is_over full now None = false
is_over full now (Some Lines) = not full
is_over full now (Some (Until time)) = nat_le time now

abbrev pub hold_after : Bool → ℕ → Option Hold → Option Hold
hold_after full now hold = if is_over full now hold then None else hold

-- the queue where the hold of a key's client is over, or not
abbrev pub queue_after : {M : Type 0} → Bool → Option M → ℕ → List ℕ → List ℕ
queue_after over member key queue = if over then with_ready member key queue else queue

-- Where the hold of a key's client is over, it is held no more, and waits after the others. When each client was heard of stays.
pub record ReleasesOne {M : Type 0} (members : Slab M) (full : Bool) (now key : ℕ) (old new : List Watch) (queue later : List ℕ) : Type 0 where
  pub hold_is : hold_at new key ≡ hold_after full now (hold_at old key)
  pub others : (other : ℕ) → other ≢ key → hold_at new other ≡ hold_at old other
  pub later_is : later ≡ queue_after (is_over full now (hold_at old key)) (get members key) key queue
  pub heard_stay : (k : ℕ) → heard_at new k ≡ heard_at old k

-- Exactly those whose hold is over are held no more. They wait after those that waited, and nobody else does. When each client was heard of stays.
pub record Releases {M : Type 0} (members : Slab M) (full : Bool) (now : ℕ) (old new : List Watch) (queue later : List ℕ) : Type 0 where
  pub holds_are : (key : ℕ) → hold_at new key ≡ hold_after full now (hold_at old key)
  pub added : List ℕ
  pub after : later ≡ queue ++ added
  pub all_wait : (key : ℕ) → is_over full now (hold_at old key) ≡ true → (get members key ≡ None) ⊎ (is_waiting key later ≡ true)
  pub no_others : (key : ℕ) → is_waiting key added ≡ true → is_over full now (hold_at old key) ≡ true
  pub heard_stay : (key : ℕ) → heard_at new key ≡ heard_at old key

-- the same, at the time that the clock reported, where anyone was held
abbrev pub ReleasesBy : {M : Type 0} → Slab M → Bool → Option (List Report) → Option (List Report) → List Watch → List Watch → List ℕ → List ℕ → Type 0
ReleasesBy members full reported reported_now old new queue later = ((held_count old ≡ 0) × (new ≡ old) × (later ≡ queue) × (reported_now ≡ reported))
    ⊎ ((now : ℕ) × IsReported reported (since now) reported_now × Releases members full now old new queue later)

-- ---- in a round

-- all who are there stay, held or not as they were, and when they were heard of stays
abbrev pub AllStay : {M : Type 0} → Slab M → List Watch → Slab M → List Watch → Type 0
AllStay old watched new watches = (key : ℕ) → IsSome (get old key) → (get new key ≡ get old key) × (hold_at watches key ≡ hold_at watched key) × (heard_at watches key ≡ heard_at watched key)

-- each that came was heard of at a time that the clock reported in between
abbrev pub AllBegin : {M : Type 0} → Slab M → Option (List Report) → Option (List Report) → Slab M → List Watch → Type 0
AllBegin old reported reported_now new watches = (key : ℕ) → get old key ≡ None → IsSome (get new key) → IsTimeIn reported (heard_at watches key) reported_now

-- the first of a queue may be held since the log is full, and the others are as they were
abbrev pub FirstMayBeHeld : List ℕ → List Watch → List Watch → Type 0
FirstMayBeHeld queue old new = (key : ℕ) → (hold_at new key ≡ hold_at old key) ⊎ (((rest : List ℕ) × (queue ≡ key ∷ rest)) × (hold_at new key ≡ Some Lines))

-- those of a queue may be held since the log is full, and the others are as they were
abbrev pub SomeMayBeHeld : List ℕ → List Watch → List Watch → Type 0
SomeMayBeHeld queue old new = (key : ℕ) → (hold_at new key ≡ hold_at old key) ⊎ ((is_waiting key queue ≡ true) × (hold_at new key ≡ Some Lines))
