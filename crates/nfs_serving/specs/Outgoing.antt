-- What goes out on a link, and what comes in.
use Rattle.std.specs.Prelude.{◌≡◌, ◌≢◌, ◌⊎◌, ℕ, ◌<◌, Bool, List, [], ◌++◌, Option, option_map}
use Rattle.nfs_xdr.specs.declared.link.Came.{Came}
use Rattle.nfs_xdr.specs.declared.link.Came.TheVariants.{Bytes, Nothing, End}
use Rattle.nfs_xdr.specs.Known.{Grows, Shrinks, IsAtEnd}

-- bytes, and for how many their list has room
pub record Roomed : Type 0 where
  pub bytes : List ℕ
  pub room : ℕ

-- where there are no bytes, there is no room for any
abbrev pub IsLetGo : Roomed → Type 0
IsLetGo b = b.bytes ≡ [] → b.room ≡ 0

-- a link with what is pending on it, the replies that it has not taken yet, and whether it is broken
pub record Outgoing (L : Type 0) : Type 0 where
  pub link : L
  pub pending : List ℕ
  pub failed : Bool

-- what was sent, where that is known, and what is pending after it
abbrev pub with_pending : Option (List ℕ) → List ℕ → Option (List ℕ)
with_pending sent pending = option_map (λ bytes. bytes ++ pending) sent

-- some first bytes of those that are pending were sent, and the others are left
pub record Passes (before : Option (List ℕ)) (pending : List ℕ) (after : Option (List ℕ)) (left : List ℕ) : Type 0 where
  pub sent : List ℕ
  pub pending_is : pending ≡ sent ++ left
  pub grows : Grows before sent after

-- how many bytes have come
abbrev pub came_bytes : Came → ℕ
came_bytes (Bytes n) = n
came_bytes Nothing = 0
came_bytes End = 0

-- what has come, and the bytes that it brought
abbrev pub Brings : Option (List ℕ) → Came → List ℕ → Option (List ℕ) → Type 0
Brings before (Bytes n) chunk after = (chunk ≢ []) × Shrinks before chunk after
Brings before Nothing chunk after = (chunk ≡ []) × (after ≡ before)
Brings before End chunk after = (chunk ≡ []) × (after ≡ before) × IsAtEnd after

-- ---- that nothing more is there

-- the link reported last that nothing has come
abbrev pub IsQuiet : {L : Type 0} → (L → ℕ → Came → L → Type 0) → L → Type 0
IsQuiet {L} reports link = (before : L) × (room : ℕ) × reports before room Nothing link

-- the link reported fewer bytes than there was room for, and nothing was received since
abbrev pub IsDrained : {L : Type 0} → (L → Option (List ℕ)) → (L → ℕ → Came → L → Type 0) → L → Type 0
IsDrained {L} incoming reports link = (before after : L) × (room n : ℕ) × (n < room) × reports before room (Bytes n) after × (incoming link ≡ incoming after)

abbrev pub IsExhausted : {L : Type 0} → (L → Option (List ℕ)) → (L → ℕ → Came → L → Type 0) → L → Type 0
IsExhausted incoming reports link = IsQuiet reports link ⊎ IsDrained incoming reports link
