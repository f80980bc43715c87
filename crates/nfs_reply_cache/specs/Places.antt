-- Cached replies, the most recently used first.
use Rattle.std.specs.Prelude.{ℕ, ◌-◌, Bool, List, [], ◌∷◌, Option, Some, None, nat_eq, ◌&&◌, if◌then◌else◌, take}
use Rattle.std.specs.Cmp.Lexicographic.{pointwise}
use Rattle.nfs_exports.specs.declared.addr.Addr.{Addr}

-- an address, and the bytes of a record from it
abbrev pub Key : Type 0
Key = Addr × List ℕ

abbrev pub same : Key → Key → Bool
same key other = nat_eq key.0.0 other.0.0 && pointwise nat_eq key.1 other.1

-- a cached reply
pub record Place : Type 0 where
  pub key : Key
  pub reply : List ℕ

abbrev pub place_for : Key → List ℕ → Place
place_for key reply = record { key = key; reply = reply }

-- the reply that is kept for a key
abbrev pub cached_reply : Key → List Place → Option (List ℕ)
cached_reply key [] = None
cached_reply key (p ∷ ps) = if same key p.key then Some p.reply else cached_reply key ps

-- the places without that of a key
abbrev pub without : Key → List Place → List Place
without key [] = []
without key (p ∷ ps) = if same key p.key then ps else p ∷ without key ps

-- The places once a call of this key was answered: a reply stands at the front then, and the last place goes where there are too many; where there was no memory they stay.
abbrev pub with_reply : ℕ → Key → Option (List ℕ) → List Place → List Place
with_reply most key None ps = ps
with_reply most key (Some reply) ps = place_for key reply ∷ take (most - 1) (without key ps)

-- the places, and how many there may be
pub record Replies : Type 0 where
  pub places : List Place
  pub most : ℕ
