-- Records that are read where they stand in a chunk.
use Rattle.std.specs.Prelude.{◌≡◌, ℕ, ◌+◌, ◌^◌, ◌<◌, ◌≤◌, true, List, [], length, take}
use Rattle.nfs_rpc.specs.declared.framer.Stage.TheVariants.{Header, Ready}
use Rattle.nfs_rpc.specs.Progress.{Progress, Moves, Unfinished}
use Rattle.nfs_rpc.specs.Records.{fragment}

-- at the front of the bytes stands a record of at most so many bytes, in one fragment
pub record IsAtFront (limit : ℕ) (content bytes : List ℕ) : Type 0 where
  pub within : length content ≤ limit
  pub below : length content < 2 ^ 31
  pub whole : 4 + length content ≤ length bytes
  pub front : take (4 + length content) bytes ≡ fragment true content

-- no such record stands there
abbrev pub HasNoneAtFront : ℕ → List ℕ → Type 0
HasNoneAtFront limit bytes = (content : List ℕ) → IsAtFront limit content bytes → ⊥

-- nothing of a record's content came, and nothing of a header
pub record IsBefore (p : Progress) : Type 0 where
  pub bytes : List ℕ
  pub stage : p.stage ≡ Header bytes 0
  pub content : p.content ≡ []

-- nothing of a record came, and one stands whole at the front of the chunk
pub record BeginsWhole (p : Progress) (content chunk : List ℕ) : Type 0 where
  pub before : IsBefore p
  pub front : IsAtFront p.limit content chunk

-- The record at the front of a chunk: whatever stood before, with its bytes it is whole; and without any, a record begins.
pub record IsLent (p : Progress) (content chunk : List ℕ) : Type 0 where
  pub whole : 4 + length content ≤ length chunk
  pub moves : Moves p (take (4 + length content) chunk) (record { limit = p.limit; stage = Ready; content = content })
  pub begins : Unfinished [] p
