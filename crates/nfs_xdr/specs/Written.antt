-- What an output of fixed room holds.
use Rattle.std.specs.Prelude.{◌≡◌, ℕ, ◌+◌, List, ◌++◌, length}

-- the bytes that were written, and the room that is left
pub record Written : Type 0 where
  pub bytes : List ℕ
  pub room : ℕ

-- this text was written after what stood there, in the room that was left
pub record Appends (text : List ℕ) (old new : Written) : Type 0 where
  pub bytes : new.bytes ≡ old.bytes ++ text
  pub room : new.room + length text ≡ old.room
