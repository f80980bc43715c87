-- What calls do to a list of bytes, and read of it.
use Rattle.std.specs.Prelude.{◌≡◌, ℕ, ◌+◌, ◌-◌, List, [], ◌∷◌, ◌++◌, length, take, drop, replicate}

abbrev pub zeros : ℕ → List ℕ
zeros n = replicate n 0

-- some bytes put at an offset, zeros in a gap before it
abbrev pub put_bytes : List ℕ → ℕ → List ℕ → List ℕ
put_bytes old offset new = take offset old ++ zeros (offset - length old) ++ new ++ drop (offset + length new) old

-- the same, where no bytes change nothing
abbrev pub written : List ℕ → ℕ → List ℕ → List ℕ
written old offset [] = old
written old offset (b ∷ bs) = put_bytes old offset (b ∷ bs)

-- of some bytes the first so many, with zeros where there are fewer
abbrev pub sized : List ℕ → ℕ → List ℕ
sized old size = take size old ++ zeros (size - length old)

-- the first of some bytes, some of them where there are any
pub record IsFirstChunk (run bytes : List ℕ) : Type 0 where
  pub rest : List ℕ
  pub bytes_are : bytes ≡ run ++ rest
  pub some : run ≡ [] → bytes ≡ []
