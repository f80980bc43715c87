-- Addresses in dotted decimal form.
use Rattle.std.specs.Prelude.{ℕ, ◌/◌, ◌%◌, List, [], ◌∷◌, ◌++◌, Option, Some, None, option_map, if◌then◌else◌, length, nat_lt, codes, decimal}
use Rattle.std.specs.Int.{w32, from_be_bytes}
use Rattle.nfs_text.specs.Numbers.{decimal_of}
use Rattle.nfs_text.specs.Chunks.{chunks}
use Rattle.nfs_exports.specs.declared.addr.Addr.{Addr}

infixl 20 ◌>>=◌
abbrev pub ◌>>=◌ : {A B : Type 0} → Option A → (A → Option B) → Option B
(Some x) >>= f = f x
None >>= f = None

-- one to three digits that say a number to 255
abbrev pub part : List ℕ → Option ℕ
part text = if nat_lt 3 (length text) then None else decimal_of 255 text

-- the first part is the most significant byte
abbrev pub number_of_parts : List ℕ → List ℕ → List ℕ → List ℕ → Option ℕ
number_of_parts a b c d = do
  a ← part a
  b ← part b
  c ← part c
  d ← part d
  Some (from_be_bytes w32 (a ∷ b ∷ c ∷ d ∷ []))

-- there are four parts
abbrev pub number_of_chunks : List (List ℕ) → Option ℕ
number_of_chunks (a ∷ b ∷ c ∷ d ∷ []) = number_of_parts a b c d
number_of_chunks parts = None

-- the address that a text says, parts with a dot between each two
abbrev pub address_of : List ℕ → Option Addr
address_of text = option_map (λ n. record { 0 = n }) (number_of_chunks (chunks 46 text))

-- an address as text, without leading zeros
abbrev pub addr_text : Addr → List ℕ
addr_text a = decimal (a.0 / 16777216) ++ codes "." ++ decimal (a.0 / 65536 % 256) ++ codes "." ++ decimal (a.0 / 256 % 256) ++ codes "." ++ decimal (a.0 % 256)
