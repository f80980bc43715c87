-- Which addresses a pattern covers, and how it is written (exports(5), "Machine Name Formats").
use Rattle.std.specs.Prelude.{ℕ, ◌-◌, ◌/◌, ◌%◌, ◌^◌, Bool, List, [], ◌∷◌, ◌++◌, Option, Some, None, option_map, if◌then◌else◌, length}
use Rattle.std.specs.Prelude.{nat_eq, nat_lt, bytes_eq, codes, decimal}
use Rattle.std.specs.Borrow.{Bor}
use Rattle.nfs_text.specs.Numbers.{decimal_of}
use Rattle.nfs_text.specs.Chunks.{cut}
use Rattle.nfs_exports.specs.Addresses.{◌>>=◌, addr_text, address_of}
use Rattle.nfs_exports.specs.declared.addr.Addr.{Addr}
use Rattle.nfs_exports.specs.declared.pattern.Pattern.{Pattern}

-- the first n of the 32 bits of an address
abbrev pub first_bits : ℕ → Addr → ℕ
first_bits n addr = addr.0 / 2 ^ (32 - n)

abbrev pub covers : Pattern → Addr → Bool
covers pattern addr = nat_eq (first_bits pattern.bits addr) (first_bits pattern.bits pattern.address)

-- one or two digits that say a number to 32
abbrev pub bits : List ℕ → Option ℕ
bits text = if nat_lt 2 (length text) then None else decimal_of 32 text

-- without a number of bits all of them decide
abbrev pub bits_or_all : Option (List ℕ) → Option ℕ
bits_or_all (Some text) = bits text
bits_or_all None = Some 32

-- an address, and a number of bits after `/`
abbrev pub network_of : List ℕ × Option (List ℕ) → Option Pattern
network_of parts = do
  address ← address_of parts.0
  bits ← bits_or_all parts.1
  Some (record { address = address; bits = bits })

-- every address
abbrev pub any : Pattern
any = record { address = record { 0 = 0 }; bits = 0 }

-- the pattern that a text says: `*`, an address, or a network
abbrev pub pattern_of : List ℕ → Option Pattern
pattern_of text = if bytes_eq text (42 ∷ []) then Some any else network_of (cut 47 text)

-- the first address of the network of a pattern: its other bits are 0
abbrev pub network : Pattern → Addr
network pattern = record { 0 = pattern.address.0 - pattern.address.0 % 2 ^ (32 - pattern.bits) }

-- a pattern as text: `*`, an address, or a network with its number of bits
abbrev pub pattern_text : Pattern → List ℕ
pattern_text pattern =
    if nat_eq pattern.bits 0 then codes "*"
    else (if nat_lt pattern.bits 32 then addr_text (network pattern) ++ codes "/" ++ decimal pattern.bits else addr_text pattern.address)

-- a text as clauses see it
abbrev pub text_after : Option (Bor (List ℕ)) → Option (List ℕ)
text_after text = option_map (λ t. t.now) text
