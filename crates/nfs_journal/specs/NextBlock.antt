-- What stands next in the file of a journal.
use Rattle.std.specs.Prelude.{◌≡◌, ◌⊎◌, ◌↔◌, ℕ, ◌<◌, Bool, true, List, ◌++◌, length, Option, Some, None, IsTrue}
use Rattle.std.specs.List.{AllByRecursion}
use Rattle.nfs_journal.specs.Blocks.{block_at, block_text, header_of, header_text, is_allowed}
use Rattle.nfs_journal.specs.declared.block.BlockHeader.{BlockHeader}
use Rattle.nfs_journal.specs.declared.next_block.Next.{Next}
use Rattle.nfs_journal.specs.declared.next_block.Next.TheVariants.{Block as Whole, End, Damaged}
use Rattle.nfs_xdr.specs.Known.{Shrinks}

-- nothing but zeros
abbrev pub AreZeros : List ℕ → Type 0
AreZeros bytes = AllByRecursion (λ byte. byte ≡ 0) bytes

-- The header of a block that may stand there, with this number, and after it fewer bytes than it says.
pub record IsCut (number : ℕ) (bytes : List ℕ) : Type 0 where
  pub header : BlockHeader
  pub number_is : header.number ≡ number
  pub allowed : is_allowed header ≡ true
  pub part : List ℕ
  pub bytes_are : bytes ≡ header_text header ++ part
  pub fewer : length part < header.len

-- The bytes up to the end are those of a block that was not written whole: fewer than a header has, a header and too few after it, or zeros.
abbrev pub IsTorn : ℕ → List ℕ → Type 0
IsTorn number bytes = (length bytes < 20) ⊎ (IsCut number bytes ⊎ AreZeros bytes)

-- where the bytes that are left are known, this holds of them
abbrev pub OfLeft : (List ℕ → Type 0) → Option (List ℕ) → Type 0
OfLeft P left = (bytes : List ℕ) → left ≡ Some bytes → P bytes

-- What was found: the block with this number, its bytes being these; no block, but one that was not written whole, or nothing; no block, and not that either.
abbrev pub IsNext : Next → ℕ → Option (List ℕ) → List ℕ → Option (List ℕ) → Type 0
IsNext (Whole kind) number left bytes after =
    (is_allowed (header_of number (record { kind = kind; bytes = bytes })) ≡ true) × Shrinks left (block_text number (record { kind = kind; bytes = bytes })) after
IsNext End number left bytes after = OfLeft (λ all. (block_at number all ≡ None) × IsTorn number all) left
IsNext Damaged number left bytes after = OfLeft (λ all. (block_at number all ≡ None) × (IsTorn number all → ⊥)) left

-- whether the bytes that are left are zeros, where they are known
abbrev pub TellsZeros : Bool → Option (List ℕ) → Type 0
TellsZeros is left = OfLeft (λ all. IsTrue is ↔ AreZeros all) left
