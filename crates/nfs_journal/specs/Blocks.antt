-- The blocks of a journal.
use Rattle.std.specs.Prelude.{◌≡◌, ◌≢◌, ℕ, zero, suc, ◌+◌, ◌^◌, ◌<◌, Bool, true, ◌&&◌, List, [], ◌∷◌, ◌++◌, take, drop, length, bytes_eq, nat_eq, nat_le, Option, Some, None, if◌then◌else◌}
use Rattle.std.specs.Int.{w32, w64, from_be_bytes, to_be_bytes}
use Rattle.nfs_server.specs.Entries.{checked}
use Rattle.nfs_journal.specs.declared.block.BlockHeader.{BlockHeader}
use Rattle.nfs_journal.specs.declared.block.BlockKind.{BlockKind}
use Rattle.nfs_journal.specs.declared.block.BlockKind.TheVariants.{Entries, Exports, Description}

-- by which number it is known what a block has
abbrev pub kind_number : BlockKind → ℕ
kind_number Entries = 1
kind_number Exports = 2
kind_number Description = 3

-- how many bytes it has at most, without its header
abbrev pub most_bytes : BlockKind → ℕ
most_bytes Entries = 4194304
most_bytes Exports = 4194304
most_bytes Description = 1048580

-- what it has, its number, and how many bytes
abbrev pub fields_text : BlockHeader → List ℕ
fields_text h = to_be_bytes w32 (kind_number h.kind) ++ to_be_bytes w64 h.number ++ to_be_bytes w32 h.len

-- these and their checksum
abbrev pub header_text : BlockHeader → List ℕ
header_text h = checked (fields_text h)

-- its fields have the sizes of those of every header in memory
pub record IsHeader (h : BlockHeader) : Type 0 where
  pub number : h.number < 2 ^ 64
  pub len : h.len < 2 ^ 32

-- no header has these bytes
abbrev pub IsNoHeader : List ℕ → Type 0
IsNoHeader bytes = (h : BlockHeader) → IsHeader h → header_text h ≢ bytes

-- where a block may stand: a description as the second
abbrev pub may_stand : BlockKind → ℕ → Bool
may_stand Entries number = true
may_stand Exports number = true
may_stand Description number = nat_eq number 2

-- a block with this header may stand where its number says, and be so long
abbrev pub is_allowed : BlockHeader → Bool
is_allowed h = may_stand h.kind h.number && nat_le h.len (most_bytes h.kind)

-- ---- blocks in a file

-- what a block has, and its bytes after its header
pub record Block : Type 0 where
  pub kind : BlockKind
  pub bytes : List ℕ

abbrev pub header_of : ℕ → Block → BlockHeader
header_of number b = record { kind = b.kind; number = number; len = length b.bytes }

-- the block with this number: its header and its bytes
abbrev pub block_text : ℕ → Block → List ℕ
block_text number b = header_text (header_of number b) ++ b.bytes

-- blocks one after another, of which the first has this number
abbrev pub blocks_text : ℕ → List Block → List ℕ
blocks_text number [] = []
blocks_text number (b ∷ after) = block_text number b ++ blocks_text (number + 1) after

-- each of them may stand there, and be so long
abbrev pub AreBlocks : ℕ → List Block → Type 0
AreBlocks number [] = Unit {0}
AreBlocks number (b ∷ after) = (is_allowed (header_of number b) ≡ true) × AreBlocks (number + 1) after

-- the bytes of a block that has entries; of another one none
abbrev pub entries_in : BlockKind → List ℕ → List ℕ
entries_in Entries bytes = bytes
entries_in Exports bytes = []
entries_in Description bytes = []

-- the entries of blocks, one after another
abbrev pub entries_text : List Block → List ℕ
entries_text [] = []
entries_text (b ∷ after) = entries_in b.kind b.bytes ++ entries_text after

-- ---- blocks as they are read

-- what is known by a number; entries, where nothing is
abbrev pub kind_of : ℕ → BlockKind
kind_of n = if nat_eq n 2 then Exports else (if nat_eq n 3 then Description else Entries)

-- the header of this number of which some bytes may be the beginning
abbrev pub header_like : ℕ → List ℕ → BlockHeader
header_like number bytes = record { kind = kind_of (from_be_bytes w32 (take 4 bytes)); number = number; len = from_be_bytes w32 (take 4 (drop 12 bytes)) }

-- the block with this header at the front of some bytes, and the bytes after it; none where it isn't there as a whole
abbrev pub block_with : BlockHeader → List ℕ → Option (Block × List ℕ)
block_with h bytes = if bytes_eq (take 20 bytes) (header_text h) && (is_allowed h && nat_le h.len (length (drop 20 bytes)))
    then Some (record { kind = h.kind; bytes = take h.len (drop 20 bytes) }, drop h.len (drop 20 bytes)) else None

-- the same of the block with this number
abbrev pub block_at : ℕ → List ℕ → Option (Block × List ℕ)
block_at number bytes = block_with (header_like number bytes) bytes

-- a block and those after it; none, and all the bytes
abbrev pub with_more : Option (Block × List ℕ) → List ℕ → (List ℕ → List Block × List ℕ) → List Block × List ℕ
with_more None bytes more = ([], bytes)
with_more (Some found) bytes more = (found.0 ∷ (more found.1).0, (more found.1).1)

-- the blocks at the front of some bytes, at most so many, of which the first has this number, and the bytes after them
abbrev pub blocks_at : ℕ → ℕ → List ℕ → List Block × List ℕ
blocks_at zero number bytes = ([], bytes)
blocks_at (suc most) number bytes = with_more (block_at number bytes) bytes (λ after. blocks_at most (number + 1) after)

-- the blocks of a journal after its first record, and the bytes after them
abbrev pub journal_blocks : List ℕ → List Block × List ℕ
journal_blocks bytes = blocks_at (length bytes) 1 (drop 78 bytes)

-- ---- laws

-- Blocks after a first record are read as they were written, and so is what stands after them that is no block.
abbrev pub BlocksAreRead : Type 0
BlocksAreRead = (first rest : List ℕ) (blocks : List Block) → length first ≡ 78 → AreBlocks 1 blocks → block_at (1 + length blocks) rest ≡ None
    → journal_blocks (first ++ (blocks_text 1 blocks ++ rest)) ≡ (blocks, rest)

-- A first part of a block is none.
abbrev pub PartIsNoBlock : Type 0
PartIsNoBlock = (number n : ℕ) (b : Block) → is_allowed (header_of number b) ≡ true → n < length (block_text number b) → block_at number (take n (block_text number b)) ≡ None

-- What is read stands there.
abbrev pub ReadBlocksAreThere : Type 0
ReadBlocksAreThere = (bytes : List ℕ) → (drop 78 bytes ≡ blocks_text 1 (journal_blocks bytes).0 ++ (journal_blocks bytes).1) × AreBlocks 1 (journal_blocks bytes).0
