-- The file of a journal, as it is read and written.
use Rattle.std.specs.Prelude.{◌≡◌, ◌≢◌, ◌⊎◌, ℕ, ◌+◌, ◌-◌, ◌^◌, ◌≤◌, min, true, List, [], ◌∷◌, ◌++◌, drop, length, Option, None}
use Rattle.nfs_journal.specs.Blocks.{AreBlocks, Block, block_text, blocks_text, header_of, is_allowed}
use Rattle.nfs_journal.specs.NextBlock.{AreZeros, IsNext, IsTorn, OfLeft}
use Rattle.nfs_journal.specs.declared.block.BlockKind.{BlockKind}
use Rattle.nfs_journal.specs.declared.block.BlockKind.TheVariants.{Entries, Exports, Description}
use Rattle.nfs_journal.specs.declared.broken_entry.BrokenEntry.{BrokenEntry}
use Rattle.nfs_journal.specs.declared.next_block.Next.{Next}
use Rattle.nfs_journal.specs.declared.next_block.Next.TheVariants.{Block as Whole, End, Damaged}
use Rattle.nfs_journal.specs.declared.recovery.RecoveryFault.TheVariants.{BadEntry}
use Rattle.nfs_server.specs.Entries.{checked}
use Rattle.nfs_xdr.specs.Known.{Shrinks}

-- up to the largest number of 64 bits
abbrev pub capped : ℕ → ℕ
capped n = min n (2 ^ 64 - 1)

-- the entry after so many, as damaged, at this offset
abbrev pub damaged_at : ℕ → ℕ → BrokenEntry
damaged_at entries offset = record { entry = capped (entries + 1); offset = offset; fault = BadEntry }

-- a fault within the block whose header begins at this offset, where the fault's own is counted from another one for the block's bytes
abbrev pub placed_in : ℕ → ℕ → BrokenEntry → BrokenEntry
placed_in offset start broken = record broken { offset = capped (offset + 20 + (broken.offset - start)) }

-- ---- what is next

-- A block stands there whose last bytes the system has not written: there are zeros in their place. That it stands last is known from the system alone.
pub record EndsUnwritten (number : ℕ) (bytes : List ℕ) : Type 0 where
  pub block : Block
  pub allowed : is_allowed (header_of number block) ≡ true
  pub after : List ℕ
  pub bytes_are : bytes ≡ block_text number block ++ after
  pub unwritten : AreZeros (drop (length block.bytes - 4) block.bytes)

-- the bytes up to the end are of a block that was not written whole, or there are none
abbrev pub IsEnd : ℕ → List ℕ → Type 0
IsEnd number bytes = IsTorn number bytes ⊎ EndsUnwritten number bytes

-- what was found next: as IsNext, but that a block which ends unwritten may be the end
abbrev pub StandsNext : Next → ℕ → Option (List ℕ) → List ℕ → Option (List ℕ) → Type 0
StandsNext (Whole kind) number left bytes after = IsNext (Whole kind) number left bytes after
StandsNext End number left bytes after = OfLeft (IsEnd number) left
StandsNext Damaged number left bytes after = IsNext Damaged number left bytes after

-- ---- what was read

-- a reader took the bytes of a block: its entries; the lines of its exports, after which their checksum stands; of a description nothing
abbrev pub TakesBlock : {E : Type 0} → (E → List ℕ → E → Type 0) → (E → List ℕ → E → Type 0) → BlockKind → List ℕ → E → E → Type 0
TakesBlock entries exports Entries bytes old new = entries old bytes new
TakesBlock entries exports Exports bytes old new = (lines : List ℕ) × (checked lines ≡ bytes) × exports old lines new
TakesBlock entries exports Description bytes old new = new ≡ old

-- entries were taken, and nothing is unfinished after them
abbrev pub AllTaken : {E : Type 0} → (E → List ℕ → E → Type 0) → (E → ℕ) → E → List ℕ → E → Type 0
AllTaken entries rest old bytes new = entries old bytes new × (rest new ≡ 0)

-- one block after another
abbrev pub TakesBlocks : {E : Type 0} → (E → List ℕ → E → Type 0) → (E → List ℕ → E → Type 0) → List Block → E → E → Type 0
TakesBlocks entries exports [] old new = new ≡ old
TakesBlocks {E} entries exports (b ∷ after) old new = (between : E) × TakesBlock entries exports b.kind b.bytes old between × TakesBlocks entries exports after between new

-- A reader took blocks that stand one after another, the first with this number: all bytes that there were left but the rest.
pub record ReadsBlocks {E : Type 0} (entries exports : E → List ℕ → E → Type 0) (number : ℕ) (left : Option (List ℕ)) (old new : E) (rest : Option (List ℕ)) (next : ℕ) : Type 0 where
  pub blocks : List Block
  pub are_blocks : AreBlocks number blocks
  pub takes : TakesBlocks entries exports blocks old new
  pub read : Shrinks left (blocks_text number blocks) rest
  pub next_is : next ≡ number + length blocks

-- The same up to the end, of which the rest are the bytes of a block that was not written whole.
pub record ReadsAll {E : Type 0} (entries exports : E → List ℕ → E → Type 0) (number : ℕ) (left : Option (List ℕ)) (old new : E) (next : ℕ) : Type 0 where
  pub rest : Option (List ℕ)
  pub reads : ReadsBlocks entries exports number left old new rest next
  pub end : OfLeft (IsEnd next) rest

-- ---- what is at fault

-- entries are at fault, by the reader's own offsets: it took them, and what stands after the last is not whole; or it stopped at one
abbrev pub EntriesBreak : {E : Type 0} → (E → List ℕ → E → Type 0) → (E → List ℕ → BrokenEntry → E → Type 0)
    → (count ends_at rest : E → ℕ) → E → List ℕ → BrokenEntry → E → Type 0
EntriesBreak entries stops count ends_at rest old bytes fault new =
    (entries old bytes new × (rest new ≢ 0) × (fault ≡ damaged_at (count new) (ends_at new))) ⊎ stops old bytes fault new

-- exports are at fault: they are no lines with their checksum, or the reader refused the lines
abbrev pub ExportsBreak : {E : Type 0} → (E → List ℕ → E → Type 0) → E → List ℕ → E → Type 0
ExportsBreak refused old bytes new =
    (((lines : List ℕ) → checked lines ≢ bytes) × (new ≡ old)) ⊎ ((lines : List ℕ) × (checked lines ≡ bytes) × refused old lines new)

-- A block whose header begins at this offset is at fault: of entries one, at its place in the file; exports, at the place of the block. A
-- description never is.
abbrev pub BreaksBlock : {E : Type 0} → (E → List ℕ → BrokenEntry → E → Type 0) → (E → List ℕ → E → Type 0) → (count ends_at : E → ℕ)
    → ℕ → BlockKind → List ℕ → E → BrokenEntry → E → Type 0
BreaksBlock stops refused count ends_at offset Entries bytes old broken new =
    (fault : BrokenEntry) × stops old bytes fault new × (broken ≡ placed_in offset (ends_at old) fault)
BreaksBlock stops refused count ends_at offset Exports bytes old broken new =
    ExportsBreak refused old bytes new × (broken ≡ damaged_at (count new) offset)
BreaksBlock stops refused count ends_at offset Description bytes old broken new = ⊥

-- what stands there is neither a block of this number nor the end; or no number of 64 bits comes after this one
abbrev pub IsNoBlock : ℕ → Option (List ℕ) → Type 0
IsNoBlock number left = IsNext Damaged number left [] None ⊎ (2 ^ 64 ≤ number + 1)

-- what is next is at fault, at this offset: it is no block, and is reported as damaged; or a block stands whole, and has this fault
abbrev pub BreaksNext : {E : Type 0} → (ℕ → BlockKind → List ℕ → E → BrokenEntry → E → Type 0) → (E → ℕ)
    → ℕ → ℕ → Option (List ℕ) → E → BrokenEntry → E → Type 0
BreaksNext breaks count number offset left old broken new =
    (IsNoBlock number left × (new ≡ old) × (broken ≡ damaged_at (count new) offset))
    ⊎ ((kind : BlockKind) × (bytes : List ℕ) × (after : Option (List ℕ)) × IsNext (Whole kind) number left bytes after
    × breaks offset kind bytes old broken new)

-- where blocks end of which the first begins at this offset
abbrev pub end_after : ℕ → List Block → ℕ
end_after offset [] = offset
end_after offset (b ∷ after) = end_after (capped (offset + (20 + length b.bytes))) after

-- A reader took blocks that stand one after another, and what is next is at fault, with this number and at this offset.
pub record BreaksAfter {E : Type 0} (entries exports : E → List ℕ → E → Type 0)
    (breaks : ℕ → BlockKind → List ℕ → E → BrokenEntry → E → Type 0) (count : E → ℕ)
    (number offset : ℕ) (left : Option (List ℕ)) (old new : E) (broken : BrokenEntry) (next end : ℕ) : Type 0 where
  pub between : E
  pub rest : Option (List ℕ)
  pub reads : ReadsBlocks entries exports number left old between rest next
  pub end_is : end ≡ end_after offset reads.blocks
  pub fault : BreaksNext breaks count next end rest between broken new
