-- Journals in files.
use Rattle.std.specs.Prelude.{◌≡◌, ℕ, ◌+◌, ◌-◌, ◌^◌, min, Bool, ◌&&◌, ◌||◌, List, length, nat_eq, nat_le, Option, Some, None, option_and_then, if◌then◌else◌}
use Rattle.nfs_journal.specs.Blocks.{block_text, entries_text, journal_blocks}
use Rattle.nfs_journal.specs.declared.block.BlockKind.TheVariants.{Entries}
use Rattle.nfs_journal.specs.declared.file_journal.Syncing.{Syncing}
use Rattle.nfs_journal.specs.declared.file_journal.Syncing.TheVariants.{Each, Never}
use Rattle.nfs_xdr.specs.Written.{Written}

-- A journal in a file: its file, when it is synced, whether it has failed, whether it still has what the system said then, how many bytes it has, the
-- number of its next block, and how often it was synced.
pub record OnFile (F : Type 0) : Type 0 where
  pub file : F
  pub syncing : Syncing
  pub failed : Bool
  pub has_error : Bool
  pub len : ℕ
  pub next : ℕ
  pub syncs : ℕ

-- the block of entries that the journal appends next
abbrev pub next_block : ℕ → List ℕ → List ℕ
next_block number bytes = block_text number (record { kind = Entries; bytes = bytes })

-- one more, up to the largest number of 64 bits
abbrev pub one_more : ℕ → ℕ
one_more n = min (n + 1) (2 ^ 64 - 1)

-- how often it was synced after one more block
abbrev pub syncs_after : Syncing → ℕ → ℕ
syncs_after Each syncs = one_more syncs
syncs_after Never syncs = syncs

-- the bytes are a first record, and then blocks up to the end, after which the next one has this number
abbrev pub is_whole : ℕ → List ℕ → Bool
is_whole next bytes = nat_le 78 (length bytes) && (nat_eq (length (journal_blocks bytes).1) 0 && nat_eq next (1 + length (journal_blocks bytes).0))

-- the entries in a journal's file, where it is whole, or a fault came after it was
abbrev pub entries_kept : Bool → ℕ → List ℕ → Option (List ℕ)
entries_kept failed next bytes = if failed || is_whole next bytes then Some (entries_text (journal_blocks bytes).0) else None

-- the same where the file's bytes are known
abbrev pub lasting_in : Option (List ℕ) → Bool → ℕ → Option (List ℕ)
lasting_in contents failed next = option_and_then (entries_kept failed next) contents

-- The buffer in which a block is put together: what is in it and the room that is left are those of a header and 64 KiB.
abbrev pub IsBuffer : Written → Type 0
IsBuffer buffer = length buffer.bytes + buffer.room ≡ 65556
