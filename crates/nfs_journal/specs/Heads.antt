-- The head of a journal, which is its first record.
use Rattle.std.specs.Prelude.{◌≡◌, ◌≢◌, ℕ, ◌^◌, ◌<◌, ◌≤◌, true, List, ◌++◌, length, take, Result, Ok, Err, codes}
use Rattle.std.specs.Int.{w32, w64, to_be_bytes}
use Rattle.nfs_server.specs.Entries.{checked}
use Rattle.nfs_journal.specs.declared.head.Head.{Head}
use Rattle.nfs_journal.specs.declared.head.HeadFault.{HeadFault}
use Rattle.nfs_journal.specs.declared.head.HeadFault.TheVariants.{Unfinished, NoJournal, OtherVersion, Damaged}
use Rattle.nfs_rpc.specs.Records.{fragment, header}

-- what it begins with, by which a journal is known
abbrev pub title : List ℕ
title = codes "nfs3d journal\n"

-- the version of this form of journals
abbrev pub version : ℕ
version = 1

-- the server's key, the number of its next file, how many replies it caches, and the SHA-256 of its description
abbrev pub fields_text : Head → List ℕ
fields_text head = head.key ++ to_be_bytes w64 head.next ++ to_be_bytes w32 head.cache ++ head.digest

-- the title, the version, and these
abbrev pub head_content : Head → List ℕ
head_content head = title ++ to_be_bytes w32 version ++ fields_text head

-- this and its checksum
abbrev pub head_text : Head → List ℕ
head_text head = checked (head_content head)

-- the record, with its mark
abbrev pub head_record : Head → List ℕ
head_record head = fragment true (head_text head)

-- its fields have the sizes of those of every head in memory
pub record IsHead (head : Head) : Type 0 where
  pub key : length head.key ≡ 8
  pub next : head.next < 2 ^ 64
  pub cache : head.cache < 2 ^ 32
  pub digest : length head.digest ≡ 32

-- how many bytes the record has
abbrev pub head_bytes : ℕ
head_bytes = 78

-- no head has these bytes as its record
abbrev pub IsNoHead : List ℕ → Type 0
IsNoHead bytes = (head : Head) → IsHead head → head_record head ≢ bytes

-- ---- faults

-- what every head of this version begins with: the mark of its record, the title and the version
abbrev pub front : List ℕ
front = header true 74 ++ title ++ to_be_bytes w32 version

-- the bytes begin so, or are the beginning of that
abbrev pub IsBegun : List ℕ → Type 0
IsBegun bytes = take 22 bytes ≡ take (length bytes) front

-- after a record mark stand the title and this version
pub record HasVersion (n : ℕ) (bytes : List ℕ) : Type 0 where
  pub mark : List ℕ
  pub four : length mark ≡ 4
  pub rest : List ℕ
  pub bytes_are : bytes ≡ mark ++ (title ++ (to_be_bytes w32 n ++ rest))

-- What was decoded has these bytes; or what they are instead, of which no two hold of the same bytes.
abbrev pub DecodesHead : Result Head HeadFault → List ℕ → Type 0
DecodesHead (Ok head) bytes = head_record head ≡ bytes
DecodesHead (Err Unfinished) bytes = (length bytes < head_bytes) × IsBegun bytes
DecodesHead (Err NoJournal) bytes = (IsBegun bytes → ⊥) × ((n : ℕ) → n < 2 ^ 32 → HasVersion n bytes → ⊥)
DecodesHead (Err (OtherVersion n)) bytes = HasVersion n bytes × (n ≢ version)
DecodesHead (Err Damaged) bytes = HasVersion version bytes × (IsBegun bytes → head_bytes ≤ length bytes)

-- ---- laws

-- A record is that of one head.
abbrev pub HeadsAreReadOnce : Type 0
HeadsAreReadOnce = (head other : Head) → IsHead head → IsHead other → head_record head ≡ head_record other → head ≡ other
