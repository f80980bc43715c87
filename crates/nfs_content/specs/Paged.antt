-- Bytes in pages of 4,096: of a page its first bytes are kept, and zeros follow.
use Rattle.std.specs.Prelude.{◌≡◌, ◌≢◌, ℕ, ◌+◌, ◌-◌, ◌/◌, ◌%◌, ◌<◌, ◌≤◌, List, [], length, map, slice_index_or, vec_capacity}
use Rattle.std.specs.List.{range_with_len}
use Rattle.std.specs.Prelude.{Vec}
use Rattle.std.specs.Global.{Global}
use Rattle.nfs_content.specs.Limits.{page_bytes, row_pages, block_pages}

-- ---- lists by their places

-- what a place has, nothing where there is no such place
abbrev pub items_at : {A : Type 0} → List (Vec A Global) → ℕ → List A
items_at lists k = slice_index_or (map (λ list. list.items) lists) k []

-- how much a place has room for
abbrev pub room_at : {A : Type 0} → List (Vec A Global) → ℕ → ℕ
room_at lists k = slice_index_or (map (λ list. vec_capacity list) lists) k 0

-- room for as much at each place
abbrev pub MoreRoom : (ℕ → ℕ) → (ℕ → ℕ) → Type 0
MoreRoom old new = (k : ℕ) → old k ≤ new k

-- the same at each place, and room for as much
pub record Widens {A : Type 0} (old new : List (Vec A Global)) : Type 0 where
  pub items : (k : ℕ) → items_at new k ≡ items_at old k
  pub room : MoreRoom (room_at old) (room_at new)

-- ---- pages in rows

-- the bytes that are kept of page k
abbrev pub kept : List (Vec (Vec ℕ Global) Global) → ℕ → List ℕ
kept rows k = items_at (items_at rows (k / row_pages)) (k % row_pages)

-- how many bytes page k has room for
abbrev pub room : List (Vec (Vec ℕ Global) Global) → ℕ → ℕ
room rows k = room_at (items_at rows (k / row_pages)) (k % row_pages)

-- ---- pages in blocks of rows

-- the bytes that are kept of page k
abbrev pub far : List (Vec (Vec (Vec ℕ Global) Global) Global) → ℕ → List ℕ
far blocks k = kept (items_at blocks (k / block_pages)) (k % block_pages)

-- how many bytes page k has room for
abbrev pub far_room : List (Vec (Vec (Vec ℕ Global) Global) Global) → ℕ → ℕ
far_room blocks k = room (items_at blocks (k / block_pages)) (k % block_pages)

-- ---- pages by their places, each as the bytes that are kept of it

-- byte i
abbrev pub byte_at : (ℕ → List ℕ) → ℕ → ℕ
byte_at pages i = slice_index_or (pages (i / page_bytes)) (i % page_bytes) 0

-- so many bytes from the first one on
abbrev pub shown : (ℕ → List ℕ) → ℕ → List ℕ
shown pages len = map (byte_at pages) (range_with_len 0 len)

-- no page is longer than it may be
abbrev pub AreShort : (ℕ → List ℕ) → Type 0
AreShort pages = (k : ℕ) → length (pages k) ≤ page_bytes

-- so many bytes, and zeros after them
pub record IsPaged (pages : ℕ → List ℕ) (len : ℕ) : Type 0 where
  pub short : AreShort pages
  pub zero : (i : ℕ) → len ≤ i → byte_at pages i ≡ 0

-- the same pages
abbrev pub SamePages : (ℕ → List ℕ) → (ℕ → List ℕ) → Type 0
SamePages old new = (k : ℕ) → new k ≡ old k

-- the same pages at all places but one
abbrev pub SameElsewhere : (ℕ → List ℕ) → ℕ → (ℕ → List ℕ) → Type 0
SameElsewhere old place new = (k : ℕ) → k ≢ place → new k ≡ old k

-- room for each byte from one on and before another
abbrev pub Holds : (ℕ → ℕ) → ℕ → ℕ → Type 0
Holds sizes start end = (i : ℕ) → start ≤ i → i < end → i % page_bytes < sizes (i / page_bytes)

-- the bytes with some others from an offset on
pub record Writes (old : ℕ → List ℕ) (offset : ℕ) (bytes : List ℕ) (new : ℕ → List ℕ) : Type 0 where
  pub inside : (i : ℕ) → offset ≤ i → i < offset + length bytes → byte_at new i ≡ slice_index_or bytes (i - offset) 0
  pub before : (i : ℕ) → i < offset → byte_at new i ≡ byte_at old i
  pub after : (i : ℕ) → offset + length bytes ≤ i → byte_at new i ≡ byte_at old i

-- the first so many bytes, and zeros after them
pub record Cuts (old : ℕ → List ℕ) (len : ℕ) (new : ℕ → List ℕ) : Type 0 where
  pub before : (i : ℕ) → i < len → byte_at new i ≡ byte_at old i
  pub after : (i : ℕ) → len ≤ i → byte_at new i ≡ 0

-- the first so many pages, and none after them
pub record Keeps (old : ℕ → List ℕ) (count : ℕ) (new : ℕ → List ℕ) : Type 0 where
  pub before : (k : ℕ) → k < count → new k ≡ old k
  pub after : (k : ℕ) → count ≤ k → new k ≡ []

-- a page with some bytes from a place on, zeros in a gap before them
pub record Puts (old : List ℕ) (at : ℕ) (bytes new : List ℕ) : Type 0 where
  pub inside : (i : ℕ) → at ≤ i → i < at + length bytes → slice_index_or new i 0 ≡ slice_index_or bytes (i - at) 0
  pub before : (i : ℕ) → i < at → slice_index_or new i 0 ≡ slice_index_or old i 0
  pub after : (i : ℕ) → at + length bytes ≤ i → slice_index_or new i 0 ≡ slice_index_or old i 0
  pub short : length old ≤ page_bytes → at + length bytes ≤ page_bytes → length new ≤ page_bytes
