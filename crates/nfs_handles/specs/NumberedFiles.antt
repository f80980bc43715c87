-- Files that each have a number of their own.
use Rattle.std.specs.Prelude.{◌≡◌, ℕ, ◌+◌, ◌^◌, ◌<◌, ◌≤◌, max, List, [], ◌∷◌, ◌++◌, length, All, Option, Some, None, option_map, nat_eq, slice_index}
use Rattle.std.specs.Ordering.{nat_cmp}
use Rattle.std.specs.Map.{keys_of, values_of, lookup, set_value, remove_entry}
use Rattle.std.specs.List.Sorted.{IsStrictlySortedBy}

-- a file's value, and the tag that its handle has for the file's life
pub record TaggedFile (T : Type 0) : Type 0 where
  pub tag : ℕ
  pub value : T

-- the files that live, by their numbers, which rise; the number of the next new file; the server's key
pub record NumberedFiles (T : Type 0) : Type 0 where
  pub files : List (ℕ × TaggedFile T)
  pub next : ℕ
  pub key : List ℕ

module _ {T : Type 0} where
  -- the file that lives at a number
  abbrev pub at : NumberedFiles T → ℕ → Option (TaggedFile T)
  at t n = lookup (nat_eq n) t.files

  -- its value, and its tag
  abbrev pub value_at : NumberedFiles T → ℕ → Option T
  value_at t n = option_map (λ file. file.value) (at t n)

  abbrev pub tag_at : NumberedFiles T → ℕ → Option ℕ
  tag_at t n = option_map (λ file. file.tag) (at t n)

  -- no file lives, and none has lived
  abbrev pub unused : ℕ → List ℕ → NumberedFiles T
  unused first key = record { files = []; next = first; key = key }

  -- with a new file, which takes the next number
  abbrev pub with_new : NumberedFiles T → ℕ → T → NumberedFiles T
  with_new t tag v = record { files = t.files ++ (t.next, record { tag = tag; value = v }) ∷ []; next = t.next + 1; key = t.key }

  -- with a value for the file that lives at n, if one does: its tag stays
  abbrev pub revalued : NumberedFiles T → ℕ → T → Option (TaggedFile T) → NumberedFiles T
  revalued t n v None = t
  revalued t n v (Some file) = record { files = set_value (nat_eq n) t.files (record { tag = file.tag; value = v }); next = t.next; key = t.key }

  abbrev pub with_value : NumberedFiles T → ℕ → T → NumberedFiles T
  with_value t n v = revalued t n v (at t n)

  -- without the file that lives at n, if one does
  abbrev pub without : NumberedFiles T → ℕ → NumberedFiles T
  without t n = record { files = remove_entry (nat_eq n) t.files; next = t.next; key = t.key }

  -- with a next number of at least n
  abbrev pub raised : NumberedFiles T → ℕ → NumberedFiles T
  raised t n = record { files = t.files; next = max t.next n; key = t.key }

  -- with another key
  abbrev pub with_key : NumberedFiles T → List ℕ → NumberedFiles T
  with_key t key = record { files = t.files; next = t.next; key = key }

-- a number that was given: 1 or above, and below the next
pub record IsGiven (next n : ℕ) : Type 0 where
  pub counted : 1 ≤ n
  pub below : n < next

-- What holds of all numbered files at all times. The last number, 2^64 - 1, is never given.
pub record IsNumbered {T : Type 0} (t : NumberedFiles T) : Type 0 where
  pub rising : IsStrictlySortedBy nat_cmp (keys_of t.files)
  pub given : All (IsGiven t.next) (keys_of t.files)
  pub tags : All (λ file. file.tag < 2 ^ 32) (values_of t.files)
  pub some : 1 ≤ t.next
  pub last : t.next < 2 ^ 64
  pub key_len : length t.key ≡ 8
  pub key_bytes : (i : ℕ) → slice_index t.key i < 256
