-- What the replies that are kept show, and what is counted of them.
use Rattle.std.specs.Prelude.{◌≡◌, ℕ, zero, suc, ◌+◌, ◌*◌, ◌%◌, ◌<◌, true, false, List, [], ◌∷◌, ◌++◌, map, length, take, drop, max, nat_eq, nat_lt, slice_index, slice_index_or, if◌then◌else◌}
use Rattle.std.specs.List.{remove}
use Rattle.nfs_reply_cache.specs.declared.cached_reply.CachedReply.{CachedReply}
use Rattle.nfs_reply_cache.specs.Places.{Key, Place, place_for, same}

abbrev pub key_of : CachedReply → Key
key_of k = (k.addr, k.record.items)

abbrev pub place_of : CachedReply → Place
place_of k = place_for (key_of k) k.reply.value.items

abbrev pub places_of : List CachedReply → List Place
places_of ks = map place_of ks

-- the most room of the list of a record with so many bytes: twice as many and one more, or 256
abbrev pub most_room : ℕ → ℕ
most_room len = max 256 (2 * len + 1)

-- ---- buckets, which distinguish most records

-- the last two bytes of a call's number
abbrev pub xid_end : List ℕ → ℕ
xid_end bytes = if nat_lt (length bytes) 4 then 0 else slice_index bytes 2 * 256 + slice_index bytes 3

abbrev pub bucket_of : Key → ℕ
bucket_of key = (xid_end key.1 + key.0.0 * 40503) % 65536

abbrev pub IsBucketed : CachedReply → Type 0
IsBucketed k = k.bucket ≡ bucket_of (key_of k)

-- how many of them fall into a bucket
abbrev pub in_bucket : ℕ → List CachedReply → ℕ
in_bucket b [] = 0
in_bucket b (k ∷ ks) = (if nat_eq b k.bucket then 1 else 0) + in_bucket b ks

-- how many there are in a bucket, by the counts of all of them
abbrev pub count_at : List ℕ → ℕ → ℕ
count_at counts b = slice_index_or counts b 0

abbrev pub AreCounted : List ℕ → List CachedReply → Type 0
AreCounted counts ks = (b : ℕ) → b < 65536 → count_at counts b ≡ in_bucket b ks

-- ---- places

-- the first that is kept for a key stands there
abbrev pub IsFirstFor : Key → ℕ → List CachedReply → Type 0
IsFirstFor key n [] = ⊥
IsFirstFor key zero (k ∷ ks) = same key (key_of k) ≡ true
IsFirstFor key (suc n) (k ∷ ks) = (same key (key_of k) ≡ false) × IsFirstFor key n ks

-- with that of a place first
abbrev pub moved_first : ℕ → List CachedReply → List CachedReply
moved_first n ks = take 1 (drop n ks) ++ remove ks n
