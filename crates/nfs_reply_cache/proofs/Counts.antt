-- How many of what is kept fall into each bucket.
use Rattle.std.proofs.Common.{◌≡◌, ◌≢◌, ◌≤◌, ◌<◌, ◌+◌, ◌-◌, ℕ, zero, suc, Bool, true, false, cond, List, [], ◌∷◌, ◌++◌, length, take, drop, Option, Some, None, refl, sym, ap, subst, ◌∙◌, arith}
use Rattle.std.specs.Prelude.{nat_eq, slice_set, slice_index_or, All}
use Rattle.std.specs.List.{remove}
use Rattle.std.proofs.lemmas.List.{length-append, get_or-set_same, get_or-set_other, take-append-drop}
use Rattle.std.proofs.lemmas.List.Elements.{All-append, All-drop, All-head, All-tail, All-take}
use Rattle.std.proofs.Math.Seq.{drop-append_seam, take-append_seam}
use Rattle.std.proofs.lemmas.Bool.Decides.{Decides-eqb}
use Rattle.nfs_reply_cache.specs.declared.cached_reply.CachedReply.{CachedReply}
use Rattle.nfs_reply_cache.specs.Places.{Key, same, cached_reply}
use Rattle.nfs_reply_cache.specs.Shown.{AreCounted, IsBucketed, bucket_of, count_at, in_bucket, key_of, moved_first, places_of}
use Rattle.nfs_reply_cache.proofs.Places.{same_keys}

-- ---- parts of a list

pub counts_append : (b : ℕ) (ks others : List CachedReply) → in_bucket b (ks ++ others) ≡ in_bucket b ks + in_bucket b others
counts_append b [] others = omega arith
counts_append b (k ∷ ks) others = let rest = counts_append b ks others in omega (arith, rest)

counts_parts : (b n : ℕ) (ks : List CachedReply) → in_bucket b (take n ks) + in_bucket b (drop n ks) ≡ in_bucket b ks
counts_parts b n ks = sym (counts_append b (take n ks) (drop n ks)) ∙ ap (in_bucket b) (take-append-drop n ks)

one_after : (n : ℕ) (ks : List CachedReply) → drop 1 (drop n ks) ≡ drop (suc n) ks
one_after zero ks = refl
one_after (suc n) [] = refl
one_after (suc n) (k ∷ ks) = one_after n ks

-- in another order
pub counts_moved : (b n : ℕ) (ks : List CachedReply) → in_bucket b (moved_first n ks) ≡ in_bucket b ks
counts_moved b n ks =
    let whole = counts_append b (take 1 (drop n ks)) (remove ks n) in
    let others = counts_append b (take n ks) (drop (suc n) ks) in
    let parts = counts_parts b n ks in
    let there = counts_parts b 1 (drop n ks) in
    let after = ap (in_bucket b) (one_after n ks) in
    omega (arith, whole, others, parts, there, after)

length_parts : (n : ℕ) (ks : List CachedReply) → length (take n ks) + length (drop n ks) ≡ length ks
length_parts n ks = sym (length-append (take n ks) (drop n ks)) ∙ ap length (take-append-drop n ks)

pub length_moved : (n : ℕ) (ks : List CachedReply) → length (moved_first n ks) ≡ length ks
length_moved n ks =
    let whole = length-append (take 1 (drop n ks)) (remove ks n) in
    let others = length-append (take n ks) (drop (suc n) ks) in
    let parts = length_parts n ks in
    let there = length_parts 1 (drop n ks) in
    let after = ap (λ (l : List CachedReply). length l) (one_after n ks) in
    omega (arith, whole, others, parts, there, after)

pub counted_moved : (counts : List ℕ) (n : ℕ) (ks : List CachedReply) → AreCounted counts ks → AreCounted counts (moved_first n ks)
counted_moved counts n ks c b l = c b l ∙ sym (counts_moved b n ks)

-- ---- at most as many as there are

by_one : (t : Bool) (n m : ℕ) → n ≤ m → cond t 1 0 + n ≤ suc m
by_one true n m l = omega (arith, l)
by_one false n m l = omega (arith, l)

pub counts_within : (b : ℕ) (ks : List CachedReply) → in_bucket b ks ≤ length ks
counts_within b [] = omega arith
counts_within b (k ∷ ks) = by_one (nat_eq b k.bucket) (in_bucket b ks) (length ks) (counts_within b ks)

-- ---- one more, and one less

equal : (n m : ℕ) → nat_eq n m ≡ true → n ≡ m
equal n m e = (Decides-eqb n m).0 e

differ : (n m : ℕ) → nat_eq n m ≡ false → n ≢ m
differ n m e = λ h. false_true (sym e ∙ (Decides-eqb n m).1 h)
  where
    false_true : false ≡ true → ⊥
    false_true x = cc

added_by : (t : Bool) (counts : List ℕ) (k : CachedReply) (ks : List CachedReply) (b : ℕ) → k.bucket < length counts → nat_eq b k.bucket ≡ t → count_at counts b ≡ in_bucket b ks
    → count_at (slice_set counts k.bucket (count_at counts k.bucket + 1)) b ≡ cond t 1 0 + in_bucket b ks
added_by true counts k ks b l e c = let is = equal b k.bucket e in
    ap (λ n. slice_index_or (slice_set counts k.bucket (count_at counts k.bucket + 1)) n 0) is
    ∙ get_or-set_same counts k.bucket (count_at counts k.bucket + 1) 0 l
    ∙ ap (λ n. n + 1) (ap (count_at counts) (sym is) ∙ c) ∙ omega arith
added_by false counts k ks b l e c = get_or-set_other counts k.bucket b (count_at counts k.bucket + 1) 0 (differ b k.bucket e) ∙ c ∙ omega arith

pub counted_more : (counts : List ℕ) (k : CachedReply) (ks : List CachedReply) → k.bucket < length counts → AreCounted counts ks
    → AreCounted (slice_set counts k.bucket (count_at counts k.bucket + 1)) (k ∷ ks)
counted_more counts k ks l c b within = added_by (nat_eq b k.bucket) counts k ks b l refl (c b within)

less_by : (t : Bool) (counts : List ℕ) (k : CachedReply) (n : ℕ) (b : ℕ) → k.bucket < length counts → nat_eq b k.bucket ≡ t → count_at counts b ≡ cond t 1 0 + n
    → count_at (slice_set counts k.bucket (count_at counts k.bucket - 1)) b ≡ n
less_by true counts k n b l e c = let is = equal b k.bucket e in
    ap (λ m. slice_index_or (slice_set counts k.bucket (count_at counts k.bucket - 1)) m 0) is
    ∙ get_or-set_same counts k.bucket (count_at counts k.bucket - 1) 0 l
    ∙ ap (λ m. m - 1) (ap (count_at counts) (sym is) ∙ c) ∙ omega arith
less_by false counts k n b l e c = get_or-set_other counts k.bucket b (count_at counts k.bucket - 1) 0 (differ b k.bucket e) ∙ c ∙ omega arith

-- without the first
pub counted_less : (counts : List ℕ) (k : CachedReply) (ks : List CachedReply) → k.bucket < length counts → AreCounted counts (k ∷ ks)
    → AreCounted (slice_set counts k.bucket (count_at counts k.bucket - 1)) ks
counted_less counts k ks l c b within = less_by (nat_eq b k.bucket) counts k (in_bucket b ks) b l refl (c b within)

-- the last one first
pub counted_last : (counts : List ℕ) (k : CachedReply) (ks : List CachedReply) → AreCounted counts (ks ++ k ∷ []) → AreCounted counts (k ∷ ks)
counted_last counts k ks c b within = let whole = counts_append b ks (k ∷ []) in let of = c b within in omega (arith, whole, of)

one_at : (t : Bool) (n : ℕ) → t ≡ true → 0 < cond t 1 0 + n
one_at true n e = omega arith
one_at false n e = cc

pub one_there : (counts : List ℕ) (k : CachedReply) (ks : List CachedReply) → k.bucket < 65536 → AreCounted counts (k ∷ ks) → 0 < count_at counts k.bucket
one_there counts k ks within c = subst (λ n. 0 < n) (sym (c k.bucket within)) (one_at (nat_eq k.bucket k.bucket) (in_bucket k.bucket ks) ((Decides-eqb k.bucket k.bucket).1 refl))

-- ---- an empty bucket

none_by : (t s : Bool) (key : Key) (k : CachedReply) (n : ℕ) (reply o : Option (List ℕ)) → nat_eq (bucket_of key) k.bucket ≡ t → same key (key_of k) ≡ s → IsBucketed k → cond t 1 0 + n ≡ 0 → (n ≡ 0 → o ≡ None) → cond s reply o ≡ None
none_by true s key k n reply o e f i z later = absurd (omega (arith, z))
none_by false true key k n reply o e f i z later = absurd (differ (bucket_of key) k.bucket e (ap bucket_of (same_keys key (key_of k) f) ∙ sym i))
none_by false false key k n reply o e f i z later = later (omega (arith, z))

-- nothing is kept for a key whose bucket is empty
pub none_in : (key : Key) (ks : List CachedReply) → All IsBucketed ks → in_bucket (bucket_of key) ks ≡ 0 → cached_reply key (places_of ks) ≡ None
none_in key [] i z = refl
none_in key (k ∷ ks) i z =
    none_by (nat_eq (bucket_of key) k.bucket) (same key (key_of k)) key k (in_bucket (bucket_of key) ks) (Some k.reply.value.items) (cached_reply key (places_of ks)) refl refl (All-head IsBucketed k ks i) z (none_in key ks (All-tail IsBucketed k ks i))

-- ---- room for one more

pub room_for : (counts : List ℕ) (ks : List CachedReply) (b most : ℕ) → AreCounted counts ks → b < 65536 → length ks < most → most < 65536 → count_at counts b < 65535
room_for counts ks b most c l less few = let at = c b l in let within = counts_within b ks in omega (arith, at, within, less, few)

-- ---- buckets are numbers of 16 bits

pub bucket_within : (k : CachedReply) → IsBucketed k → k.bucket < 65536
bucket_within k e = omega (arith, e)

pub bucketed_moved : (n : ℕ) (ks : List CachedReply) → All IsBucketed ks → All IsBucketed (moved_first n ks)
bucketed_moved n ks i = All-append IsBucketed (take 1 (drop n ks)) (remove ks n) (All-take IsBucketed 1 (drop n ks) (All-drop IsBucketed n ks i))
    (All-append IsBucketed (take n ks) (drop (suc n) ks) (All-take IsBucketed n ks i) (All-drop IsBucketed (suc n) ks i))

pub bucket_bound : (b : ℕ) (key : Key) → b ≡ bucket_of key → b < 65536
bucket_bound b key e = omega (arith, e)

-- with one more, whose bucket this is
pub counted_with : (counts : List ℕ) (k : CachedReply) (ks : List CachedReply) (b : ℕ) → k.bucket ≡ b → b < length counts → AreCounted counts ks
    → AreCounted (slice_set counts b (count_at counts b + 1)) (k ∷ ks)
counted_with counts k ks b e l c =
    subst (λ n. AreCounted (slice_set counts n (count_at counts n + 1)) (k ∷ ks)) e (counted_more counts k ks (subst (λ n. n < length counts) (sym e) l) c)

pub bucketed_front : (ks : List CachedReply) (k : CachedReply) → All IsBucketed (ks ++ k ∷ []) → All IsBucketed ks
bucketed_front ks k i = subst (λ (l : List CachedReply). All IsBucketed l) (take-append_seam ks (k ∷ [])) (All-take IsBucketed (length ks) (ks ++ k ∷ []) i)

pub bucketed_last : (ks : List CachedReply) (k : CachedReply) → All IsBucketed (ks ++ k ∷ []) → IsBucketed k
bucketed_last ks k i = All-head IsBucketed k [] (subst (λ (l : List CachedReply). All IsBucketed l) (drop-append_seam ks (k ∷ [])) (All-drop IsBucketed (length ks) (ks ++ k ∷ []) i))
