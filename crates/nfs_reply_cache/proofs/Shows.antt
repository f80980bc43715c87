-- What the places show of look-ups among what is kept.
use Rattle.std.proofs.Common.{◌≡◌, ◌<◌, ◌≤◌, ◌-◌, ℕ, zero, suc, length, arith, Bool, true, false, cond, List, [], ◌∷◌, ◌++◌, take, drop, is_some, Option, Some, None, refl, sym, ap, subst, ◌∙◌}
use Rattle.std.specs.Prelude.{slice_index_or, ⊤}
use Rattle.std.specs.List.{remove}
use Rattle.std.proofs.Math.Seq.{take-append_seam}
use Rattle.std.proofs.lemmas.List.{length-map, length_push, map-append}
use Rattle.nfs_reply_cache.specs.declared.cached_reply.CachedReply.{CachedReply}
use Rattle.nfs_reply_cache.specs.Places.{Key, Place, same, place_for, cached_reply, without}
use Rattle.nfs_reply_cache.specs.Shown.{IsFirstFor, key_of, moved_first, place_of, places_of}
use Rattle.nfs_reply_cache.proofs.Places.{same_keys}

-- ---- the first that is kept for a key

skipped : {X : Type 0} (b : Bool) (x y : X) → b ≡ false → cond b x y ≡ y
skipped b x y e = ap (λ t. cond t x y) e

taken : {X : Type 0} (b : Bool) (x y : X) → b ≡ true → cond b x y ≡ x
taken b x y e = ap (λ t. cond t x y) e

-- its reply is found
found : (key : Key) (n : ℕ) (ks : List CachedReply) → IsFirstFor key n ks
    → (reply : List ℕ) × (cached_reply key (places_of ks) ≡ Some reply) × (places_of (take 1 (drop n ks)) ≡ place_for key reply ∷ [])
found key n [] f = absurd f
found key zero (k ∷ ks) f = (k.reply.value.items, taken (same key (key_of k)) (Some k.reply.value.items) (cached_reply key (places_of ks)) f, ap (λ (other : Key). place_for other k.reply.value.items ∷ []) (sym (same_keys key (key_of k) f)))
found key (suc n) (k ∷ ks) f = let after = found key n ks f.1 in
    (after.0, skipped (same key (key_of k)) (Some k.reply.value.items) (cached_reply key (places_of ks)) f.0 ∙ after.1, after.2)

-- the others are those without the key
others : (key : Key) (n : ℕ) (ks : List CachedReply) → IsFirstFor key n ks → places_of (remove ks n) ≡ without key (places_of ks)
others key n [] f = absurd f
others key zero (k ∷ ks) f = sym (taken (same key (key_of k)) (places_of ks) (place_of k ∷ without key (places_of ks)) f)
others key (suc n) (k ∷ ks) f =
    ap (λ ps. place_of k ∷ ps) (others key n ks f.1) ∙ sym (skipped (same key (key_of k)) (places_of ks) (place_of k ∷ without key (places_of ks)) f.0)

-- its place goes first
pub shows_found : (key : Key) (n : ℕ) (ks : List CachedReply) → IsFirstFor key n ks
    → (reply : List ℕ) × (cached_reply key (places_of ks) ≡ Some reply) × (places_of (moved_first n ks) ≡ place_for key reply ∷ without key (places_of ks))
shows_found key n ks f = let it = found key n ks f in
    (it.0, it.1, map-append place_of (take 1 (drop n ks)) (remove ks n) ∙ ap (λ ps. ps ++ places_of (remove ks n)) it.2 ∙ ap (λ ps. place_for key it.0 ∷ ps) (others key n ks f))

-- ---- what a look-up answers

pub none_some : {X : Type 0} {x : X} → None ≡ Some x → ⊥
none_some e = cc

none_by : (o : Option (List ℕ)) → is_some o ≡ false → o ≡ None
none_by None e = refl
none_by (Some r) e = cc

pub none_found : (key : Key) (ps : List Place) → is_some (cached_reply key ps) ≡ false → cached_reply key ps ≡ None
none_found key ps e = none_by (cached_reply key ps) e

pub same_reply : (a b : List ℕ) → Some a ≡ Some b → a ≡ b
same_reply a b e = cc

-- ---- one after another

-- none of the first n is kept for the key
abbrev pub NoneBefore : Key → ℕ → List CachedReply → Type 0
NoneBefore key zero ks = ⊤
NoneBefore key (suc n) [] = ⊤
NoneBefore key (suc n) (k ∷ ks) = (same key (key_of k) ≡ false) × NoneBefore key n ks

pub first_at : (key : Key) (n : ℕ) (ks : List CachedReply) (d : CachedReply) → NoneBefore key n ks → n < length ks → same key (key_of (slice_index_or ks n d)) ≡ true → IsFirstFor key n ks
first_at key n [] d none within here = absurd (omega (arith, within))
first_at key zero (k ∷ ks) d none within here = here
first_at key (suc n) (k ∷ ks) d none within here = (none.0, first_at key n ks d none.1 (omega (arith, within)) here)

pub one_more : (key : Key) (n : ℕ) (ks : List CachedReply) (d : CachedReply) → NoneBefore key n ks → same key (key_of (slice_index_or ks n d)) ≡ false → NoneBefore key (suc n) ks
one_more key zero [] d none other = tt
one_more key zero (k ∷ ks) d none other = (other, tt)
one_more key (suc n) [] d none other = tt
one_more key (suc n) (k ∷ ks) d none other = (none.0, one_more key n ks d none.1 other)

pub none_of_all : (key : Key) (ks : List CachedReply) → NoneBefore key (length ks) ks → cached_reply key (places_of ks) ≡ None
none_of_all key [] none = refl
none_of_all key (k ∷ ks) none = skipped (same key (key_of k)) (Some k.reply.value.items) (cached_reply key (places_of ks)) none.0 ∙ none_of_all key ks none.1

pub first_within : (key : Key) (n : ℕ) (ks : List CachedReply) → IsFirstFor key n ks → n < length ks
first_within key n [] f = absurd f
first_within key zero (k ∷ ks) f = omega arith
first_within key (suc n) (k ∷ ks) f = let after = first_within key n ks f.1 in omega (arith, after)

-- the one that is taken out stands where it stood
pub stood : (n : ℕ) (ks : List CachedReply) (k : CachedReply) → n < length ks → k ≡ slice_index_or ks n k → k ∷ [] ≡ take 1 (drop n ks)
stood n [] k within is = absurd (omega (arith, within))
stood zero (j ∷ ks) k within is = ap (λ (x : CachedReply). x ∷ []) is
stood (suc n) (j ∷ ks) k within is = stood n ks k (omega (arith, within)) is

-- ---- how many there are

pub few_places : (ks : List CachedReply) (most : ℕ) → length ks ≤ most → length (places_of ks) ≤ most
few_places ks most few = subst (λ n. n ≤ most) (sym (length-map ks place_of)) few

-- those before the last one
pub all_but_last : (ks rest : List CachedReply) (last : CachedReply) (most : ℕ) → ks ≡ rest ++ last ∷ [] → length ks ≡ most → take (most - 1) (places_of ks) ≡ places_of rest
all_but_last ks rest last most is len =
    let whole : length ks ≡ length (rest ++ last ∷ []) = ap length is in
    let more = length_push rest last in
    let shown = length-map rest place_of in
    let n : most - 1 ≡ length (places_of rest) = omega (arith, len, whole, more, shown) in
    ap (λ m. take m (places_of ks)) n ∙ ap (λ (l : List CachedReply). take (length (places_of rest)) (places_of l)) is
    ∙ ap (take (length (places_of rest))) (map-append place_of rest (last ∷ [])) ∙ take-append_seam (places_of rest) (places_of (last ∷ []))
