-- Lists of bytes that are shown of pages.
use Rattle.std.proofs.Common.{inl, inr, ◌⊎◌, ◌≡◌, ℕ, ◌+◌, ◌-◌, ◌/◌, ◌%◌, ◌<◌, ◌≤◌, List, [], ◌∷◌, ◌++◌, length, take, drop, get_or, min, max, refl, sym, ap, subst, ◌∙◌, arith}
use Rattle.std.proofs.lemmas.Bool.{cases_lt}
use Rattle.std.proofs.lemmas.List.{ext_get_or, get_or-take, get_or-drop, get_or_past, get_or_append_left, get_or-append_right, get_or-replicate, length-take, length-drop, length-replicate, length-append, take-append-drop}
use Rattle.std.proofs.lemmas.List.FromFn.{length-map-range_with_len, get_or-map-range_with_len}
use Rattle.nfs_content.specs.Bytes.{IsFirstChunk, zeros, put_bytes, sized}
use Rattle.nfs_content.specs.Paged.{byte_at, shown, AreShort, IsPaged, SamePages, Writes, Cuts}

by_less : {P : Type 0} (a b : ℕ) → (a < b → P) → (b ≤ a → P) → P
by_less {P} a b p q = choose (cases_lt a b)
  where
    choose : (a < b) ⊎ (b ≤ a) → P
    choose (inl l) = p l
    choose (inr m) = q m

-- ---- bytes that are put, one by one

module _ (old : List ℕ) (offset : ℕ) (new : List ℕ) where
  gap_len : length (take offset old ++ zeros (offset - length old)) ≡ offset
  gap_len =
      let whole = length-append (take offset old) (zeros (offset - length old)) in
      let first = length-take offset old in
      let rest = length-replicate {A = ℕ} (offset - length old) 0 in
      omega (arith, whole, first, rest)

  front_len : length (take offset old ++ zeros (offset - length old) ++ new) ≡ offset + length new
  front_len = let whole = length-append (take offset old ++ zeros (offset - length old)) new in let first = gap_len in omega (arith, whole, first)

  pub put_len : length (put_bytes old offset new) ≡ max (length old) (offset + length new)
  put_len =
      let whole = length-append (take offset old ++ zeros (offset - length old) ++ new) (drop (offset + length new) old) in
      let first = front_len in
      let rest = length-drop (offset + length new) old in
      omega (arith, whole, first, rest)

  in_front : (i : ℕ) → i < offset + length new → get_or (put_bytes old offset new) i 0 ≡ get_or (take offset old ++ zeros (offset - length old) ++ new) i 0
  in_front i to = let first = front_len in get_or_append_left (take offset old ++ zeros (offset - length old) ++ new) (drop (offset + length new) old) 0 i (omega (arith, to, first))

  pub put_before : (i : ℕ) → i < offset → get_or (put_bytes old offset new) i 0 ≡ get_or old i 0
  put_before i to =
      let first = gap_len in
      in_front i (omega (arith, to))
      ∙ get_or_append_left (take offset old ++ zeros (offset - length old)) new 0 i (omega (arith, to, first))
      ∙ by_less i (length old)
      (λ less. let len = length-take offset old in get_or_append_left (take offset old) (zeros (offset - length old)) 0 i (omega (arith, less, to, len)) ∙ get_or-take offset old i 0 to)
      (λ history. let len = length-take offset old in
      get_or-append_right (take offset old) (zeros (offset - length old)) (length old) i 0 (omega (arith, history, to, len)) history
      ∙ get_or-replicate (offset - length old) (i - length old) 0 0 (omega (arith, history, to)) ∙ sym (get_or_past old i 0 history))

  pub put_inside : (i : ℕ) → offset ≤ i → i < offset + length new → get_or (put_bytes old offset new) i 0 ≡ get_or new (i - offset) 0
  put_inside i from to = in_front i to ∙ get_or-append_right (take offset old ++ zeros (offset - length old)) new offset i 0 gap_len from

  pub put_after : (i : ℕ) → offset + length new ≤ i → get_or (put_bytes old offset new) i 0 ≡ get_or old i 0
  put_after i from =
      get_or-append_right (take offset old ++ zeros (offset - length old) ++ new) (drop (offset + length new) old) (offset + length new) i 0 front_len from
      ∙ get_or-drop (offset + length new) old (i - (offset + length new)) 0
      ∙ ap (λ n. get_or old n 0) (let n : offset + length new + (i - (offset + length new)) ≡ i = omega (arith, from) in n)

-- ---- a size

module _ (old : List ℕ) (size : ℕ) where
  pub sized_len : length (sized old size) ≡ size
  sized_len =
      let whole = length-append (take size old) (zeros (size - length old)) in
      let first = length-take size old in
      let rest = length-replicate {A = ℕ} (size - length old) 0 in
      omega (arith, whole, first, rest)

  pub sized_at : (i : ℕ) → i < size → get_or (sized old size) i 0 ≡ get_or old i 0
  sized_at i to = let len = length-take size old in by_less i (length old)
      (λ less. get_or_append_left (take size old) (zeros (size - length old)) 0 i (omega (arith, less, to, len)) ∙ get_or-take size old i 0 to)
      (λ history. get_or-append_right (take size old) (zeros (size - length old)) (length old) i 0 (omega (arith, history, to, len)) history
      ∙ get_or-replicate (size - length old) (i - length old) 0 0 (omega (arith, history, to)) ∙ sym (get_or_past old i 0 history))

pub sized_none : (old : List ℕ) (size : ℕ) → size ≡ 0 → [] ≡ sized old size
sized_none old size none = nothing (sized old size) (sized_len old size ∙ none)
  where
    nothing : (xs : List ℕ) → length xs ≡ 0 → [] ≡ xs
    nothing [] e = refl
    nothing (x ∷ xs) e = absurd (omega (arith, e))

-- ---- what is shown

module _ (ps : ℕ → List ℕ) (len : ℕ) where
  pub shown_len : length (shown ps len) ≡ len
  shown_len = length-map-range_with_len (byte_at ps) 0 len

  pub shown_at : (i : ℕ) → i < len → get_or (shown ps len) i 0 ≡ byte_at ps i
  shown_at i to = get_or-map-range_with_len (byte_at ps) 0 len i i 0 to (omega arith)

  pub shown_any : IsPaged ps len → (i : ℕ) → get_or (shown ps len) i 0 ≡ byte_at ps i
  shown_any h i = by_less i len (shown_at i) (λ history. let n = shown_len in get_or_past (shown ps len) i 0 (omega (arith, n, history)) ∙ sym (h.zero i history))

-- a list is shown where its bytes are those
pub shown_as : (ps : ℕ → List ℕ) (len : ℕ) (xs : List ℕ) → length xs ≡ len → ((i : ℕ) → i < len → byte_at ps i ≡ get_or xs i 0) → shown ps len ≡ xs
shown_as ps len xs size each =
    let n = shown_len ps len in
    ext_get_or 0 (shown ps len) xs (n ∙ sym size) (λ i to. let less : i < len = omega (arith, to, n) in shown_at ps len i less ∙ each i less)

module _ (old new : ℕ → List ℕ) (len : ℕ) (h : IsPaged old len) where
  pub put_shown : (offset : ℕ) (bytes : List ℕ) (size : ℕ) → size ≡ max len (offset + length bytes) → Writes old offset bytes new → shown new size ≡ put_bytes (shown old len) offset bytes
  put_shown offset bytes size is writes =
      let n = shown_len old len in let all = put_len (shown old len) offset bytes in
      shown_as new size (put_bytes (shown old len) offset bytes) (omega (arith, n, all, is)) (λ i to. by_less i offset
      (λ less. writes.before i less ∙ sym (shown_any old len h i) ∙ sym (put_before (shown old len) offset bytes i less))
      (λ from. by_less i (offset + length bytes)
      (λ within. writes.inside i from within ∙ sym (put_inside (shown old len) offset bytes i from within))
      (λ history. writes.after i history ∙ sym (shown_any old len h i) ∙ sym (put_after (shown old len) offset bytes i history))))

  pub put_paged : (offset : ℕ) (bytes : List ℕ) (size : ℕ) → size ≡ max len (offset + length bytes) → Writes old offset bytes new → AreShort new → IsPaged new size
  put_paged offset bytes size is writes short = record { short = short; zero = λ i history. writes.after i (omega (arith, history, is)) ∙ h.zero i (omega (arith, history, is)) }

  pub cut_shown : (size : ℕ) → Cuts old size new → shown new size ≡ sized (shown old len) size
  cut_shown size cuts = shown_as new size (sized (shown old len) size) (sized_len (shown old len) size) (λ i to. cuts.before i to ∙ sym (shown_any old len h i) ∙ sym (sized_at (shown old len) size i to))

  pub cut_paged : (size : ℕ) → Cuts old size new → AreShort new → IsPaged new size
  cut_paged size cuts short = record { short = short; zero = cuts.after }

-- room alone changes nothing
module _ (old new : ℕ → List ℕ) (same : SamePages old new) where
  same_bytes : (i : ℕ) → byte_at new i ≡ byte_at old i
  same_bytes i = ap (λ (p : List ℕ). get_or p (i % 4096) 0) (same (i / 4096))

  pub same_shown : (len : ℕ) → shown new len ≡ shown old len
  same_shown len = let n = shown_len old len in shown_as new len (shown old len) n (λ i to. same_bytes i ∙ sym (shown_at old len i to))

  pub same_short : AreShort old → AreShort new
  same_short short = λ k. subst (λ (p : List ℕ). length p ≤ 4096) (sym (same k)) (short k)

  pub same_paged : (len : ℕ) → IsPaged old len → IsPaged new len
  same_paged len h = record { short = same_short h.short; zero = λ i history. same_bytes i ∙ h.zero i history }

pub grown_shown : (old : ℕ → List ℕ) (len size : ℕ) → IsPaged old len → shown old size ≡ sized (shown old len) size
grown_shown old len size h = shown_as old size (sized (shown old len) size) (sized_len (shown old len) size) (λ i to. sym (shown_any old len h i) ∙ sym (sized_at (shown old len) size i to))

pub grown_paged : (old : ℕ → List ℕ) (len size : ℕ) → IsPaged old len → len ≤ size → IsPaged old size
grown_paged old len size h more = record { short = h.short; zero = λ i history. h.zero i (omega (arith, history, more)) }

-- ---- no page

module _ (ps : ℕ → List ℕ) (none : (k : ℕ) → ps k ≡ []) where
  no_byte : (i : ℕ) → byte_at ps i ≡ 0
  no_byte i = ap (λ (p : List ℕ). get_or p (i % 4096) 0) (none (i / 4096)) ∙ get_or_past [] (i % 4096) 0 (omega arith)

  pub zeros_shown : (len : ℕ) → shown ps len ≡ zeros len
  zeros_shown len = shown_as ps len (zeros len) (length-replicate {A = ℕ} len 0) (λ i to. no_byte i ∙ sym (get_or-replicate len i 0 0 to))

  pub none_paged : (len : ℕ) → IsPaged ps len
  none_paged len = record { short = λ k. subst (λ (p : List ℕ). length p ≤ 4096) (sym (none k)) (omega arith); zero = λ i history. no_byte i }

-- ---- a first run

pub is_chunk : (xs run : List ℕ) (offset : ℕ) → 0 < length run → offset + length run ≤ length xs → ((j : ℕ) → j < length run → get_or xs (offset + j) 0 ≡ get_or run j 0) → IsFirstChunk run (drop offset xs)
is_chunk xs run offset some within each = record {
  rest = drop (length run) (drop offset xs);
  bytes_are = sym (take-append-drop (length run) (drop offset xs)) ∙ ap (λ r. r ++ drop (length run) (drop offset xs)) first;
  some = λ none. absurd (let e = ap length none in omega (arith, some, e));
}
  where
    first : take (length run) (drop offset xs) ≡ run
    first =
        let whole = length-take (length run) (drop offset xs) in let left = length-drop offset xs in
        ext_get_or 0 (take (length run) (drop offset xs)) run (omega (arith, whole, left, within)) (λ j to. let less : j < length run = omega (arith, to, whole, left, within) in
        get_or-take (length run) (drop offset xs) j 0 less ∙ get_or-drop offset xs j 0 ∙ each j less)

pub no_chunk : (xs : List ℕ) (offset : ℕ) → length xs ≤ offset → IsFirstChunk [] (drop offset xs)
no_chunk xs offset history = record { rest = drop offset xs; bytes_are = refl; some = λ none. nothing (drop offset xs) (let n = length-drop offset xs in omega (arith, n, history)) }
  where
    nothing : (ys : List ℕ) → length ys ≡ 0 → ys ≡ []
    nothing [] e = refl
    nothing (y ∷ ys) e = absurd (omega (arith, e))

module _ (ps : ℕ → List ℕ) (len offset : ℕ) (h : IsPaged ps len) (to : offset < len) where
  place_byte : (j : ℕ) → offset % 4096 + j < 4096 → offset + j < len → get_or (shown ps len) (offset + j) 0 ≡ get_or (ps (offset / 4096)) (offset % 4096 + j) 0
  place_byte j low within =
      let place : (offset + j) / 4096 ≡ offset / 4096 = omega (arith, low) in
      let at : (offset + j) % 4096 ≡ offset % 4096 + j = omega (arith, low) in
      shown_at ps len (offset + j) within ∙ ap (λ k. get_or (ps k) ((offset + j) % 4096) 0) place ∙ ap (λ n. get_or (ps (offset / 4096)) n 0) at

  pub kept_chunk : (most end : ℕ) → most ≡ min (len - offset) (4096 - offset % 4096) → end ≡ min (length (ps (offset / 4096))) (offset % 4096 + most) → offset % 4096 < length (ps (offset / 4096))
      → IsFirstChunk (take (end - offset % 4096) (drop (offset % 4096) (ps (offset / 4096)))) (drop offset (shown ps len))
  kept_chunk most end most_is end_is some =
      let p = ps (offset / 4096) in
      let m : ℕ = end - offset % 4096 in
      let run_len = length-take m (drop (offset % 4096) p) in let left = length-drop (offset % 4096) p in
      let size : length (take m (drop (offset % 4096) p)) ≡ m = omega (arith, run_len, left, end_is, some) in
      let all = shown_len ps len in
      is_chunk (shown ps len) (take m (drop (offset % 4096) p)) offset (omega (arith, size, end_is, most_is, some, to)) (omega (arith, size, end_is, most_is, some, to, all)) (λ j less.
      place_byte j (omega (arith, less, size, end_is, most_is, some)) (omega (arith, less, size, end_is, most_is, to))
      ∙ sym (get_or-take m (drop (offset % 4096) p) j 0 (omega (arith, less, size)) ∙ get_or-drop (offset % 4096) p j 0))

  pub hole_chunk : (most : ℕ) → most ≡ min (len - offset) (4096 - offset % 4096) → length (ps (offset / 4096)) ≤ offset % 4096 → IsFirstChunk (zeros most) (drop offset (shown ps len))
  hole_chunk most most_is none =
      let size = length-replicate {A = ℕ} most 0 in
      let all = shown_len ps len in
      is_chunk (shown ps len) (zeros most) offset (omega (arith, size, most_is, to)) (omega (arith, size, most_is, to, all)) (λ j less.
      place_byte j (omega (arith, less, size, most_is)) (omega (arith, less, size, most_is, to))
      ∙ get_or_past (ps (offset / 4096)) (offset % 4096 + j) 0 (omega (arith, none)) ∙ sym (get_or-replicate most j 0 0 (omega (arith, less, size))))

-- ---- the first page alone

module _ (ps : ℕ → List ℕ) (p : List ℕ) (first : ps 0 ≡ p) (rest : (k : ℕ) → 0 < k → ps k ≡ []) (small : length p ≤ 4096) where
  first_byte : (i : ℕ) → i < 4096 → byte_at ps i ≡ get_or p i 0
  first_byte i low =
      let place : i / 4096 ≡ 0 = omega (arith, low) in
      let at : i % 4096 ≡ i = omega (arith, low) in
      ap (λ k. get_or (ps k) (i % 4096) 0) place ∙ ap (λ (q : List ℕ). get_or q (i % 4096) 0) first ∙ ap (λ n. get_or p n 0) at

  pub one_shown : shown ps (length p) ≡ p
  one_shown = shown_as ps (length p) p refl (λ i to. first_byte i (omega (arith, to, small)))

  pub one_paged : IsPaged ps (length p)
  one_paged = record {
    short = λ k. by_less 0 k (λ history. subst (λ (q : List ℕ). length q ≤ 4096) (sym (rest k history)) (omega arith))
        (λ none. subst (λ j. length (ps j) ≤ 4096) (let e : 0 ≡ k = omega (arith, none) in e) (subst (λ (q : List ℕ). length q ≤ 4096) (sym first) small));
    zero = λ i history. by_less i 4096
        (λ low. first_byte i low ∙ get_or_past p i 0 history)
        (λ high. ap (λ (q : List ℕ). get_or q (i % 4096) 0) (rest (i / 4096) (omega (arith, high))) ∙ get_or_past [] (i % 4096) 0 (omega arith));
  }
