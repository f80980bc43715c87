-- Bytes that are put into pages, page by page.
use Rattle.std.proofs.Common.{◌≡◌, ◌≢◌, ℕ, ◌+◌, ◌-◌, ◌*◌, ◌/◌, ◌%◌, ◌<◌, ◌≤◌, List, Bool, true, false, if◌then◌else◌, ◌++◌, length, take, drop, get_or, min, max, refl, sym, ap, subst, ◌∙◌, arith}
use Rattle.std.proofs.lemmas.List.{get_or-take, get_or-drop, get_or_append_left, get_or-append_right, get_or_past, length-take, length-drop, length-append}
use Rattle.nfs_content.specs.Paged.{byte_at, AreShort, Holds, MoreRoom, SameElsewhere, Puts, Writes}
use Rattle.nfs_content.proofs.Lists.{by_number, by_less}

-- ---- one page

pub where_so : (x y z : List ℕ) (b : Bool) → b ≡ true → z ≡ (if b then x else y) → z ≡ x
where_so x y z true so e = e
where_so x y z false so e = cc

pub puts_alike : (a : List ℕ) (at : ℕ) (bytes b p q : List ℕ) → a ≡ p → b ≡ q → Puts p at bytes q → Puts a at bytes b
puts_alike a at bytes b p q e f puts = record {
  inside = λ i from to. ap (λ (l : List ℕ). get_or l i 0) f ∙ puts.inside i from to;
  before = λ i to. ap (λ (l : List ℕ). get_or l i 0) f ∙ puts.before i to ∙ sym (ap (λ (l : List ℕ). get_or l i 0) e);
  after = λ i from. ap (λ (l : List ℕ). get_or l i 0) f ∙ puts.after i from ∙ sym (ap (λ (l : List ℕ). get_or l i 0) e);
  short = λ small room. let la = ap (λ (l : List ℕ). length l) e in let lb = ap (λ (l : List ℕ). length l) f in
      let low = puts.short (omega (arith, la, small)) room in omega (arith, lb, low);
}

-- bytes over others, and the rest of them after the last
module _ (old reached mid : List ℕ) (at over : ℕ) (bytes : List ℕ)
    (same : (i : ℕ) → get_or reached i 0 ≡ get_or old i 0) (len : length reached ≡ max (length old) at) (over_is : over ≡ min (length bytes) (length reached - at))
    (puts : Puts reached at (take over bytes) mid) (as_long : length mid ≡ length reached) where
  abbrev now : List ℕ
  now = mid ++ drop over bytes

  now_len : length now ≡ max (length reached) (at + length bytes)
  now_len = let whole = length-append mid (drop over bytes) in let rest = length-drop over bytes in omega (arith, whole, rest, as_long, len, over_is)

  first_len : length (take over bytes) ≡ over
  first_len = let n = length-take over bytes in omega (arith, n, over_is)

  front : (i : ℕ) → i < length mid → get_or now i 0 ≡ get_or mid i 0
  front i to = get_or_append_left mid (drop over bytes) 0 i to

  pub puts_whole : Puts old at bytes now
  puts_whole = record {
    inside = λ i from to. by_less i (length mid)
        (λ less. let n = first_len in front i less ∙ puts.inside i from (omega (arith, less, from, to, n, over_is, as_long)) ∙ get_or-take over bytes (i - at) 0 (omega (arith, less, from, to, over_is, as_long)))
        (λ history. get_or-append_right mid (drop over bytes) (length mid) i 0 refl history ∙ get_or-drop over bytes (i - length mid) 0
        ∙ ap (λ n. get_or bytes n 0) (let n : over + (i - length mid) ≡ i - at = omega (arith, history, from, to, over_is, as_long, len) in n));
    before = λ i to. front i (omega (arith, to, as_long, len)) ∙ puts.before i to ∙ same i;
    after = λ i from. by_less i (length mid)
        (λ less. let n = first_len in front i less ∙ puts.after i (omega (arith, from, n, over_is)) ∙ same i)
        (λ history. let n = now_len in get_or_past now i 0 (omega (arith, n, from, history, as_long)) ∙ get_or_past_is i history);
    short = λ small room. let n = now_len in omega (arith, n, small, room, len);
  }
    where
      get_or_past_is : (i : ℕ) → length mid ≤ i → 0 ≡ get_or old i 0
      get_or_past_is i history = sym (get_or_past old i 0 (omega (arith, history, as_long, len)))

-- ---- pages up to a place

-- the bytes with some others from an offset on, as far as this place
pub record HasPut (old : ℕ → List ℕ) (sizes : ℕ → ℕ) (offset : ℕ) (bytes : List ℕ) (place : ℕ) (now : ℕ → List ℕ) (now_sizes : ℕ → ℕ) : Type 0 where
  pub inside : (i : ℕ) → offset ≤ i → i < offset + length bytes → i / 4096 < place → byte_at now i ≡ get_or bytes (i - offset) 0
  pub before : (i : ℕ) → i < offset → byte_at now i ≡ byte_at old i
  pub after : (i : ℕ) → offset + length bytes ≤ i → byte_at now i ≡ byte_at old i
  pub later : (i : ℕ) → place ≤ i / 4096 → byte_at now i ≡ byte_at old i
  pub short : AreShort now
  pub room : MoreRoom sizes now_sizes
  pub from : offset / 4096 ≤ place

pub nothing_put : (old : ℕ → List ℕ) (sizes : ℕ → ℕ) (offset : ℕ) (bytes : List ℕ) → AreShort old → HasPut old sizes offset bytes (offset / 4096) old sizes
nothing_put old sizes offset bytes short = record {
  inside = λ i from to below. absurd (omega (arith, from, below));
  before = λ i to. refl;
  after = λ i from. refl;
  later = λ i from. refl;
  short = short;
  room = λ k. omega arith;
  from = omega arith;
}

pub all_put : (old : ℕ → List ℕ) (sizes : ℕ → ℕ) (offset : ℕ) (bytes : List ℕ) (place : ℕ) (now : ℕ → List ℕ) (now_sizes : ℕ → ℕ) → HasPut old sizes offset bytes place now now_sizes → (offset + length bytes - 1) / 4096 < place
    → Writes old offset bytes now
all_put old sizes offset bytes place now now_sizes h all = record {
  inside = λ i from to. h.inside i from to (omega (arith, to, all));
  before = h.before;
  after = h.after;
}

-- ---- the bytes of one place

module _ (old : ℕ → List ℕ) (sizes : ℕ → ℕ) (offset : ℕ) (bytes : List ℕ) (some : 0 < length bytes) (k : ℕ) (was : ℕ → List ℕ) (was_sizes : ℕ → ℕ)
    (h : HasPut old sizes offset bytes k was was_sizes) (last : k < (offset + length bytes - 1) / 4096 + 1)
    (start stop : ℕ) (start_is : start ≡ max (k * 4096) offset) (stop_is : stop ≡ min (offset + length bytes) (k * 4096 + 4096)) where
  low : offset / 4096 ≤ k
  low = h.from

  pub ordered : (offset ≤ start) × (start < stop) × (stop ≤ offset + length bytes) × (k * 4096 ≤ start) × (stop ≤ k * 4096 + 4096)
  ordered = (omega (arith, start_is), omega (arith, start_is, stop_is, low, last, some), omega (arith, stop_is), omega (arith, start_is), omega (arith, stop_is))

  abbrev pub chunk : List ℕ
  chunk = take (stop - offset - (start - offset)) (drop (start - offset) bytes)

  pub chunk_len : length chunk ≡ stop - start
  chunk_len =
      let o = ordered in let a = o.0 in let b = o.1 in let d = o.2 in
      let one = length-take (stop - offset - (start - offset)) (drop (start - offset) bytes) in
      let two = length-drop (start - offset) bytes in
      omega (arith, one, two, a, b, d)

  pub place_room : Holds sizes offset (offset + length bytes) → start - k * 4096 + length chunk ≤ was_sizes k
  place_room held =
      let o = ordered in let a = o.0 in let b = o.1 in let d = o.2 in let e = o.3 in let f = o.4 in
      let there : (stop - 1) / 4096 ≡ k = omega (arith, a, b, d, e, f) in
      let first = held (stop - 1) (omega (arith, a, b)) (omega (arith, b, d)) in
      let here : (stop - 1) % 4096 < sizes k = subst (λ j. (stop - 1) % 4096 < sizes j) there first in
      let more = h.room k in let len = chunk_len in
      omega (arith, here, more, len, a, b, d, e, f)

  pub chunk_some : 0 < length chunk
  chunk_some = let len = chunk_len in let o = ordered in let b = o.1 in omega (arith, len, b)

  module _ (now : ℕ → List ℕ) (now_sizes : ℕ → ℕ) (puts : Puts (was k) (start - k * 4096) chunk (now k)) (elsewhere : SameElsewhere was k now) (more : MoreRoom was_sizes now_sizes) where
    other_byte : (i : ℕ) → i / 4096 ≢ k → byte_at now i ≡ byte_at was i
    other_byte i other = ap (λ (p : List ℕ). get_or p (i % 4096) 0) (elsewhere (i / 4096) other)

    now_byte : (i : ℕ) → i / 4096 ≡ k → byte_at now i ≡ get_or (now k) (i % 4096) 0
    now_byte i is = ap (λ j. get_or (now j) (i % 4096) 0) is

    was_byte : (i : ℕ) → i / 4096 ≡ k → byte_at was i ≡ get_or (was k) (i % 4096) 0
    was_byte i is = ap (λ j. get_or (was j) (i % 4096) 0) is

    same_byte : (i : ℕ) → (i / 4096 ≡ k → get_or (now k) (i % 4096) 0 ≡ get_or (was k) (i % 4096) 0) → byte_at now i ≡ byte_at was i
    same_byte i here = by_number (i / 4096) k (λ is. now_byte i is ∙ here is ∙ sym (was_byte i is)) (λ other. other_byte i other)

    written_byte : (i : ℕ) → start ≤ i → i < stop → i / 4096 ≡ k → byte_at now i ≡ get_or bytes (i - offset) 0
    written_byte i from to is =
        let o = ordered in let a = o.0 in let d = o.3 in let len = chunk_len in
        let j : ℕ = i % 4096 - (start - k * 4096) in
        let at : start - offset + j ≡ i - offset = omega (arith, from, is, a, d) in
        now_byte i is
        ∙ puts.inside (i % 4096) (omega (arith, from, is, d)) (omega (arith, to, from, is, d, len))
        ∙ get_or-take (stop - offset - (start - offset)) (drop (start - offset) bytes) j 0 (omega (arith, from, to, is, a, d))
        ∙ get_or-drop (start - offset) bytes j 0
        ∙ ap (λ n. get_or bytes n 0) at

    pub put_more : HasPut old sizes offset bytes (k + 1) now now_sizes
    put_more =
        let o = ordered in let a = o.0 in let b = o.1 in let d = o.2 in let f = o.3 in let g = o.4 in let len = chunk_len in record {
          inside = λ i from to below. by_number (i / 4096) k
              (λ is. written_byte i (omega (arith, start_is, from, is)) (omega (arith, stop_is, to, is)) is)
              (λ other. other_byte i other ∙ h.inside i from to (omega (arith, below, other)));
          before = λ i to. same_byte i (λ is. puts.before (i % 4096) (omega (arith, to, is, a, f))) ∙ h.before i to;
          after = λ i from. same_byte i (λ is. puts.after (i % 4096) (omega (arith, from, is, d, f, b, len))) ∙ h.after i from;
          later = λ i from. other_byte i (λ is. omega (arith, from, is)) ∙ h.later i (omega (arith, from));
          short = λ j. by_number j k
              (λ same. subst (λ n. length (now n) ≤ 4096) (sym same) (puts.short (h.short k) (omega (arith, len, f, g, b))))
              (λ other. subst (λ (p : List ℕ). length p ≤ 4096) (sym (elsewhere j other)) (h.short j));
          room = λ j. let one = h.room j in let two = more j in omega (arith, one, two);
          from = omega (arith, low);
        }

-- ---- room for the bytes of one place

pub held_more : (start end k size : ℕ) (was now : ℕ → ℕ) → ((i : ℕ) → start ≤ i → i < end → i / 4096 < k → i % 4096 < was (i / 4096)) → MoreRoom was now → size ≤ now k → size ≡ min (end - k * 4096) 4096
    → (i : ℕ) → start ≤ i → i < end → i / 4096 < k + 1 → i % 4096 < now (i / 4096)
held_more start end k size was now before more large is i from to below = by_number (i / 4096) k
    (λ same. subst (λ j. i % 4096 < now j) (sym same) (omega (arith, large, is, same, to)))
    (λ other. let low = before i from to (omega (arith, below, other)) in let larger = more (i / 4096) in omega (arith, low, larger))
