-- Which slots are vacant, and what becomes of them where one slot changes.
use Rattle.std.proofs.Common.{◌≡◌, ◌≢◌, ℕ, zero, suc, ◌+◌, ◌-◌, ◌<◌, ◌≤◌, cond, List, [], ◌∷◌, ◌++◌, length, append-nil, get_or, set, Result, Ok, OnOk, Option, Some, None, IsSome, IfSome, IfNone, is_some, nat_eq, nat_lt, nat_cmp, count_by, slice_get, IsPermutation, sym, ap, subst, refl, ◌∙◌, true≢false, ltb-true, ltb-false, eq-eqb, length-set, get_or-set_same, get_or-set_other, arith}
use Rattle.std.specs.BinaryHeap.{IsHeap, IsUpperBound, KeepsHeap, PopsGreatest}
use Rattle.std.specs.List.{AllByRecursion, filter}
use Rattle.std.specs.declared.cmp.Reverse.{Reverse}
use Rattle.std.proofs.HeapSift.{at_most}
use Rattle.std.proofs.lemmas.List.{get_or_default, get_or_past, get_or_push, get_or_append_left, length_push}
use Rattle.std.proofs.lemmas.List.Sums.{sum_by-cons, sum_by-set, sum_by_push, get_or-le-sum_by, count_by-le-length}
use Rattle.std.proofs.lemmas.List.Sorted.{sum_by_pushed, sum_by_popped, sum_by-IsPermutation, length_permutation}
use Rattle.std.specs.Option.{option_to_list}
use Rattle.std.proofs.lemmas.Option.{slice_get-get_or, get_or_from_slice_get}
use Rattle.nfs_handles.specs.SlotList.{SlotList, AllHeld, get, with_value, IsNextSlot, Updates}
use Rattle.nfs_handles.specs.VacantSlots.{times, vacancies, EndsHeld, HasVacant, Pops, PopsVacant}
use Rattle.nfs_handles.proofs.Leading.{by_test, by_number, not_equal, if_true, if_false}

pub none_left : (n : ℕ) → (0 < n → ⊥) → n ≡ 0
none_left n none = omega (arith, none)

pub of_ok : {A E P : Type 0} (r : Result A E) (x : A) → r ≡ Ok x → OnOk r P → P
of_ok {P = P} r x is p = subst (λ r. OnOk r P) is p

-- ---- one slot changes

module _ {X : Type 0} where
  pub Updates-set : (old new : SlotList X) (slot : ℕ) (held : Option X) → slot < length old.slots → new.slots ≡ set old.slots slot held → Updates old new slot held
  Updates-set old new slot held within written = record {
    changed = rw written (get_or-set_same old.slots slot held None within);
    others = λ other differs. rw written (get_or-set_other old.slots slot other held None differs);
  }

  pub Updates-push : (old new : SlotList X) (held : Option X) → new.slots ≡ old.slots ++ held ∷ [] → Updates old new (length old.slots) held
  Updates-push old new held written = record {
    changed = rw written (get_or_push old.slots held None (length old.slots) refl);
    others = λ other differs. rw written (by_test (nat_lt other (length old.slots))
        (λ y. get_or_append_left old.slots (held ∷ []) None other (ltb-true other (length old.slots) y))
        (λ n.
        let from : length old.slots ≤ other = ltb-false other (length old.slots) n in
        get_or_past (old.slots ++ held ∷ []) other None (omega (arith, length_push old.slots held, from, differs))
        ∙ sym (get_or_past old.slots other None from)));
  }

  -- a slot that has a value is one of the slots
  pub held_within : (slots : List (Option X)) (slot : ℕ) → IsSome (get_or slots slot None) → slot < length slots
  held_within slots slot some = grind (arith, get_or_past)

  pub Updates-with_value : (s : SlotList X) (slot : ℕ) (value : X) → IsSome (get s slot) → Updates s (with_value s slot value) slot (Some value)
  Updates-with_value s slot value some = Updates-set s _ slot (Some value) (held_within s.slots slot some) refl

  -- the next value comes into one of the slots, or to the end
  pub next_within : (s : SlotList X) (slot : ℕ) → IsNextSlot s slot → slot ≢ length s.slots → slot < length s.slots
  next_within s slot next other = by_test (nat_lt (length s.slots) slot)
      (λ y. absurd (true≢false (sym (next.least (length s.slots) (ltb-true (length s.slots) slot y)) ∙ ap is_some (get_or_past s.slots (length s.slots) None (omega arith)))))
      (λ n. let from = ltb-false (length s.slots) slot n in omega (arith, from, other))

  -- what is read of a slot is in it
  pub held_in : (slots : List (Option X)) (slot : ℕ) (o : Option X) → slot < length slots → o ≡ get_or slots slot o → IsSome o → IsSome (get_or slots slot None)
  held_in slots slot o within read some = subst IsSome (read ∙ get_or_default slots slot o None within) some

  -- the last slot goes, which is vacant
  pub pops_one : (slots left news : List (Option X)) (r : Option (Option X)) → left ≡ news ++ option_to_list r → slice_get left (length left - 1) ≡ Some None → Pops slots left → Pops slots news
  pops_one slots left news None is none p = subst (Pops slots) (is ∙ append-nil news) p
  pops_one slots left news (Some o) is none p =
      let long : length left ≡ length news + 1 = ap length is ∙ length_push news o in
      let nothing : o ≡ None = sym (get_or_push news o None (length left - 1) (omega (arith, long))) ∙ ap (λ l. get_or l (length left - 1) None) (sym is) ∙ get_or_from_slice_get left (length left - 1) None None none in
      record {
        fewer = omega (arith, long, p.fewer);
        same = λ slot. one_less slot o nothing ∙ ap (λ l. get_or l slot None) (sym is) ∙ p.same slot;
        count = let more : count_by is_some (news ++ o ∷ []) ≡ count_by is_some news + cond (is_some o) 1 0 = sum_by_push (λ o. cond (is_some o) 1 0) news o in
            let whole : count_by is_some left ≡ count_by is_some (news ++ o ∷ []) = ap (count_by is_some) is in
            let zero : count_by is_some (news ++ o ∷ []) ≡ count_by is_some news + 0 = more ∙ ap (λ (o : Option X). count_by is_some news + cond (is_some o) 1 0) nothing in
            let so_far = p.count in
            omega (arith, whole, zero, so_far);
      }
    where
      one_less : (slot : ℕ) (o : Option X) → o ≡ None → get_or news slot None ≡ get_or (news ++ o ∷ []) slot None
      one_less slot o nothing = by_test (nat_lt slot (length news))
          (λ y. sym (get_or_append_left news (o ∷ []) None slot (ltb-true slot (length news) y)))
          (λ n.
          let from = ltb-false slot (length news) n in
          get_or_past news slot None from ∙ by_number slot (length news)
          (λ same. sym (get_or_push news o None slot (sym same) ∙ nothing))
          (λ other. sym (get_or_past (news ++ o ∷ []) slot None (omega (arith, from, other, length_push news o)))))

  pub no_pops : (slots : List (Option X)) → Pops slots slots
  no_pops slots = record { fewer = omega arith; same = λ slot. refl; count = refl }

  slice_get-set_same : (xs : List X) (k : ℕ) (x : X) → k < length xs → slice_get (set xs k x) k ≡ Some x
  slice_get-set_same [] k x within = absurd (omega (arith, within))
  slice_get-set_same (y ∷ ys) zero x within = refl
  slice_get-set_same (y ∷ ys) (suc k) x within = slice_get-set_same ys k x (omega (arith, within))

  slice_get-set_other : (xs : List X) (k j : ℕ) (x : X) → j ≢ k → slice_get (set xs k x) j ≡ slice_get xs j
  slice_get-set_other [] k j x other = refl
  slice_get-set_other (y ∷ ys) zero zero x other = absurd (other refl)
  slice_get-set_other (y ∷ ys) zero (suc j) x other = refl
  slice_get-set_other (y ∷ ys) (suc k) zero x other = refl
  slice_get-set_other (y ∷ ys) (suc k) (suc j) x other = slice_get-set_other ys k j x (λ same. other (ap suc same))

-- ---- how often a slot stands in the heap

abbrev counts : ℕ → Reverse ℕ → ℕ
counts slot r = cond (nat_eq slot r.0) 1 0

counts_same : (slot : ℕ) (r : Reverse ℕ) → slot ≡ r.0 → counts slot r ≡ 1
counts_same slot r same = if_true 1 0 (eq-eqb slot r.0 same)

counts_other : (slot : ℕ) (r : Reverse ℕ) → slot ≢ r.0 → counts slot r ≡ 0
counts_other slot r other = if_false 1 0 (not_equal slot r.0 other)

-- a slot below all that stand there doesn't
none_below : (low slot : ℕ) (heap : List (Reverse ℕ)) → AllByRecursion (λ r. low ≤ r.0) heap → slot < low → times slot heap ≡ 0
none_below low slot [] above less = refl
none_below low slot (r ∷ rs) above less =
    let here : counts slot r ≡ 0 = counts_other slot r (λ same. let up = above.0 in omega (arith, up, less, same)) in
    let there : times slot rs ≡ 0 = none_below low slot rs above.1 less in
    sum_by-cons (counts slot) r rs ∙ omega (arith, here, there)

-- the top is the least
all_above : (top : Reverse ℕ) (heap : List (Reverse ℕ)) → IsUpperBound (λ x y. nat_cmp y.0 x.0) top heap → AllByRecursion (λ r. top.0 ≤ r.0) heap
all_above top [] bound = tt
all_above top (r ∷ rs) bound = (at_most r.0 top.0 bound.0, all_above top rs bound.1)

-- where a slot stands first, it stands there
first_stands : (top : Reverse ℕ) (heap : List (Reverse ℕ)) → 0 < length heap → top ≡ get_or heap 0 top → 0 < times top.0 heap
first_stands top heap some first =
    let one : counts top.0 (get_or heap 0 top) ≡ 1 = counts_same top.0 (get_or heap 0 top) (ap (λ (r : Reverse ℕ). r.0) first) in
    omega (arith, one, get_or-le-sum_by (counts top.0) heap 0 top some)

-- what is beyond the end doesn't count
times_within : (end slot : ℕ) (heap : List (Reverse ℕ)) → slot < end → times slot (filter (λ (r : Reverse ℕ). nat_lt r.0 end) heap) ≡ times slot heap
times_within end slot [] within = refl
times_within end slot (r ∷ rs) within =
    let rest = times_within end slot rs within in
    by_test (nat_lt r.0 end)
    (λ y. ap (times slot) (if_true (r ∷ kept) kept y) ∙ sum_by-cons (counts slot) r kept ∙ ap (λ n. counts slot r + n) rest ∙ sym (sum_by-cons (counts slot) r rs))
    (λ n.
    let beyond = ltb-false r.0 end n in
    let none : counts slot r ≡ 0 = counts_other slot r (λ same. omega (arith, beyond, within, same)) in
    ap (times slot) (if_false (r ∷ kept) kept n) ∙ rest ∙ (let all = sum_by-cons (counts slot) r rs in omega (arith, all, none)))
  where
    kept : List (Reverse ℕ)
    kept = filter (λ (r : Reverse ℕ). nat_lt r.0 end) rs

-- ---- what is vacant

module _ {X : Type 0} where
  abbrev holds : Option X → ℕ
  holds o = cond (is_some o) 1 0

  is_vacant : (o : Option (Option X)) → 0 < vacancies o → o ≡ Some None
  is_vacant None some = absurd (omega (arith, some))
  is_vacant (Some None) some = refl
  is_vacant (Some (Some x)) some = absurd (omega (arith, some))

  is_held : (o : Option X) → (o ≡ None → ⊥) → IsSome o
  is_held None f = absurd (f refl)
  is_held (Some x) f = refl

  no_vacancy : (o : Option X) → IsSome o → vacancies (Some o) ≡ 0
  no_vacancy None some = cc
  no_vacancy (Some x) some = refl

  holds_one : (o : Option X) → IsSome o → holds o ≡ 1
  holds_one o some = if_true 1 0 some

  -- no slots, and none vacant
  pub none_vacant : (slots : List (Option X)) (heap : List (Reverse ℕ)) (capacity : ℕ) → slots ≡ [] → heap ≡ [] → IsHeap (λ x y. nat_cmp y.0 x.0) heap → HasVacant slots heap capacity
  none_vacant slots heap capacity no_slots no_heap order =
      subst (λ l. HasVacant l heap capacity) (sym no_slots) (record {
        least_first = order;
        each_once = λ slot within. absurd (omega (arith, within));
        counted = let none = ap length no_heap in omega (arith, none);
        fits = omega arith;
        last = λ slot is. absurd (omega (arith, is));
      })

  no_vacancies : (slots : List (Option X)) → AllHeld slots → (slot : ℕ) → vacancies (slice_get slots slot) ≡ 0
  no_vacancies [] all slot = refl
  no_vacancies (o ∷ os) all zero = no_vacancy o (all zero (omega arith))
  no_vacancies (o ∷ os) all (suc slot) = no_vacancies os (λ k within. all (suc k) (omega (arith, within))) slot

  vacancies_push : (x : X) (xs : List (Option X)) (slot : ℕ) → vacancies (slice_get (xs ++ Some x ∷ []) slot) ≡ vacancies (slice_get xs slot)
  vacancies_push x [] zero = refl
  vacancies_push x [] (suc slot) = refl
  vacancies_push x (o ∷ os) zero = refl
  vacancies_push x (o ∷ os) (suc slot) = vacancies_push x os slot

  -- the next value comes to the end, where all slots have one
  pub next_at_end : (slots : List (Option X)) (memory slot : ℕ) → slot ≡ length slots → AllHeld slots → slot < memory → IsNextSlot (record { slots = slots; capacity = memory }) slot
  next_at_end slots memory slot last all fits = record {
    vacant = get_or_past slots slot None (omega (arith, last));
    least = λ lesser less. all lesser (omega (arith, less, last));
    fits = fits;
  }

  -- a value comes to the end
  pub vacant_push : (slots : List (Option X)) (x : X) (heap : List (Reverse ℕ)) (capacity : ℕ) → AllHeld slots → heap ≡ [] → IsHeap (λ x y. nat_cmp y.0 x.0) heap → length slots < capacity → HasVacant (slots ++ Some x ∷ []) heap capacity
  vacant_push slots x heap capacity all no_heap order fits =
      let long : length (slots ++ Some x ∷ []) ≡ length slots + 1 = length_push slots (Some x) in
      let more : count_by is_some (slots ++ Some x ∷ []) ≡ count_by is_some slots + 1 = sum_by_push holds slots (Some x) in
      let none = ap length no_heap in
      record {
        least_first = order;
        each_once = λ slot within. ap (times slot) no_heap ∙ sym (vacancies_push x slots slot ∙ no_vacancies slots all slot);
        counted = omega (arith, none, more, fits, count_by-le-length is_some slots);
        fits = omega (arith, long, fits);
        last = λ slot is. ap is_some (get_or_push slots (Some x) None slot (omega (arith, is, long)));
      }

  -- the last slot has a value after any slot got one
  last_valued : (slots : List (Option X)) (slot : ℕ) (x : X) → slot < length slots → EndsHeld slots → EndsHeld (set slots slot (Some x))
  last_valued slots slot x within last k is = by_number k slot
      (λ same. ap is_some (ap (λ k. get_or (set slots slot (Some x)) k None) same ∙ get_or-set_same slots slot (Some x) None within))
      (λ other. ap is_some (get_or-set_other slots slot k (Some x) None other) ∙ last k (omega (arith, is, length-set slots slot (Some x))))

module _ {X : Type 0} (slots : List (Option X)) (heap : List (Reverse ℕ)) (capacity : ℕ) (h : HasVacant slots heap capacity) where
  -- the heap may have memory for more
  pub vacant_reserved : (news : List (Option X)) (newheap : List (Reverse ℕ)) (more : ℕ) → news ≡ slots → newheap ≡ heap → capacity ≤ more → HasVacant news newheap more
  vacant_reserved news newheap more same same_heap le =
      subst (λ l. HasVacant l newheap more) (sym same) (subst (λ l. HasVacant slots l more) (sym same_heap) (record {
        least_first = h.least_first;
        each_once = h.each_once;
        counted = omega (arith, h.counted, le);
        fits = omega (arith, h.fits, le);
        last = h.last;
      }))

  -- what stands in the heap is vacant, where it is one of the slots
  vacant_there : (slot : ℕ) → slot < length slots → 0 < times slot heap → slice_get slots slot ≡ Some None
  vacant_there slot within stands = is_vacant (slice_get slots slot) (subst (λ n. 0 < n) (h.each_once slot within) stands)

  -- what is vacant stands in the heap
  stands_there : (slot : ℕ) → slot < length slots → get_or slots slot None ≡ None → times slot heap ≡ 1
  stands_there slot within none = h.each_once slot within ∙ ap vacancies (slice_get-get_or slots slot None within ∙ ap Some none)

  -- below the least that stands there all have a value
  held_below : (low slot : ℕ) → AllByRecursion (λ r. low ≤ r.0) heap → slot < low → slot < length slots → IsSome (get_or slots slot None)
  held_below low slot above less within = is_held (get_or slots slot None) (λ none.
      let stands : times slot heap ≡ 1 = stands_there slot within none in
      let absent : times slot heap ≡ 0 = none_below low slot heap above less in
      omega (arith, stands, absent))

  -- the next value comes into the slot at the top, where it is one of the slots
  pub next_at_top : (memory : ℕ) (top : Reverse ℕ) → top.0 < length slots → 0 < length heap → top ≡ get_or heap 0 top → IsUpperBound (λ x y. nat_cmp y.0 x.0) top heap → length slots ≤ memory → IsNextSlot (record { slots = slots; capacity = memory }) top.0
  next_at_top memory top within some first bound fits = record {
    vacant = get_or_from_slice_get slots top.0 None None (vacant_there top.0 within (first_stands top heap some first));
    least = λ slot less. held_below top.0 slot (all_above top heap bound) less (omega (arith, less, within));
    fits = omega (arith, within, fits);
  }

  -- or else all slots have a value, and it comes to the end
  pub held_beyond : (top : Reverse ℕ) → length slots ≤ top.0 → IsUpperBound (λ x y. nat_cmp y.0 x.0) top heap → AllHeld slots
  held_beyond top le bound slot within = held_below top.0 slot (all_above top heap bound) (omega (arith, le, within)) within

  pub held_where_empty : length heap ≡ 0 → AllHeld slots
  held_where_empty none slot within = is_held (get_or slots slot None) (λ vacant.
      let stands : times slot heap ≡ 1 = stands_there slot within vacant in
      omega (arith, stands, count_by-le-length (λ (r : Reverse ℕ). nat_eq slot r.0) heap, none))

  -- ---- the heap loses what is beyond the end

  pub vacant_within : (news : List (Option X)) (kept more : List (Reverse ℕ)) (memory : ℕ) → news ≡ slots → kept ≡ filter (λ (r : Reverse ℕ). nat_lt r.0 (length slots)) heap → IsPermutation kept more → IsHeap (λ x y. nat_cmp y.0 x.0) more
      → length more + count_by is_some slots ≤ memory → length slots ≤ memory → HasVacant news more memory
  vacant_within news kept more memory same is moved order room fits = subst (λ l. HasVacant l more memory) (sym same) (record {
    least_first = order;
    each_once = λ slot within. sum_by-IsPermutation (counts slot) kept more moved ∙ ap (times slot) is ∙ times_within (length slots) slot heap within ∙ h.each_once slot within;
    counted = room;
    fits = fits;
    last = h.last;
  })

  -- ---- a value comes into a vacant slot

  module _ (memory slot : ℕ) (next : IsNextSlot (record { slots = slots; capacity = memory }) slot) (within : slot < length slots) where
    once : times slot heap ≡ 1
    once = stands_there slot within next.vacant

    some_vacant : 0 < length heap
    some_vacant = omega (arith, once, count_by-le-length (λ (r : Reverse ℕ). nat_eq slot r.0) heap)

    -- what leaves the heap is this slot
    is_top : (top : Reverse ℕ) (rest : List (Reverse ℕ)) → IsPermutation heap (top ∷ rest) → IsUpperBound (λ x y. nat_cmp y.0 x.0) top heap → top.0 ≡ slot
    is_top top rest moved bound = by_number top.0 slot (λ same. same) (λ other. by_test (nat_lt slot top.0)
        (λ y.
        let absent : times slot heap ≡ 0 = none_below top.0 slot heap (all_above top heap bound) (ltb-true slot top.0 y) in
        absurd (omega (arith, once, absent)))
        (λ n.
        let less : top.0 < slot = let from = ltb-false slot top.0 n in omega (arith, from, other) in
        let one : counts top.0 top ≡ 1 = counts_same top.0 top refl in
        let stands : 0 < times top.0 heap = omega (arith, one, sum_by_popped (counts top.0) top heap rest moved) in
        let none : get_or slots top.0 None ≡ None = get_or_from_slice_get slots top.0 None None (vacant_there top.0 (omega (arith, less, within)) stands) in
        absurd (no_value none (next.least top.0 less))))
      where
        no_value : {o : Option X} → o ≡ None → IsSome o → ⊥
        no_value none some = true≢false (sym some ∙ ap is_some none)

    popped : (x : X) (top : Reverse ℕ) (rest : List (Reverse ℕ)) → IsPermutation heap (top ∷ rest) → PopsGreatest (λ x y. nat_cmp y.0 x.0) heap top rest → HasVacant (set slots slot (Some x)) rest capacity
    popped x top rest moved order =
        let is : top.0 ≡ slot = is_top top rest moved (order h.least_first).1 in
        let fewer : suc (length rest) ≡ length heap = length_permutation heap (top ∷ rest) moved in
        let more = sum_by-set holds slots slot (Some x) None within in
        let nothing : holds (get_or slots slot None) ≡ 0 = ap holds next.vacant in
        record {
          least_first = (order h.least_first).0;
          each_once = λ k inside.
              let left = sum_by_popped (counts k) top heap rest moved in
              by_number k slot
              (λ same.
              let one : counts k top ≡ 1 = counts_same k top (same ∙ sym is) in
              let was : times k heap ≡ 1 = ap (λ k. times k heap) same ∙ once in
              let now : vacancies (slice_get (set slots slot (Some x)) k) ≡ 0 = ap (λ k. vacancies (slice_get (set slots slot (Some x)) k)) same ∙ ap vacancies (slice_get-set_same slots slot (Some x) within) in
              omega (arith, left, one, was, now))
              (λ other.
              let none : counts k top ≡ 0 = counts_other k top (λ same. other (same ∙ is)) in
              let was = h.each_once k (omega (arith, inside, length-set slots slot (Some x))) in
              let now : vacancies (slice_get (set slots slot (Some x)) k) ≡ vacancies (slice_get slots k) = ap vacancies (slice_get-set_other slots slot k (Some x) other) in
              omega (arith, left, none, was, now));
          counted = omega (arith, h.counted, fewer, more, nothing);
          fits = omega (arith, h.fits, length-set slots slot (Some x));
          last = last_valued slots slot x within h.last;
        }

    pub vacant_filled : (x : X) (r : Option (Reverse ℕ)) (rest : List (Reverse ℕ)) (size : ℕ) → size ≡ length heap → IfNone r (size ≡ 0) → IfSome r (λ top. IsPermutation heap (top ∷ rest)) → IfSome r (λ top. PopsGreatest (λ x y. nat_cmp y.0 x.0) heap top rest)
        → HasVacant (set slots slot (Some x)) rest capacity
    vacant_filled x None rest size counts none moved order = absurd (omega (arith, counts, none, some_vacant))
    vacant_filled x (Some top) rest size counts none moved order = popped x top rest moved order

  -- ---- a value goes

  module _ (slot : ℕ) (held : IsSome (get_or slots slot None)) where
    inside : slot < length slots
    inside = held_within slots slot held

    one_held : holds (get_or slots slot None) ≡ 1
    one_held = holds_one (get_or slots slot None) held

    absent : times slot heap ≡ 0
    absent = h.each_once slot inside ∙ ap vacancies (slice_get-get_or slots slot None inside) ∙ no_vacancy (get_or slots slot None) held

    fewer_held : count_by is_some (set slots slot None) + 1 ≡ count_by is_some slots
    fewer_held = let fewer = sum_by-set holds slots slot None None inside in omega (arith, fewer, one_held)

    -- so the heap has memory for it
    pub has_room : length heap < capacity
    has_room = omega (arith, h.counted, fewer_held)

    pub vacant_taken : (r : Reverse ℕ) (more : List (Reverse ℕ)) (memory : ℕ) → slot + 1 < length slots → r.0 ≡ slot → IsPermutation (r ∷ heap) more → KeepsHeap (λ x y. nat_cmp y.0 x.0) heap more → capacity ≤ memory → HasVacant (set slots slot None) more memory
    vacant_taken r more memory before is moved order le =
        let longer : length more ≡ suc (length heap) = length_permutation (r ∷ heap) more moved in
        let long = length-set slots slot None in
        record {
          least_first = order h.least_first;
          each_once = λ k within.
              let now = sum_by_pushed (counts k) r heap more moved in
              by_number k slot
              (λ same.
              let one : counts k r ≡ 1 = counts_same k r (same ∙ sym is) in
              let was : times k heap ≡ 0 = ap (λ k. times k heap) same ∙ absent in
              let there : vacancies (slice_get (set slots slot None) k) ≡ 1 = ap (λ k. vacancies (slice_get (set slots slot None) k)) same ∙ ap vacancies (slice_get-set_same slots slot None inside) in
              omega (arith, now, one, was, there))
              (λ other.
              let none : counts k r ≡ 0 = counts_other k r (λ same. other (same ∙ is)) in
              let was = h.each_once k (omega (arith, within, long)) in
              let there : vacancies (slice_get (set slots slot None) k) ≡ vacancies (slice_get slots k) = ap vacancies (slice_get-set_other slots slot k None other) in
              omega (arith, now, none, was, there));
          counted = omega (arith, h.counted, longer, fewer_held, le);
          fits = omega (arith, h.fits, le, long);
          last = λ k is. ap is_some (get_or-set_other slots slot k None None (λ same. omega (arith, is, long, before, same))) ∙ h.last k (omega (arith, is, long));
        }

    -- the value of the last slot goes, and with it all vacant slots at the end
    pub vacant_popped : (news : List (Option X)) → length slots ≤ slot + 1 → PopsVacant (set slots slot None) news → HasVacant news heap capacity
    vacant_popped news at_end pops =
        let long = length-set slots slot None in
        record {
          least_first = h.least_first;
          each_once = λ k within. h.each_once k (omega (arith, within, long, pops.left.fewer)) ∙ by_number k slot
              (λ same. absurd (
              let some : IsSome (get_or news k None) = pops.last k (omega (arith, same, within, at_end, pops.left.fewer, long)) in
              let none : get_or news k None ≡ None = pops.left.same k ∙ ap (λ k. get_or (set slots slot None) k None) same ∙ get_or-set_same slots slot None None inside in
              true≢false (sym some ∙ ap is_some none)))
              (λ other. ap vacancies (slice_get-get_or slots k None (omega (arith, within, long, pops.left.fewer))
              ∙ ap Some (sym (pops.left.same k ∙ get_or-set_other slots slot k None None other))
              ∙ sym (slice_get-get_or news k None within)));
          counted = omega (arith, h.counted, fewer_held, pops.left.count);
          fits = omega (arith, h.fits, pops.left.fewer, long);
          last = pops.last;
        }

    -- ---- a value becomes another

    pub vacant_valued : (x : X) → HasVacant (set slots slot (Some x)) heap capacity
    vacant_valued x =
        let same = sum_by-set holds slots slot (Some x) None inside in
        record {
          least_first = h.least_first;
          each_once = λ k within. h.each_once k (omega (arith, within, length-set slots slot (Some x))) ∙ by_number k slot
              (λ same.
              ap (λ k. vacancies (slice_get slots k)) same ∙ ap vacancies (slice_get-get_or slots slot None inside) ∙ no_vacancy (get_or slots slot None) held
              ∙ sym (ap (λ k. vacancies (slice_get (set slots slot (Some x)) k)) same ∙ ap vacancies (slice_get-set_same slots slot (Some x) inside)))
              (λ other. sym (ap vacancies (slice_get-set_other slots slot k (Some x) other)));
          counted = omega (arith, h.counted, same, one_held);
          fits = omega (arith, h.fits, length-set slots slot (Some x));
          last = last_valued slots slot x inside h.last;
        }
