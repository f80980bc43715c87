-- Lists by their places.
use Rattle.std.proofs.Common.{◌≡◌, ◌≢◌, ℕ, zero, suc, ◌<◌, ◌≤◌, List, [], ◌∷◌, ◌++◌, length, map, take, set, get_or, Vec, vec_capacity, Bool, true, false, nat_eq, inl, inr, ◌⊎◌, refl, sym, ap, subst, ◌∙◌, arith}
use Rattle.std.specs.Global.{Global}
use Rattle.std.proofs.lemmas.List.{get_or-set_same, get_or-set_other, get_or-map, get_or-take, get_or_past, length-map, length-take, map-append, map-set, take-map}
use Rattle.std.proofs.lemmas.Bool.{eqb-true, eq-eqb, cases_lt}
use Rattle.nfs_content.specs.Paged.{items_at, room_at, MoreRoom, Widens}

by_test : {P : Type 0} (b : Bool) → (b ≡ true → P) → (b ≡ false → P) → P
by_test true p q = p refl
by_test false p q = q refl

-- numbers are the same or not
pub by_number : {P : Type 0} (m n : ℕ) → (m ≡ n → P) → (m ≢ n → P) → P
by_number m n p q = by_test (nat_eq m n) (λ y. p (eqb-true m n y)) (λ f. q (λ same. true_and_false (eq-eqb m n same) f))
  where
    true_and_false : {b : Bool} → b ≡ true → b ≡ false → ⊥
    true_and_false y n = cc

-- one number is less than another or not
pub by_less : {P : Type 0} (a b : ℕ) → (a < b → P) → (b ≤ a → P) → P
by_less {P} a b p q = choose (cases_lt a b)
  where
    choose : (a < b) ⊎ (b ≤ a) → P
    choose (inl l) = p l
    choose (inr m) = q m

abbrev pub lists_of : {A : Type 0} → List (Vec A Global) → List (List A)
lists_of {A} vs = map (λ (v : Vec A Global). v.items) vs

abbrev pub rooms_of : {A : Type 0} → List (Vec A Global) → List ℕ
rooms_of {A} vs = map (λ (v : Vec A Global). vec_capacity v) vs

-- ---- one list is another

module _ {A : Type 0} (vs : List (Vec A Global)) (k : ℕ) (v w : Vec A Global) (there : k < length vs) (e : v ≡ get_or vs k v) where
  items_there : k < length (lists_of vs)
  items_there = let same = length-map vs (λ (v : Vec A Global). v.items) in omega (arith, same, there)

  rooms_there : k < length (rooms_of vs)
  rooms_there = let same = length-map vs (λ (v : Vec A Global). vec_capacity v) in omega (arith, same, there)

  pub was_items : items_at vs k ≡ v.items
  was_items = get_or-map (λ (v : Vec A Global). v.items) vs k v [] there ∙ ap (λ (v : Vec A Global). v.items) (sym e)

  pub was_room : room_at vs k ≡ vec_capacity v
  was_room = get_or-map (λ (v : Vec A Global). vec_capacity v) vs k v 0 there ∙ ap (λ (v : Vec A Global). vec_capacity v) (sym e)

  pub now_items : items_at (set vs k w) k ≡ w.items
  now_items = ap (λ ls. get_or ls k []) (map-set (λ (v : Vec A Global). v.items) vs k w) ∙ get_or-set_same (lists_of vs) k w.items [] items_there

  pub now_room : room_at (set vs k w) k ≡ vec_capacity w
  now_room = ap (λ ls. get_or ls k 0) (map-set (λ (v : Vec A Global). vec_capacity v) vs k w) ∙ get_or-set_same (rooms_of vs) k (vec_capacity w) 0 rooms_there

  pub else_items : (j : ℕ) → j ≢ k → items_at (set vs k w) j ≡ items_at vs j
  else_items j other = ap (λ ls. get_or ls j []) (map-set (λ (v : Vec A Global). v.items) vs k w) ∙ get_or-set_other (lists_of vs) k j w.items [] other

  pub else_room : (j : ℕ) → j ≢ k → room_at (set vs k w) j ≡ room_at vs j
  else_room j other = ap (λ ls. get_or ls j 0) (map-set (λ (v : Vec A Global). vec_capacity v) vs k w) ∙ get_or-set_other (rooms_of vs) k j (vec_capacity w) 0 other

  pub more_room : vec_capacity v ≤ vec_capacity w → MoreRoom (room_at vs) (room_at (set vs k w))
  more_room more = λ j. by_number j k
      (λ is. let was : room_at vs j ≡ vec_capacity v = subst (λ i. room_at vs i ≡ vec_capacity v) (sym is) was_room in
      let now : room_at (set vs k w) j ≡ vec_capacity w = subst (λ i. room_at (set vs k w) i ≡ vec_capacity w) (sym is) now_room in omega (arith, was, now, more))
      (λ other. let same = else_room j other in omega (arith, same))

  pub widened : w.items ≡ v.items → vec_capacity v ≤ vec_capacity w → Widens vs (set vs k w)
  widened same more = record {
    items = λ j. by_number j k
        (λ is. subst (λ i. items_at (set vs k w) i ≡ items_at vs i) (sym is) (now_items ∙ same ∙ sym was_items))
        (λ other. else_items j other);
    room = more_room more;
  }

-- ---- more lists

pub widened_twice : {A : Type 0} (a b c : List (Vec A Global)) → Widens a b → Widens b c → Widens a c
widened_twice a b c first second = record {
  items = λ k. second.items k ∙ first.items k;
  room = λ k. let one = first.room k in let two = second.room k in omega (arith, one, two);
}

pub widened_none : {A : Type 0} (a : List (Vec A Global)) → Widens a a
widened_none a = record { items = λ k. refl; room = λ k. omega arith }

items_more : {A : Type 0} (ls : List (List A)) (k : ℕ) → get_or (ls ++ [] ∷ []) k [] ≡ get_or ls k []
items_more [] zero = refl
items_more [] (suc k) = refl
items_more (l ∷ ls) zero = refl
items_more (l ∷ ls) (suc k) = items_more ls k

room_more : (ns : List ℕ) (n k : ℕ) → get_or ns k 0 ≤ get_or (ns ++ n ∷ []) k 0
room_more [] n zero = omega arith
room_more [] n (suc k) = omega arith
room_more (m ∷ ms) n zero = omega arith
room_more (m ∷ ms) n (suc k) = room_more ms n k

pub widened_by : {A : Type 0} (vs ws : List (Vec A Global)) (v : Vec A Global) → v.items ≡ [] → ws ≡ vs ++ v ∷ [] → Widens vs ws
widened_by {A} vs ws v none is = subst (Widens vs) (sym is) (record {
  items = λ k. ap (λ ls. get_or ls k []) (map-append (λ (v : Vec A Global). v.items) vs (v ∷ []) ∙ ap (λ (l : List A). lists_of vs ++ l ∷ []) none) ∙ items_more (lists_of vs) k;
  room = λ k. subst (λ (ns : List ℕ). get_or (rooms_of vs) k 0 ≤ get_or ns k 0) (sym (map-append (λ (v : Vec A Global). vec_capacity v) vs (v ∷ []))) (room_more (rooms_of vs) (vec_capacity v) k);
})

-- ---- the first lists

module _ {A : Type 0} (n : ℕ) (vs : List (Vec A Global)) where
  pub first_items : (k : ℕ) → k < n → items_at (take n vs) k ≡ items_at vs k
  first_items k less = ap (λ ls. get_or ls k []) (sym (take-map (λ (v : Vec A Global). v.items) n vs)) ∙ get_or-take n (lists_of vs) k [] less

  pub after_items : (k : ℕ) → n ≤ k → items_at (take n vs) k ≡ []
  after_items k from = let size = length-map (take n vs) (λ (v : Vec A Global). v.items) in let len = length-take n vs in get_or_past (lists_of (take n vs)) k [] (omega (arith, size, len, from))

pub history_items : {A : Type 0} (vs : List (Vec A Global)) (k : ℕ) → length vs ≤ k → items_at vs k ≡ []
history_items {A} vs k from = let size = length-map vs (λ (v : Vec A Global). v.items) in get_or_past (lists_of vs) k [] (omega (arith, size, from))

-- a place that has room is there
pub room_there : {A : Type 0} (vs : List (Vec A Global)) (k : ℕ) → 0 < room_at vs k → k < length vs
room_there {A} vs k some = let size = length-map vs (λ (v : Vec A Global). vec_capacity v) in let inside = there (rooms_of vs) k some in omega (arith, size, inside)
  where
    there : (ns : List ℕ) (k : ℕ) → 0 < get_or ns k 0 → k < length ns
    there [] zero some = absurd (omega (arith, some))
    there [] (suc k) some = absurd (omega (arith, some))
    there (n ∷ ns) zero some = omega arith
    there (n ∷ ns) (suc k) some = let less = there ns k some in omega (arith, less)

-- ---- one list alone

pub one_items : {A : Type 0} (v : Vec A Global) (k : ℕ) → 0 < k → items_at (v ∷ []) k ≡ []
one_items v zero history = absurd (omega (arith, history))
one_items v (suc k) history = history_items [] k (omega arith)

pub no_items : {A : Type 0} (v : Vec A Global) → v.items ≡ [] → (k : ℕ) → items_at (v ∷ []) k ≡ []
no_items v none zero = none
no_items v none (suc k) = history_items [] k (omega arith)
