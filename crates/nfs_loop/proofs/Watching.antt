-- Lists of what is known by keys.
use Rattle.std.proofs.Common.{◌≡◌, ◌≢◌, ◌⊎◌, ℕ, zero, suc, ◌+◌, ◌<◌, ◌≤◌, List, [], ◌∷◌, ◌++◌, length, set, Option, Some, None, inl, inr, refl, sym, ap, arith}
use Rattle.std.proofs.lemmas.List.{get_or-set_other, length-set}
use Rattle.nfs_loop.specs.declared.watches.Hold.{Hold}
use Rattle.nfs_loop.specs.declared.watches.Watch.{Watch}
use Rattle.nfs_loop.specs.Watching.{nothing_known, watch_at, heard_at, hold_at, one_if_held, held_count}

-- ---- a longer list

pub at_longer : (watches : List Watch) (w : Watch) (key : ℕ) → w ≡ nothing_known → watch_at (watches ++ w ∷ []) key ≡ watch_at watches key
at_longer [] w zero e = e
at_longer [] w (suc key) e = refl
at_longer (x ∷ watches) w zero e = refl
at_longer (x ∷ watches) w (suc key) e = at_longer watches w key e

no_more : (w : Watch) → w ≡ nothing_known → one_if_held w.hold + 0 ≡ 0
no_more w e = ap (λ (x : Watch). one_if_held x.hold + 0) e

pub count_longer : (watches : List Watch) (w : Watch) → w ≡ nothing_known → held_count (watches ++ w ∷ []) ≡ held_count watches
count_longer [] w e = no_more w e
count_longer (x ∷ watches) w e = ap (λ n. one_if_held x.hold + n) (count_longer watches w e)

-- ---- how many are held

swap : (a b c : ℕ) → (a + b) + c ≡ (c + b) + a
swap a b c = omega arith

add_first : (a b c d e : ℕ) → b + c ≡ d + e → (a + b) + c ≡ (a + d) + e
add_first a b c d e h = omega (arith, h)

none_below : (n : ℕ) → n < 0 → ⊥
none_below n l = omega (arith, l)

one_less : (a b : ℕ) → suc a < suc b → a < b
one_less a b l = omega (arith, l)

pub count_set : (watches : List Watch) (key : ℕ) (w : Watch) → key < length watches → held_count (set watches key w) + one_if_held (hold_at watches key) ≡ held_count watches + one_if_held w.hold
count_set [] key w l = absurd (none_below key l)
count_set (x ∷ watches) zero w l = swap (one_if_held w.hold) (held_count watches) (one_if_held x.hold)
count_set (x ∷ watches) (suc key) w l = add_first (one_if_held x.hold) (held_count (set watches key w)) (one_if_held (hold_at watches key)) (held_count watches) (one_if_held w.hold) (count_set watches key w (one_less key (length watches) l))

at_most_one : (hold : Option Hold) → one_if_held hold ≤ 1
at_most_one None = omega arith
at_most_one (Some hold) = omega arith

one_more : (a b n : ℕ) → a ≤ 1 → b ≤ n → a + b ≤ suc n
one_more a b n f g = omega (arith, f, g)

count_within : (watches : List Watch) → held_count watches ≤ length watches
count_within [] = omega arith
count_within (w ∷ watches) = one_more (one_if_held w.hold) (held_count watches) (length watches) (at_most_one w.hold) (count_within watches)

at_least : (a b c d : ℕ) → a + b ≡ c + d → d ≡ 0 → b ≤ c
at_least a b c d e f = omega (arith, e, f)

-- one of them is counted
pub counted : (watches : List Watch) (key : ℕ) → key < length watches → one_if_held (hold_at watches key) ≤ held_count watches
counted watches key l = at_least (held_count (set watches key nothing_known)) (one_if_held (hold_at watches key)) (held_count watches) 0 (count_set watches key nothing_known l) refl

fits_by : (a b c d n m : ℕ) → a + b ≡ c + d → a ≤ n → n < m → c + d < m + b
fits_by a b c d n m e within fit = omega (arith, e, within, fit)

-- another count fits
pub count_fits : (watches : List Watch) (key most : ℕ) (w : Watch) → key < length watches → length watches < most → held_count watches + one_if_held w.hold < most + one_if_held (hold_at watches key)
count_fits watches key most w l fit = fits_by (held_count (set watches key w)) (one_if_held (hold_at watches key)) (held_count watches) (one_if_held w.hold) (length (set watches key w)) most
    (count_set watches key w l) (count_within (set watches key w)) (ap_less (sym (length-set watches key w)) fit)
  where
    ap_less : {a b m : ℕ} → a ≡ b → a < m → b < m
    ap_less e f = omega (arith, e, f)

same_sum : (a b c n d : ℕ) → n + b ≡ c + d → a + b ≡ c + d → a ≡ n
same_sum a b c n d e f = omega (arith, e, f)

-- the count after that
pub recounted : (watches : List Watch) (key held : ℕ) (w : Watch) → key < length watches → held + one_if_held (hold_at watches key) ≡ held_count watches + one_if_held w.hold → held_count (set watches key w) ≡ held
recounted watches key held w l e = same_sum (held_count (set watches key w)) (one_if_held (hold_at watches key)) (held_count watches) held (one_if_held w.hold) e (count_set watches key w l)

none_held : (hold : Option Hold) (n : ℕ) → one_if_held hold + n ≡ 0 → hold ≡ None
none_held None n e = refl
none_held (Some hold) n e = absurd (some n e)
  where
    some : (n : ℕ) → 1 + n ≡ 0 → ⊥
    some n e = omega (arith, e)

rest_none : (a b : ℕ) → a + b ≡ 0 → b ≡ 0
rest_none a b e = omega (arith, e)

-- where none is counted, none is held
pub nobody_held : (watches : List Watch) → held_count watches ≡ 0 → (key : ℕ) → hold_at watches key ≡ None
nobody_held [] e key = refl
nobody_held (w ∷ watches) e zero = none_held w.hold (held_count watches) e
nobody_held (w ∷ watches) e (suc key) = nobody_held watches (rest_none (one_if_held w.hold) (held_count watches) e) key

-- ---- one hold is another

pub hold_others : (watches : List Watch) (key other : ℕ) (w : Watch) → other ≢ key → hold_at (set watches key w) other ≡ hold_at watches other
hold_others watches key other w differ = ap (λ (x : Watch). x.hold) (get_or-set_other watches key other w nothing_known differ)

pub hold_none : (watches : List Watch) (key : ℕ) (w : Watch) → w.hold ≡ None → hold_at (set watches key w) key ≡ None
hold_none [] key w e = refl
hold_none (x ∷ watches) zero w e = e
hold_none (x ∷ watches) (suc key) w e = hold_none watches key w e

-- the hold that is set
pub hold_here : (watches : List Watch) (key : ℕ) (w : Watch) → key < length watches → hold_at (set watches key w) key ≡ w.hold
hold_here [] key w l = absurd (none_below key l)
hold_here (x ∷ watches) zero w l = refl
hold_here (x ∷ watches) (suc key) w l = hold_here watches key w (one_less key (length watches) l)

-- what is known of a client but for its hold is another
pub holds_stay : (watches : List Watch) (key k : ℕ) (w : Watch) → w.hold ≡ hold_at watches key → hold_at (set watches key w) k ≡ hold_at watches k
holds_stay [] key k w e = refl
holds_stay (x ∷ watches) zero zero w e = e
holds_stay (x ∷ watches) zero (suc k) w e = refl
holds_stay (x ∷ watches) (suc key) zero w e = refl
holds_stay (x ∷ watches) (suc key) (suc k) w e = holds_stay watches key k w e

-- what is set leaves when clients were heard of
pub heard_stays : (watches : List Watch) (key k : ℕ) (w : Watch) → w.heard ≡ heard_at watches key → heard_at (set watches key w) k ≡ heard_at watches k
heard_stays [] key k w e = refl
heard_stays (x ∷ watches) zero zero w e = e
heard_stays (x ∷ watches) zero (suc k) w e = refl
heard_stays (x ∷ watches) (suc key) zero w e = refl
heard_stays (x ∷ watches) (suc key) (suc k) w e = heard_stays watches key k w e

-- only the one whose hold is set may have another
pub hold_set : (watches : List Watch) (key k : ℕ) (w : Watch) → (hold_at (set watches key w) k ≡ hold_at watches k) ⊎ ((k ≡ key) × (hold_at (set watches key w) k ≡ w.hold))
hold_set [] key k w = inl refl
hold_set (x ∷ watches) zero zero w = inr (refl, refl)
hold_set (x ∷ watches) zero (suc k) w = inl refl
hold_set (x ∷ watches) (suc key) zero w = inl refl
hold_set (x ∷ watches) (suc key) (suc k) w = one_on key k (hold_set watches key k w)
  where
    one_on : {P Q : Type 0} (key k : ℕ) → P ⊎ ((k ≡ key) × Q) → P ⊎ ((suc k ≡ suc key) × Q)
    one_on key k (inl p) = inl p
    one_on key k (inr q) = inr (ap suc q.0, q.1)
