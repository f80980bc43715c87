-- Places by rising number: which slot a number leads to, and what becomes of it.
use Rattle.std.proofs.Common.{◌≡◌, ℕ, zero, suc, ◌+◌, ◌<◌, ◌≤◌, Bool, true, false, cond, List, [], ◌∷◌, ◌++◌, length, get_or, Option, Some, None, option_map, is_some, nat_lt, nat_eq, refl, sym, ap, subst, ◌∙◌, arith}
use Rattle.std.specs.Prelude.{slice_set}
use Rattle.std.specs.List.{filter, cons_option}
use Rattle.std.specs.List.Sorted.{IsPartitionedBy}
use Rattle.std.specs.Map.{lookup, remove_entry}
use Rattle.std.proofs.lemmas.Bool.{lt-ltb, ltb-true, ltb-false, eq-eqb}
use Rattle.std.proofs.lemmas.Option.{slice_get-get_or}
use Rattle.nfs_handles.specs.Placed.{Place, lead, led, is_live, Rises, HasNo}
use Rattle.nfs_handles.proofs.Leading.{by_test, by_number, not_equal, if_true, if_false, same_some}

-- ---- numbers rise

-- no number is below the low one
from_low : (low next : ℕ) (ps : List Place) (k : ℕ) (d : Place) → Rises low ps next → k < length ps → low ≤ (get_or ps k d).number
from_low low next [] k d rises within = absurd (omega (arith, within))
from_low low next (p ∷ ps) zero d rises within = rises.0
from_low low next (p ∷ ps) (suc k) d rises within = let rest = from_low (suc p.number) next ps k d rises.1 (omega (arith, within)) in let first = rises.0 in omega (arith, rest, first)

-- a later place has a greater number
later : (low next : ℕ) (ps : List Place) (i j : ℕ) (d : Place) → Rises low ps next → i < j → j < length ps → (get_or ps i d).number < (get_or ps j d).number
later low next [] i j d rises less within = absurd (omega (arith, within))
later low next (p ∷ ps) i zero d rises less within = absurd (omega (arith, less))
later low next (p ∷ ps) zero (suc j) d rises less within = let rest = from_low (suc p.number) next ps j d rises.1 (omega (arith, within)) in omega (arith, rest)
later low next (p ∷ ps) (suc i) (suc j) d rises less within = later (suc p.number) next ps i j d rises.1 (omega (arith, less)) (omega (arith, within))

-- what is below a number comes first
pub below_first : (n next : ℕ) (ps : List Place) → Rises 0 ps next → IsPartitionedBy (λ p. nat_lt p.number n) ps
below_first n next ps rises i j d before within below = by_number i j
    (λ same. subst (λ k. nat_lt (get_or ps k d).number n ≡ true) (sym same) below)
    (λ other. let less = later 0 next ps i j d rises (omega (arith, before, other)) within in
    lt-ltb _ _ (omega (arith, less, ltb-true _ _ below)))

-- the value read where there is none doesn't matter within
pub same_read : {X : Type 0} (xs : List X) (k : ℕ) (d e : X) → k < length xs → get_or xs k d ≡ get_or xs k e
same_read xs k d e within = same_some (sym (slice_get-get_or xs k d within) ∙ slice_get-get_or xs k e within)

-- where the first place that isn't below a number is past the end, or another's, no place is its
pub none_at : (n next : ℕ) (ps : List Place) (at : ℕ) → Rises 0 ps next
    → ((k : ℕ) (d : Place) → k < at → k < length ps → (get_or ps k d).number < n) → ((k : ℕ) (d : Place) → at ≤ k → k < length ps → n ≤ (get_or ps k d).number)
    → ((d : Place) → at < length ps → (get_or ps at d).number ≡ n → ⊥) → HasNo ps n
none_at n next ps at rises below above other k d within = not_equal n (get_or ps k d).number (λ same. by_test (nat_lt k at)
    (λ y. absurd (let less = below k d (ltb-true k at y) within in omega (arith, less, same)))
    (λ f. by_number k at
    (λ here. absurd (other d (subst (λ k. k < length ps) here within) (subst (λ k. (get_or ps k d).number ≡ n) here (sym same))))
    (λ differ. absurd (let from = ltb-false k at f in
    let up = later 0 next ps at k d rises (omega (arith, from, differ)) within in
    let low = above at d (omega arith) (omega (arith, from, within)) in
    omega (arith, up, low, same)))))

-- one place more, of the next number
pub push_rises : (low next : ℕ) (slot : Option ℕ) (ps : List Place) → Rises low ps next → Rises low (ps ++ record { number = next; slot = slot } ∷ []) (next + 1)
push_rises low next slot [] rises = (rises, omega arith)
push_rises low next slot (p ∷ ps) rises = (rises.0, push_rises (suc p.number) next slot ps rises.1)

-- they rise below a greater next number, too
pub rises_below : (low next more : ℕ) (ps : List Place) → next ≤ more → Rises low ps next → Rises low ps more
rises_below low next more [] le rises = omega (arith, le, rises)
rises_below low next more (p ∷ ps) le rises = (rises.0, rises_below (suc p.number) next more ps le rises.1)

-- numbers stay, so they rise as before
pub set_rises : (low next : ℕ) (ps : List Place) (k n : ℕ) (slot : Option ℕ) (d : Place) → Rises low ps next → k < length ps → (get_or ps k d).number ≡ n → Rises low (slice_set ps k (record { number = n; slot = slot })) next
set_rises low next [] k n slot d rises within is = absurd (omega (arith, within))
set_rises low next (p ∷ ps) zero n slot d rises within is = subst (λ m. (low ≤ m) × Rises (suc m) ps next) is rises
set_rises low next (p ∷ ps) (suc k) n slot d rises within is = (rises.0, set_rises (suc p.number) next ps k n slot d rises.1 (omega (arith, within)) is)

-- a greater bound below is given up
from_less : (low more next : ℕ) (ps : List Place) → low ≤ more → Rises more ps next → Rises low ps next
from_less low more next [] less rises = omega (arith, less, rises)
from_less low more next (p ∷ ps) less rises = (let first = rises.0 in omega (arith, less, first), rises.1)

-- some of the places rise too
pub filter_rises : (keep : Place → Bool) (low next : ℕ) (ps : List Place) → Rises low ps next → Rises low (filter keep ps) next
filter_rises keep low next [] rises = rises
filter_rises keep low next (p ∷ ps) rises =
    let rest = filter_rises keep (suc p.number) next ps rises.1 in
    by_test (keep p)
    (λ y. subst (λ qs. Rises low qs next) (sym (if_true (p ∷ filter keep ps) (filter keep ps) y)) (rises.0, rest))
    (λ n. subst (λ qs. Rises low qs next) (sym (if_false (p ∷ filter keep ps) (filter keep ps) n)) (from_less low (suc p.number) next _ (let first = rises.0 in omega (arith, first)) rest))

-- ---- where numbers lead

abbrev leads_to : ℕ → Option ℕ → Option (ℕ × ℕ)
leads_to n slot = option_map (λ slot. (n, slot)) slot

cons_append : {X : Type 0} (o : Option X) (xs ys : List X) → cons_option o (xs ++ ys) ≡ cons_option o xs ++ ys
cons_append None xs ys = refl
cons_append (Some x) xs ys = refl

-- a number more leads last
pub led_push : (ps : List Place) (n slot : ℕ) → led (ps ++ record { number = n; slot = Some slot } ∷ []) ≡ led ps ++ (n, slot) ∷ []
led_push [] n slot = refl
led_push (p ∷ ps) n slot = ap (cons_option (lead p)) (led_push ps n slot) ∙ cons_append (lead p) (led ps) ((n, slot) ∷ [])

-- another number's place is passed over
lookup_after : (n m : ℕ) (slot : Option ℕ) (es : List (ℕ × ℕ)) → nat_eq n m ≡ false → lookup (nat_eq n) (cons_option (leads_to m slot) es) ≡ lookup (nat_eq n) es
lookup_after n m None es other = refl
lookup_after n m (Some slot) es other = if_false (Some slot) (lookup (nat_eq n) es) other

remove_after : (n m : ℕ) (slot : Option ℕ) (es : List (ℕ × ℕ)) → nat_eq n m ≡ false → remove_entry (nat_eq n) (cons_option (leads_to m slot) es) ≡ cons_option (leads_to m slot) (remove_entry (nat_eq n) es)
remove_after n m None es other = refl
remove_after n m (Some slot) es other = if_false es ((m, slot) ∷ remove_entry (nat_eq n) es) other

-- a number without a place leads nowhere
pub lookup_none : (n : ℕ) (ps : List Place) → HasNo ps n → lookup (nat_eq n) (led ps) ≡ None
lookup_none n [] none = refl
lookup_none n (p ∷ ps) none = lookup_after n p.number p.slot (led ps) (none 0 p (omega arith)) ∙ lookup_none n ps (λ k d within. none (suc k) d (omega (arith, within)))

above_is_none : (n low next : ℕ) (ps : List Place) → n < low → Rises low ps next → HasNo ps n
above_is_none n low next ps less rises k d within = not_equal n (get_or ps k d).number (λ same. let up = from_low low next ps k d rises within in omega (arith, less, up, same))

-- a number leads where its place does
pub lookup_at : (n low next : ℕ) (ps : List Place) (k : ℕ) (d : Place) → Rises low ps next → k < length ps → (get_or ps k d).number ≡ n → lookup (nat_eq n) (led ps) ≡ (get_or ps k d).slot
lookup_at n low next [] k d rises within is = absurd (omega (arith, within))
lookup_at n low next (p ∷ ps) zero d rises within is = by p.slot
  where
    by : (slot : Option ℕ) → lookup (nat_eq n) (cons_option (leads_to p.number slot) (led ps)) ≡ slot
    by None = lookup_none n ps (above_is_none n (suc p.number) next ps (omega (arith, is)) rises.1)
    by (Some slot) = if_true (Some slot) (lookup (nat_eq n) (led ps)) (eq-eqb n p.number (sym is))
lookup_at n low next (p ∷ ps) (suc k) d rises within is =
    let up = from_low (suc p.number) next ps k d rises.1 (omega (arith, within)) in
    lookup_after n p.number p.slot (led ps) (not_equal n p.number (λ same. omega (arith, up, same, is)))
    ∙ lookup_at n (suc p.number) next ps k d rises.1 (omega (arith, within)) is

-- where its place is dead, a number is taken away
pub led_dead : (n low next slot : ℕ) (ps : List Place) (k : ℕ) (d : Place) → Rises low ps next → k < length ps → (get_or ps k d).number ≡ n → (get_or ps k d).slot ≡ Some slot
    → led (slice_set ps k (record { number = n; slot = None })) ≡ remove_entry (nat_eq n) (led ps)
led_dead n low next slot [] k d rises within is at = absurd (omega (arith, within))
led_dead n low next slot (p ∷ ps) zero d rises within is at =
    sym (if_true (led ps) ((p.number, slot) ∷ remove_entry (nat_eq n) (led ps)) (eq-eqb n p.number (sym is)))
    ∙ sym (ap (λ o. remove_entry (nat_eq n) (cons_option (leads_to p.number o) (led ps))) at)
led_dead n low next slot (p ∷ ps) (suc k) d rises within is at =
    let up = from_low (suc p.number) next ps k d rises.1 (omega (arith, within)) in
    ap (cons_option (lead p)) (led_dead n (suc p.number) next slot ps k d rises.1 (omega (arith, within)) is at)
    ∙ sym (remove_after n p.number p.slot (led ps) (not_equal n p.number (λ same. omega (arith, up, same, is))))

-- without the dead places the same lead
pub led_live : (ps : List Place) → led (filter is_live ps) ≡ led ps
led_live [] = refl
led_live (p ∷ ps) = by p.slot refl (led_live ps)
  where
    by : (slot : Option ℕ) → p.slot ≡ slot → led (filter is_live ps) ≡ led ps → led (cond (is_some p.slot) (p ∷ filter is_live ps) (filter is_live ps)) ≡ cons_option (leads_to p.number p.slot) (led ps)
    by None is rest = ap led (if_false (p ∷ filter is_live ps) (filter is_live ps) (ap is_some is)) ∙ rest ∙ sym (ap (λ o. cons_option (leads_to p.number o) (led ps)) is)
    by (Some slot) is rest = ap led (if_true (p ∷ filter is_live ps) (filter is_live ps) (ap is_some is)) ∙ ap (cons_option (lead p)) rest
