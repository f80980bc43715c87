-- Places by rising cookie.
use Rattle.std.proofs.Common.{◌≡◌, ℕ, zero, suc, ◌<◌, ◌≤◌, ◌-◌, Bool, true, List, [], ◌∷◌, ◌++◌, length, take, drop, get_or, nat_le, nat_lt, refl, sym, ap, subst, ◌∙◌, arith}
use Rattle.std.specs.Prelude.{Some, slice_get, slice_set}
use Rattle.std.specs.List.{filter}
use Rattle.std.specs.List.Sorted.{IsPartitionedBy}
use Rattle.std.proofs.lemmas.Bool.{leb-true, le-leb, lt-ltb, le-ltb}
use Rattle.std.proofs.Math.Seq.{take-length}
use Rattle.std.proofs.lemmas.List.{length-drop}
use Rattle.nfs_entries.specs.Listing.{PlaceValue, Rises, led}
use Rattle.nfs_entries.proofs.Cases.{by_test, by_number, if_true, if_false, same_some, not_both}

-- all that follows some elements
pub rest_of : {X : Type 0} (n : ℕ) (xs : List X) → take (length xs - n) (drop n xs) ≡ drop n xs
rest_of n xs = ap (λ m. take m (drop n xs)) (sym (length-drop n xs)) ∙ take-length (drop n xs)

-- no cookie is below the low one
pub from_low : (low next : ℕ) (ps : List PlaceValue) (k : ℕ) (d : PlaceValue) → Rises low ps next → k < length ps → low ≤ (get_or ps k d).cookie
from_low low next [] k d rises within = absurd (omega (arith, within))
from_low low next (p ∷ ps) zero d rises within = rises.0
from_low low next (p ∷ ps) (suc k) d rises within = let rest = from_low (suc p.cookie) next ps k d rises.1 (omega (arith, within)) in let first = rises.0 in omega (arith, rest, first)

-- a later place has a greater cookie
pub later : (low next : ℕ) (ps : List PlaceValue) (i j : ℕ) (d : PlaceValue) → Rises low ps next → i < j → j < length ps → (get_or ps i d).cookie < (get_or ps j d).cookie
later low next [] i j d rises less within = absurd (omega (arith, within))
later low next (p ∷ ps) i zero d rises less within = absurd (omega (arith, less))
later low next (p ∷ ps) zero (suc j) d rises less within = let rest = from_low (suc p.cookie) next ps j d rises.1 (omega (arith, within)) in omega (arith, rest)
later low next (p ∷ ps) (suc i) (suc j) d rises less within = later (suc p.cookie) next ps i j d rises.1 (omega (arith, less)) (omega (arith, within))

-- what is at or below a cookie comes first
pub at_most_first : (cookie next : ℕ) (ps : List PlaceValue) → Rises 0 ps next → IsPartitionedBy (λ p. nat_le p.cookie cookie) ps
at_most_first cookie next ps rises i j d before within below = by_number i j
    (λ same. subst (λ k. nat_le (get_or ps k d).cookie cookie ≡ true) (sym same) below)
    (λ other. let less = later 0 next ps i j d rises (omega (arith, before, other)) within in
    le-leb _ _ (omega (arith, less, leb-true _ _ below)))

-- those from where cookies are above one
pub after_point : (cookie : ℕ) (ps : List PlaceValue) (first : ℕ) → first ≤ length ps
    → ((k : ℕ) (d : PlaceValue) → k < first → (get_or ps k d).cookie ≤ cookie) → ((k : ℕ) (d : PlaceValue) → first ≤ k → k < length ps → cookie < (get_or ps k d).cookie)
    → drop first ps ≡ filter (λ p. nat_lt cookie p.cookie) ps
after_point cookie [] zero bound below above = refl
after_point cookie [] (suc first) bound below above = refl
after_point cookie (x ∷ xs) zero bound below above =
    ap (λ es. x ∷ es) (after_point cookie xs zero (omega arith) (λ k d less. absurd (omega (arith, less))) (λ k d from within. above (suc k) d (omega arith) (omega (arith, within))))
    ∙ sym (if_true (x ∷ filter (λ p. nat_lt cookie p.cookie) xs) (filter (λ p. nat_lt cookie p.cookie) xs) (lt-ltb _ _ (above 0 x (omega arith) (omega arith))))
after_point cookie (x ∷ xs) (suc first) bound below above =
    after_point cookie xs first (omega (arith, bound)) (λ k d less. below (suc k) d (omega (arith, less))) (λ k d from within. above (suc k) d (omega (arith, from)) (omega (arith, within)))
    ∙ sym (if_false (x ∷ filter (λ p. nat_lt cookie p.cookie) xs) (filter (λ p. nat_lt cookie p.cookie) xs) (le-ltb _ _ (below 0 x (omega arith))))

-- ---- a place that leads to another row

abbrev pub leading : ℕ → PlaceValue → PlaceValue
leading index p = record { cookie = p.cookie; index = index }

pub led_here : (k index : ℕ) (ps : List PlaceValue) (p : PlaceValue) → slice_get ps k ≡ Some p → slice_get (led k index ps) k ≡ Some (leading index p)
led_here k index [] p at = absurd (not_both refl at)
led_here zero index (q ∷ ps) p at = ap (λ (p : PlaceValue). Some (leading index p)) (same_some at)
led_here (suc k) index (q ∷ ps) p at = led_here k index ps p at

pub led_else : (k index : ℕ) (ps : List PlaceValue) (j : ℕ) → (j ≡ k → ⊥) → slice_get (led k index ps) j ≡ slice_get ps j
led_else k index [] j other = refl
led_else zero index (q ∷ ps) zero other = absurd (other refl)
led_else zero index (q ∷ ps) (suc j) other = refl
led_else (suc k) index (q ∷ ps) zero other = refl
led_else (suc k) index (q ∷ ps) (suc j) other = led_else k index ps j (λ same. other (ap suc same))

pub length-led : (k index : ℕ) (ps : List PlaceValue) → length (led k index ps) ≡ length ps
length-led k index [] = refl
length-led zero index (p ∷ ps) = refl
length-led (suc k) index (p ∷ ps) = ap suc (length-led k index ps)

-- past the end none is led elsewhere
pub led_past : (k index : ℕ) (ps : List PlaceValue) → length ps ≤ k → ps ≡ led k index ps
led_past k index [] past = refl
led_past zero index (p ∷ ps) past = absurd (omega (arith, past))
led_past (suc k) index (p ∷ ps) past = ap (λ qs. p ∷ qs) (led_past k index ps (omega (arith, past)))

-- the place is written anew with its own cookie
pub led_set : (k index : ℕ) (ps : List PlaceValue) (d : PlaceValue) → k < length ps → slice_set ps k (record { cookie = (get_or ps k d).cookie; index = index }) ≡ led k index ps
led_set k index [] d within = absurd (omega (arith, within))
led_set zero index (p ∷ ps) d within = refl
led_set (suc k) index (p ∷ ps) d within = ap (λ qs. p ∷ qs) (led_set k index ps d (omega (arith, within)))

-- cookies stay, so they rise as before
pub led_rises : (k index low next : ℕ) (ps : List PlaceValue) → Rises low ps next → Rises low (led k index ps) next
led_rises k index low next [] rises = rises
led_rises zero index low next (p ∷ ps) rises = rises
led_rises (suc k) index low next (p ∷ ps) rises = (rises.0, led_rises k index (suc p.cookie) next ps rises.1)

-- a greater bound below is given up
pub from_less : (low more next : ℕ) (ps : List PlaceValue) → low ≤ more → Rises more ps next → Rises low ps next
from_less low more next [] less rises = omega (arith, less, rises)
from_less low more next (p ∷ ps) less rises = (let first = rises.0 in omega (arith, less, first), rises.1)

-- some of the places rise too
pub filter_rises : (keep : PlaceValue → Bool) (low next : ℕ) (ps : List PlaceValue) → Rises low ps next → Rises low (filter keep ps) next
filter_rises keep low next [] rises = rises
filter_rises keep low next (p ∷ ps) rises =
    let rest = filter_rises keep (suc p.cookie) next ps rises.1 in
    by_test (keep p)
    (λ y. subst (λ qs. Rises low qs next) (sym (if_true (p ∷ filter keep ps) (filter keep ps) y)) (rises.0, rest))
    (λ n. subst (λ qs. Rises low qs next) (sym (if_false (p ∷ filter keep ps) (filter keep ps) n)) (from_less low (suc p.cookie) next _ (let first = rises.0 in omega (arith, first)) rest))

-- one place more, of the next cookie
pub push_rises : (low next index : ℕ) (ps : List PlaceValue) → Rises low ps next → Rises low (ps ++ record { cookie = next; index = index } ∷ []) (suc next)
push_rises low next index [] rises = (rises, omega arith)
push_rises low next index (p ∷ ps) rises = (rises.0, push_rises (suc p.cookie) next index ps rises.1)

-- ---- a cookie has one place

pub get_low : (low next : ℕ) (ps : List PlaceValue) (k : ℕ) (p : PlaceValue) → Rises low ps next → slice_get ps k ≡ Some p → low ≤ p.cookie
get_low low next [] k p rises at = absurd (not_both refl at)
get_low low next (q ∷ ps) zero p rises at = subst (λ (p : PlaceValue). low ≤ p.cookie) (same_some at) rises.0
get_low low next (q ∷ ps) (suc k) p rises at = let up = get_low (suc q.cookie) next ps k p rises.1 at in let first = rises.0 in omega (arith, up, first)

pub one_position : (low next : ℕ) (ps : List PlaceValue) (j k : ℕ) (p : PlaceValue) → Rises low ps next → slice_get ps j ≡ Some p → slice_get ps k ≡ Some p → j ≡ k
one_position low next [] j k p rises at_j at_k = absurd (not_both refl at_j)
one_position low next (q ∷ ps) zero zero p rises at_j at_k = refl
one_position low next (q ∷ ps) zero (suc k) p rises at_j at_k = absurd (let up = get_low (suc q.cookie) next ps k p rises.1 at_k in let same = ap (λ (p : PlaceValue). p.cookie) (same_some at_j) in omega (arith, up, same))
one_position low next (q ∷ ps) (suc j) zero p rises at_j at_k = absurd (let up = get_low (suc q.cookie) next ps j p rises.1 at_j in let same = ap (λ (p : PlaceValue). p.cookie) (same_some at_k) in omega (arith, up, same))
one_position low next (q ∷ ps) (suc j) (suc k) p rises at_j at_k = ap suc (one_position (suc q.cookie) next ps j k p rises.1 at_j at_k)
