-- What becomes of a queue.
use Rattle.std.proofs.Common.{◌≡◌, ◌≢◌, ℕ, ◌+◌, ◌<◌, ◌≤◌, Bool, true, false, ◌||◌, List, [], ◌∷◌, ◌++◌, length, Option, Some, None, IsSome, nat_eq, get_or, refl, sym, ap, subst, ◌∙◌, arith, length-append}
use Rattle.std.specs.List.{IsDistinct, AllByRecursion}
use Rattle.std.proofs.lemmas.Bool.{eqb-true, eqb-false, eq-eqb, true≢false}
use Rattle.std.proofs.lemmas.List.{get_or-set_same, get_or-set_other}
use Rattle.std.proofs.lemmas.List.Folds.{list_any-append}
use Rattle.std.proofs.lemmas.Map.Steps.{length-le_from_distinct_below}
use Rattle.std.proofs.Math.ListN.{set, length-set}
use Rattle.slab.specs.Slab.{Slab, get, Updates, SameValues}
use Rattle.nfs_queue.specs.Queues.{is_waiting, AreApart, IsQueue}

pub or_left : (a b : Bool) → (a || b) ≡ false → a ≡ false
or_left true b e = absurd (true≢false e)
or_left false b e = refl

pub or_right : (a b : Bool) → (a || b) ≡ false → b ≡ false
or_right true b e = absurd (true≢false e)
or_right false b e = e

pub or_both : (a b : Bool) → a ≡ false → b ≡ false → (a || b) ≡ false
or_both true b e f = absurd (true≢false e)
or_both false b e f = f

pub or_true : (a : Bool) → (a || true) ≡ true
or_true true = refl
or_true false = refl

or_none : (a b : Bool) → b ≡ false → (a || b) ≡ a
or_none true b e = refl
or_none false b e = e

-- numbers that differ are not equal
pub not_same : (a b : ℕ) (t : Bool) → nat_eq a b ≡ t → a ≢ b → nat_eq a b ≡ false
not_same a b true e differ = absurd (differ (eqb-true a b e))
not_same a b false e differ = e

same_key : (a : ℕ) → nat_eq a a ≡ true
same_key a = eq-eqb a a refl

pub differ_back : (a b : ℕ) → nat_eq a b ≡ false → nat_eq b a ≡ false
differ_back a b e = not_same b a (nat_eq b a) refl (λ same. eqb-false a b e (sym same))

-- ---- lists without doubles

all_apart : (key : ℕ) (keys : List ℕ) → is_waiting key keys ≡ false → AllByRecursion (λ other. nat_eq key other ≡ false) keys
all_apart key [] e = tt
all_apart key (k ∷ keys) e = (or_left (nat_eq key k) (is_waiting key keys) e, all_apart key keys (or_right (nat_eq key k) (is_waiting key keys) e))

are_distinct : (keys : List ℕ) → AreApart keys → IsDistinct nat_eq keys
unfolding IsDistinct
are_distinct [] a = tt
are_distinct (k ∷ keys) a = (all_apart k keys a.0, are_distinct keys a.1)

pub at_most : (keys : List ℕ) (n : ℕ) → AreApart keys → ((key : ℕ) → is_waiting key keys ≡ true → key < n) → length keys ≤ n
at_most keys n apart below = length-le_from_distinct_below keys n (are_distinct keys apart) below

waits_after : (key other : ℕ) (keys : List ℕ) → is_waiting key (keys ++ other ∷ []) ≡ (is_waiting key keys || (nat_eq key other || false))
waits_after key other keys = list_any-append (nat_eq key) keys (other ∷ [])

or_last : (b : Bool) → (b || false) ≡ b
or_last true = refl
or_last false = refl

pub apart_after : (key : ℕ) (keys : List ℕ) → AreApart keys → is_waiting key keys ≡ false → AreApart (keys ++ key ∷ [])
apart_after key [] a e = (refl, tt)
apart_after key (k ∷ keys) a e = (
  waits_after k key keys ∙ or_both (is_waiting k keys) (nat_eq k key || false) a.0 (or_last (nat_eq k key) ∙ differ_back key k (or_left (nat_eq key k) (is_waiting key keys) e)),
  apart_after key keys a.1 (or_right (nat_eq key k) (is_waiting key keys) e),
)

-- a key that others follow stands nowhere before them
pub apart_at : (before : List ℕ) (key : ℕ) (after : List ℕ) → AreApart (before ++ key ∷ after) → is_waiting key before ≡ false
apart_at [] key after a = refl
apart_at (k ∷ before) key after a =
    let e = or_right (is_waiting k before) (nat_eq k key || is_waiting k after) (sym (list_any-append (nat_eq k) before (key ∷ after)) ∙ a.0) in
    or_both (nat_eq key k) (is_waiting key before) (differ_back k key (or_left (nat_eq k key) (is_waiting k after) e)) (apart_at before key after a.1)

-- ---- what becomes of a queue

none_is : {X : Type 0} (o : Option X) → o ≡ None → IsSome o → ⊥
none_is None e s = true≢false (sym s)
none_is (Some x) e s = cc

module _ {M : Type 0} (members after : Slab M) (queue : List ℕ) (flags : List Bool) (room : ℕ) (q : IsQueue members queue flags room) where
  -- a key is below the end
  pub waits_within : (key : ℕ) → is_waiting key queue ≡ true → key < length flags
  waits_within key e = q.keys_fit key (q.are_members key e)

  pub length_fits : length queue ≤ length flags
  length_fits = at_most queue (length flags) q.apart waits_within

  waits_or_last : (key k : ℕ) (t : Bool) → nat_eq k key ≡ t → key < length flags → (is_waiting k queue || (t || false)) ≡ true → k < length flags
  waits_or_last key k true same within w = subst (λ x. x < length flags) (sym (eqb-true k key same)) within
  waits_or_last key k false same within w = waits_within k (sym (or_last (is_waiting k queue)) ∙ w)

  -- one more has room
  pub one_more : (key : ℕ) → key < length flags → is_waiting key queue ≡ false → length queue + 1 ≤ room
  one_more key within e =
      let longer : length (queue ++ key ∷ []) ≤ length flags = at_most (queue ++ key ∷ []) (length flags) (apart_after key queue q.apart e)
      (λ k w. waits_or_last key k (nat_eq k key) refl within (sym (waits_after k key queue) ∙ w)) in
      omega (arith, longer, q.all_fit, length-append queue (key ∷ []))

  -- the key of none doesn't wait
  pub none_waits : (key : ℕ) (t : Bool) → is_waiting key queue ≡ t → get members key ≡ None → is_waiting key queue ≡ false
  none_waits key true w e = absurd (none_is (get members key) e (q.are_members key w))
  none_waits key false w e = w

  -- ---- a member that waits from now on
  flag_on : (key other : ℕ) (t : Bool) → nat_eq other key ≡ t → key < length flags → get_or (set flags key true) other false ≡ (is_waiting other queue || (t || false))
  flag_on key other true e within =
      subst (λ k. get_or (set flags key true) k false ≡ true) (sym (eqb-true other key e)) (get_or-set_same flags key true false within) ∙ sym (or_true (is_waiting other queue))
  flag_on key other false e within = get_or-set_other flags key other true false (eqb-false other key e) ∙ q.flags_tell other ∙ sym (or_last (is_waiting other queue))

  member_on : (key other : ℕ) (t : Bool) → nat_eq other key ≡ t → IsSome (get members key) → (is_waiting other queue || (t || false)) ≡ true → IsSome (get members other)
  member_on key other true e here w = subst (λ k. IsSome (get members k)) (sym (eqb-true other key e)) here
  member_on key other false e here w = q.are_members other (sym (or_last (is_waiting other queue)) ∙ w)

  pub waits_too : (key : ℕ) → IsSome (get members key) → is_waiting key queue ≡ false → IsQueue members (queue ++ key ∷ []) (set flags key true) room
  waits_too key here e = record {
    apart = apart_after key queue q.apart e;
    flags_tell = λ other. flag_on key other (nat_eq other key) refl (q.keys_fit key here) ∙ sym (waits_after other key queue);
    are_members = λ other w. member_on key other (nat_eq other key) refl here (sym (waits_after other key queue) ∙ w);
    keys_fit = λ other some. subst (λ n. other < n) (sym (length-set flags key true)) (q.keys_fit other some);
    all_fit = subst (λ n. n ≤ room) (sym (length-set flags key true)) q.all_fit;
  }

  -- ---- other members
  member_off : (key other : ℕ) (t : Bool) → nat_eq other key ≡ t → is_waiting key queue ≡ false → ((k : ℕ) → k ≢ key → get after k ≡ get members k) → is_waiting other queue ≡ true → IsSome (get after other)
  member_off key other true same e others w = absurd (true≢false (sym w ∙ subst (λ k. is_waiting k queue ≡ false) (sym (eqb-true other key same)) e))
  member_off key other false same e others w = subst IsSome (sym (others other (eqb-false other key same))) (q.are_members other w)

  fit_off : (key other : ℕ) (slot : Option M) (t : Bool) → nat_eq other key ≡ t → Updates members after key slot → (IsSome slot → key < length flags) → IsSome (get after other) → other < length flags
  fit_off key other slot true same u fits some =
      let is : other ≡ key = eqb-true other key same in
      subst (λ k. k < length flags) (sym is) (fits (subst IsSome (ap (λ k. get after k) is ∙ u.changed) some))
  fit_off key other slot false same u fits some = q.keys_fit other (subst IsSome (u.others other (eqb-false other key same)) some)

  -- one that doesn't wait came or went
  pub one_else : (key : ℕ) (slot : Option M) → is_waiting key queue ≡ false → Updates members after key slot → (IsSome slot → key < length flags) → IsQueue after queue flags room
  one_else key slot e u fits = record {
    apart = q.apart;
    flags_tell = q.flags_tell;
    are_members = λ other w. member_off key other (nat_eq other key) refl e u.others w;
    keys_fit = λ other some. fit_off key other slot (nat_eq other key) refl u fits some;
    all_fit = q.all_fit;
  }

-- the first one is called
module _ {M : Type 0} (members after : Slab M) (key : ℕ) (queue : List ℕ) (flags : List Bool) (room : ℕ) (q : IsQueue members (key ∷ queue) flags room) where
  pub first_waits : is_waiting key (key ∷ queue) ≡ true
  first_waits = ap (λ b. b || is_waiting key queue) (same_key key)

  pub first_fits : key < length flags
  first_fits = q.keys_fit key (q.are_members key first_waits)

  flag_called : (other : ℕ) (t : Bool) → nat_eq other key ≡ t → get_or (set flags key false) other false ≡ is_waiting other queue
  flag_called other true e =
      let is : other ≡ key = eqb-true other key e in
      subst (λ k. get_or (set flags key false) k false ≡ is_waiting k queue) (sym is) (get_or-set_same flags key false false first_fits ∙ sym q.apart.0)
  flag_called other false e = get_or-set_other flags key other false false (eqb-false other key e) ∙ q.flags_tell other ∙ ap (λ b. b || is_waiting other queue) e

  later_waits : (other : ℕ) (t : Bool) → nat_eq other key ≡ t → is_waiting other queue ≡ true → (nat_eq other key ≡ false) × (is_waiting other (key ∷ queue) ≡ true)
  later_waits other true e w = absurd (true≢false (sym w ∙ subst (λ k. is_waiting k queue ≡ false) (sym (eqb-true other key e)) q.apart.0))
  later_waits other false e w = (e, ap (λ b. b || is_waiting other queue) e ∙ w)

  pub called : Updates members after key None → IsQueue after queue (set flags key false) room
  called u = record {
    apart = q.apart.1;
    flags_tell = λ other. flag_called other (nat_eq other key) refl;
    are_members = λ other w. let l = later_waits other (nat_eq other key) refl w in subst IsSome (sym (u.others other (eqb-false other key l.0))) (q.are_members other l.1);
    keys_fit = λ other some. subst (λ n. other < n) (sym (length-set flags key false)) (fits other (nat_eq other key) refl some);
    all_fit = subst (λ n. n ≤ room) (sym (length-set flags key false)) q.all_fit;
  }
    where
      fits : (other : ℕ) (t : Bool) → nat_eq other key ≡ t → IsSome (get after other) → other < length flags
      fits other true e some = subst (λ k. k < length flags) (sym (eqb-true other key e)) first_fits
      fits other false e some = q.keys_fit other (subst IsSome (u.others other (eqb-false other key e)) some)

-- more room
pub more_room : {M : Type 0} (members after : Slab M) (queue : List ℕ) (flags longer : List Bool) (room larger : ℕ) → IsQueue members queue flags room → SameValues members after
    → ((key : ℕ) → get_or longer key false ≡ get_or flags key false) → length flags ≤ length longer → length longer ≤ larger → IsQueue after queue longer larger
more_room members after queue flags longer room larger q same tell more fit = record {
  apart = q.apart;
  flags_tell = λ key. tell key ∙ q.flags_tell key;
  are_members = λ key w. subst IsSome (sym (same key)) (q.are_members key w);
  keys_fit = λ key some. let k : key < length flags = q.keys_fit key (subst IsSome (same key) some) in omega (arith, k, more);
  all_fit = fit;
}

-- a flag that is off
pub off : (flags : List Bool) (key : ℕ) (flag : Bool) → flag ≡ get_or flags key flag → flag ≡ false → get_or flags key false ≡ false
off flags key flag is e = subst (λ b. get_or flags key b ≡ b) e (sym is)

-- ---- the queue with one more of its members, and with one who was away
module _ {M : Type 0} (members : Slab M) (queue : List ℕ) (flags : List Bool) (room : ℕ) (q : IsQueue members queue flags room) where
  pub joins : (key larger : ℕ) (longer : List ℕ) → IsSome (get members key) → is_waiting key queue ≡ false → longer ≡ queue ++ key ∷ [] → larger ≡ room → IsQueue members longer (set flags key true) larger
  joins key larger longer here e is same =
      subst (λ l. IsQueue members l (set flags key true) larger) (sym is) (subst (λ r. IsQueue members (queue ++ key ∷ []) (set flags key true) r) (sym same) (waits_too members members queue flags room q key here e))

  pub returns : (after : Slab M) (key larger : ℕ) (longer : List ℕ) (member : M) → get members key ≡ None → Updates members after key (Some member) → key < length flags → longer ≡ queue ++ key ∷ [] → larger ≡ room → IsQueue after longer (set flags key true) larger
  returns after key larger longer member none u within is same =
      let w = none_waits members members queue flags room q key (is_waiting key queue) refl none in
      let back = one_else members after queue flags room q key (Some member) w u (λ s. within) in
      subst (λ l. IsQueue after l (set flags key true) larger) (sym is) (subst (λ r. IsQueue after (queue ++ key ∷ []) (set flags key true) r) (sym same)
      (waits_too after after queue flags room back key (subst IsSome (sym u.changed) refl) w))
