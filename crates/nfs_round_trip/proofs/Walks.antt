-- What stands in a walk: each directory of the volume once, after its parent.
use Rattle.std.proofs.Common.{inl, inr, ◌≡◌, ◌⊎◌, ℕ, suc, zero, ◌+◌, ◌≤◌, Bool, true, cond, List, [], ◌∷◌, ◌++◌, length, map, sum_by, nat_eq, Some, refl, sym}
use Rattle.std.proofs.Common.{ap, subst, ◌∙◌, append_assoc, append-nil, arith}
use Rattle.std.specs.List.{find, flat_map}
use Rattle.std.specs.Prelude.{Contains}
use Rattle.std.proofs.lemmas.List.{append_cancel_left, map-append, length-append}
use Rattle.std.proofs.lemmas.List.Concat.{flat_map-append}
use Rattle.std.proofs.lemmas.List.Sums.{sum_by-cons, sum_by-append}
use Rattle.nfs_inodes.specs.Reading.{entries_at}
use Rattle.nfs_inodes.specs.Tree.{Tree, Entry, one_when, names_in}
use Rattle.nfs_inodes.proofs.Lists.{by_test, same_some, not_both, in_head, in_tail, head_or_tail, not_in_empty}
use Rattle.nfs_describe.specs.Places.{FilePath, IsWalk, place_below, places_below}

-- ---- steps

-- a place, and an entry of the directory that stands there
abbrev pub Step : Type 0
Step = FilePath × Entry

abbrev pub step_from : FilePath → Entry → Step
step_from p e = (p, e)

abbrev pub steps_from : Tree → FilePath → List Step
steps_from t p = map (step_from p) (entries_at t p.number)

abbrev pub steps : Tree → List FilePath → List Step
steps t places = flat_map (steps_from t) places

abbrev pub place_of : Step → FilePath
place_of s = place_below s.0.path s.1

places_from : (p : FilePath) (es : List Entry) → map place_of (map (step_from p) es) ≡ map (place_below p.path) es
places_from p [] = refl
places_from p (e ∷ es) = ap (λ l. place_below p.path e ∷ l) (places_from p es)

pub places_of_steps : (t : Tree) (places : List FilePath) → map place_of (steps t places) ≡ flat_map (places_below t) places
places_of_steps t [] = refl
places_of_steps t (p ∷ places) = map-append place_of (steps_from t p) (steps t places)
    ∙ ap (λ l. l ++ map place_of (steps t places)) (places_from p (entries_at t p.number))
    ∙ ap (λ l. places_below t p ++ l) (places_of_steps t places)

-- ---- lists that are put together in two ways

pub cut_two : {X : Type 0} (xs ys done : List X) (s : X) (todo : List X) → xs ++ ys ≡ done ++ s ∷ todo
    → ((z : List X) × (xs ≡ done ++ s ∷ z) × (todo ≡ z ++ ys)) ⊎ ((z : List X) × (done ≡ xs ++ z) × (ys ≡ z ++ s ∷ todo))
cut_two [] ys done s todo e = inr (done, refl, e)
cut_two (x ∷ xs) ys [] s todo e = let one : x ≡ s = cc in let two : xs ++ ys ≡ todo = cc in inl (xs, ap (λ y. y ∷ xs) one, sym two)
cut_two (x ∷ xs) ys (d ∷ done) s todo e =
    let one : x ≡ d = cc in let two : xs ++ ys ≡ done ++ s ∷ todo = cc in
    elim (cut_two xs ys done s todo two) [
      | inl (z, f, g) ↦ inl (z, ap (λ y. y ∷ xs) one ∙ ap (λ l. d ∷ l) f, g)
      | inr (z, f, g) ↦ inr (z, ap (λ y. y ∷ done) (sym one) ∙ ap (λ l. x ∷ l) f, g)
    ]

-- the steps from one place, up to one of them
cut_steps : (p : FilePath) (es : List Entry) (done : List Step) (s : Step) (z : List Step) → map (step_from p) es ≡ done ++ s ∷ z
    → (s.0 ≡ p) × (one two : List Entry) × (es ≡ one ++ s.1 ∷ two) × (done ≡ map (step_from p) one)
cut_steps p [] [] s z e = cc
cut_steps p [] (d ∷ done) s z e = cc
cut_steps p (x ∷ es) [] s z e = let is : step_from p x ≡ s = cc in (sym (ap (λ (q : Step). q.0) is), [], es, ap (λ (q : Step). q.1 ∷ es) is, refl)
cut_steps p (x ∷ es) (d ∷ done) s z e =
    let here : step_from p x ≡ d = cc in let after : map (step_from p) es ≡ done ++ s ∷ z = cc in
    let rest = cut_steps p es done s z after in
    (rest.0, x ∷ rest.1, rest.2, ap (λ l. x ∷ l) rest.3, ap (λ (q : Step). q ∷ done) (sym here) ∙ ap (λ l. step_from p x ∷ l) rest.4)

-- where a step of a walk comes from
pub record IsFrom (t : Tree) (places : List FilePath) (done : List Step) (s : Step) : Type 0 where
  pub ahead : List FilePath
  pub after : List FilePath
  pub places_are : places ≡ ahead ++ s.0 ∷ after
  pub more : List Step
  pub done_is : done ≡ steps t ahead ++ more
  pub one : List Entry
  pub two : List Entry
  pub entries : entries_at t s.0.number ≡ one ++ s.1 ∷ two

pub step_is_from : (t : Tree) (places : List FilePath) (done : List Step) (s : Step) (todo : List Step) → steps t places ≡ done ++ s ∷ todo
    → IsFrom t places done s
step_is_from t [] [] s todo e = cc
step_is_from t [] (d ∷ done) s todo e = cc
step_is_from t (p ∷ places) done s todo e = elim (cut_two (steps_from t p) (steps t places) done s todo e) [
  | inl (z, f, g) ↦
      let c = cut_steps p (entries_at t p.number) done s z f in
      record {
        ahead = [];
        after = places;
        places_are = ap (λ (q : FilePath). q ∷ places) (sym c.0);
        more = done;
        done_is = refl;
        one = c.1;
        two = c.2;
        entries = ap (λ (q : FilePath). entries_at t q.number) c.0 ∙ c.3;
      }
  | inr (z, f, g) ↦
      let rest = step_is_from t places z s todo g in
      record {
        ahead = p ∷ rest.ahead;
        after = rest.after;
        places_are = ap (λ l. p ∷ l) rest.places_are;
        more = rest.more;
        done_is = f ∙ ap (λ l. steps_from t p ++ l) rest.done_is ∙ sym (append_assoc (steps_from t p) (steps t rest.ahead) rest.more);
        one = rest.one;
        two = rest.two;
        entries = rest.entries;
      }
]

-- ---- a parent stands before what is below it

abbrev Longer : ℕ → List FilePath → Type 0
Longer n [] = Unit {0}
Longer n (p ∷ places) = (n ≤ length p.path) × Longer n places

longer_append : (n : ℕ) (xs ys : List FilePath) → Longer n xs → Longer n ys → Longer n (xs ++ ys)
longer_append n [] ys one two = two
longer_append n (x ∷ xs) ys one two = (one.0, longer_append n xs ys one.1 two)

longer_last : (n : ℕ) (xs ys : List FilePath) → Longer n (xs ++ ys) → Longer n ys
longer_last n [] ys all = all
longer_last n (x ∷ xs) ys all = longer_last n xs ys all.1

longer_entries : (n : ℕ) (path : List ℕ) (es : List Entry) → n ≤ length path → Longer (suc n) (map (place_below path) es)
longer_entries n path [] le = tt
longer_entries n path (e ∷ es) le = let long = length-append path (47 ∷ e.name) in (omega (arith, le, long), longer_entries n path es le)

longer_below : (t : Tree) (n : ℕ) (places : List FilePath) → Longer n places → Longer (suc n) (flat_map (places_below t) places)
longer_below t n [] all = tt
longer_below t n (p ∷ places) all = longer_append (suc n) (places_below t p) (flat_map (places_below t) places)
    (longer_entries n p.path (entries_at t p.number) all.0) (longer_below t n places all.1)

longer_none : (places : List FilePath) → Longer zero places
longer_none [] = tt
longer_none (p ∷ places) = (omega arith, longer_none places)

-- no places are below themselves
longer_all : (t : Tree) (z places : List FilePath) → flat_map (places_below t) places ≡ z ++ places → (n : ℕ) → Longer n places
longer_all t z places e zero = longer_none places
longer_all t z places e (suc n) = longer_last (suc n) z places (subst (λ l. Longer (suc n) l) e (longer_below t n places (longer_all t z places e n)))

contains_left : {X : Type 0} (x : X) (xs ys : List X) → Contains xs x → Contains (xs ++ ys) x
contains_left x [] ys c = absurd (not_in_empty [] x refl c)
contains_left x (y ∷ xs) ys c = elim (head_or_tail y x xs c) [
  | inl e ↦ subst (λ w. Contains (w ∷ (xs ++ ys)) x) (sym e) (in_head x (xs ++ ys))
  | inr r ↦ in_tail y x (xs ++ ys) (contains_left x xs ys r)
]

pub contains_middle : {X : Type 0} (x : X) (xs ys : List X) → Contains (xs ++ x ∷ ys) x
contains_middle x [] ys = in_head x ys
contains_middle x (y ∷ xs) ys = in_tail y x (xs ++ x ∷ ys) (contains_middle x xs ys)

module _ (t : Tree) (root : ℕ) where
  abbrev pub root_place : FilePath
  root_place = record { path = []; number = root }

  after_ahead : (walk ahead : List FilePath) (p : FilePath) (after : List FilePath) → IsWalk t root walk → walk ≡ ahead ++ p ∷ after
      → Contains (root_place ∷ flat_map (places_below t) ahead) p
  after_ahead walk ahead p after walked are =
      let known : List FilePath = root_place ∷ flat_map (places_below t) ahead in
      let below : List FilePath = flat_map (places_below t) (p ∷ after) in
      let all : known ++ below ≡ ahead ++ p ∷ after =
      ap (λ l. root_place ∷ l) (sym (flat_map-append (places_below t) ahead (p ∷ after)) ∙ ap (flat_map (places_below t)) (sym are)) ∙ sym walked ∙ are in
      elim (cut_two known below ahead p after all) [
        | inl (z, f, g) ↦ subst (λ l. Contains l p) (sym f) (contains_middle p ahead z)
        | inr (z, f, g) ↦ absurd (let long = (longer_all t z (p ∷ after) g (suc (length p.path))).0 in omega (arith, long))
      ]

  pub parent_stands : (walk : List FilePath) (done : List Step) (s : Step) (todo : List Step) → IsWalk t root walk → steps t walk ≡ done ++ s ∷ todo
      → Contains (root_place ∷ map place_of done) s.0
  parent_stands walk done s todo walked are =
      let from = step_is_from t walk done s todo are in
      let there = after_ahead walk from.ahead s.0 from.after walked from.places_are in
      let all : root_place ∷ map place_of done ≡ (root_place ∷ flat_map (places_below t) from.ahead) ++ map place_of from.more =
      ap (λ l. root_place ∷ map place_of l) from.done_is ∙ ap (λ l. root_place ∷ l) (map-append place_of (steps t from.ahead) from.more)
      ∙ ap (λ l. root_place ∷ (l ++ map place_of from.more)) (places_of_steps t from.ahead) in
      subst (λ l. Contains l s.0) (sym all) (contains_left s.0 (root_place ∷ flat_map (places_below t) from.ahead) (map place_of from.more) there)

-- ---- how often a number stands in a walk

abbrev pub stands : ℕ → List FilePath → ℕ
stands n places = sum_by (λ (p : FilePath). one_when (nat_eq p.number n)) places

abbrev pub named_from : Tree → ℕ → List FilePath → ℕ
named_from t n places = sum_by (λ (p : FilePath). names_in n (entries_at t p.number)) places

stands_entries : (n : ℕ) (path : List ℕ) (es : List Entry) → stands n (map (place_below path) es) ≡ names_in n es
stands_entries n path [] = refl
stands_entries n path (e ∷ es) =
    let rest = stands_entries n path es in
    let one = sum_by-cons (λ (p : FilePath). one_when (nat_eq p.number n)) (place_below path e) (map (place_below path) es) in
    let two = sum_by-cons (λ (g : Entry). one_when (nat_eq g.number n)) e es in omega (arith, rest, one, two)

stands_below : (t : Tree) (n : ℕ) (places : List FilePath) → stands n (flat_map (places_below t) places) ≡ named_from t n places
stands_below t n [] = refl
stands_below t n (p ∷ places) =
    let rest = stands_below t n places in
    let here = stands_entries n p.path (entries_at t p.number) in
    let one = sum_by-append (λ (q : FilePath). one_when (nat_eq q.number n)) (places_below t p) (flat_map (places_below t) places) in
    let two = sum_by-cons (λ (q : FilePath). names_in n (entries_at t q.number)) p places in omega (arith, rest, here, one, two)

-- the root, and what the entries of its places name
pub stands_in_walk : (t : Tree) (root n : ℕ) (walk : List FilePath) → IsWalk t root walk → stands n walk ≡ one_when (nat_eq root n) + named_from t n walk
stands_in_walk t root n walk walked =
    ap (stands n) walked ∙ sum_by-cons (λ (p : FilePath). one_when (nat_eq p.number n)) (root_place t root) (flat_map (places_below t) walk)
    ∙ ap (λ m. one_when (nat_eq root n) + m) (stands_below t n walk)

-- what is found passes
pub passes : {X : Type 0} (test : X → Bool) (xs : List X) (x : X) → find test xs ≡ Some x → test x ≡ true
passes test [] x e = absurd (not_both refl e)
passes {X} test (y ∷ xs) x e = by_test (test y)
    (λ t. subst (λ (z : X). test z ≡ true) (same_some (sym (ap (λ b. cond b (Some y) (find test xs)) t) ∙ e)) t)
    (λ f. passes test xs x (sym (ap (λ b. cond b (Some y) (find test xs)) f) ∙ e))

-- ---- a volume has one walk

none_below_itself : (t : Tree) (places : List FilePath) → places ≡ flat_map (places_below t) places → places ≡ []
none_below_itself t [] e = refl
none_below_itself t (p ∷ places) e = absurd (let long = (longer_all t [] (p ∷ places) (sym e) (suc (length p.path))).0 in omega (arith, long))

module _ (t : Tree) (root : ℕ) where
  -- what stands ahead leads on to the next place
  next_known : (ahead : List FilePath) (p : FilePath) (after : List FilePath) → IsWalk t root (ahead ++ p ∷ after)
      → (z : List FilePath) × (root_place t root ∷ flat_map (places_below t) ahead ≡ ahead ++ p ∷ z)
  next_known ahead p after walked =
      let known : List FilePath = root_place t root ∷ flat_map (places_below t) ahead in
      let below : List FilePath = flat_map (places_below t) (p ∷ after) in
      let all : known ++ below ≡ ahead ++ p ∷ after = ap (λ l. root_place t root ∷ l) (sym (flat_map-append (places_below t) ahead (p ∷ after)))
      ∙ sym walked in
      elim (cut_two known below ahead p after all) [
        | inl (z, f, g) ↦ (z, f)
        | inr (z, f, g) ↦ absurd (let long = (longer_all t z (p ∷ after) g (suc (length p.path))).0 in omega (arith, long))
      ]

  -- where all stands ahead nothing is after
  none_after : (ahead after : List FilePath) → IsWalk t root ahead → IsWalk t root (ahead ++ after) → after ≡ []
  none_after ahead after whole walked = none_below_itself t after
      (append_cancel_left ahead after (flat_map (places_below t) after)
      (walked ∙ ap (λ l. root_place t root ∷ l) (flat_map-append (places_below t) ahead after) ∙ ap (λ l. l ++ flat_map (places_below t) after) (sym whole)))

  one_from : (ahead one two : List FilePath) → IsWalk t root (ahead ++ one) → IsWalk t root (ahead ++ two) → ahead ++ one ≡ ahead ++ two
  one_from ahead [] two first second =
      let whole : IsWalk t root ahead = subst (IsWalk t root) (append-nil ahead) first in
      ap (λ l. ahead ++ l) (sym (none_after ahead two whole second))
  one_from ahead (p ∷ one) [] first second =
      let whole : IsWalk t root ahead = subst (IsWalk t root) (append-nil ahead) second in
      ap (λ l. ahead ++ l) (none_after ahead (p ∷ one) whole first)
  one_from ahead (p ∷ one) (q ∷ two) first second =
      let known = next_known ahead p one first in
      let other = next_known ahead q two second in
      let heads : p ∷ known.0 ≡ q ∷ other.0 = append_cancel_left ahead (p ∷ known.0) (q ∷ other.0) (sym known.1 ∙ other.1) in
      let same : p ≡ q = cc in
      let next : (ahead ++ p ∷ []) ++ two ≡ ahead ++ q ∷ two = append_assoc ahead (p ∷ []) two ∙ ap (λ (r : FilePath). ahead ++ r ∷ two) same in
      sym (append_assoc ahead (p ∷ []) one)
      ∙ one_from (ahead ++ p ∷ []) one two (subst (IsWalk t root) (sym (append_assoc ahead (p ∷ []) one)) first) (subst (IsWalk t root) (sym next) second)
      ∙ next

  pub one_walk : (one two : List FilePath) → IsWalk t root one → IsWalk t root two → one ≡ two
  one_walk one two first second = one_from [] one two first second
