-- Dead places that go, and rows with the places that are left.
use Rattle.std.proofs.Common.{inl, inr, ◌≡◌, ◌⊎◌, ℕ, zero, suc, ◌+◌, Bool, true, cond, Option, Some, None, option_map, is_some, List, [], ◌∷◌, map, length, nat_eq, refl, sym, ap, subst, ◌∙◌, arith}
use Rattle.std.specs.Prelude.{slice_get, Contains}
use Rattle.std.specs.List.{filter, cons_option}
use Rattle.std.proofs.lemmas.Bool.{eq-eqb}
use Rattle.std.proofs.lemmas.Option.{slice_get_within, slice_get_past}
use Rattle.indexmap.specs.IndexMap.{set_value_at}
use Rattle.nfs_entries.specs.Listing.{KeptValue, PlaceValue, Row, Entry, entry_at, standing, listed, is_live, placed_at, linked, no_row, Rises, IsPlacedAt, IsKept, IsThinned}
use Rattle.nfs_entries.proofs.Cases.{by_test, by_number, not_equal, if_true, if_false, same_some, not_both, true_and_false, head_or_tail, in_head, in_tail}
use Rattle.nfs_entries.proofs.Keys.{none_past}
use Rattle.nfs_entries.proofs.Places.{filter_rises, one_position}
use Rattle.nfs_entries.proofs.Rows.{stands, row_stands, listed_live}

-- ---- rows with other places

abbrev pub moved : ℕ → Row → Row
moved place r = (r.0, record { place = place; number = r.1.number })

pub placed_here : (i place : ℕ) (rows : List Row) (r : Row) → slice_get rows i ≡ Some r → slice_get (placed_at i place rows) i ≡ Some (moved place r)
placed_here i place [] r at = absurd (not_both refl at)
placed_here zero place (s ∷ rows) r at = ap (λ (r : Row). Some (moved place r)) (same_some at)
placed_here (suc i) place (s ∷ rows) r at = placed_here i place rows r at

pub placed_else : (i place : ℕ) (rows : List Row) (j : ℕ) → (j ≡ i → ⊥) → slice_get (placed_at i place rows) j ≡ slice_get rows j
placed_else i place [] j other = refl
placed_else zero place (s ∷ rows) zero other = absurd (other refl)
placed_else zero place (s ∷ rows) (suc j) other = refl
placed_else (suc i) place (s ∷ rows) zero other = refl
placed_else (suc i) place (s ∷ rows) (suc j) other = placed_else i place rows j (λ same. other (ap suc same))

pub length-placed_at : (i place : ℕ) (rows : List Row) → length (placed_at i place rows) ≡ length rows
length-placed_at i place [] = refl
length-placed_at zero place (r ∷ rows) = refl
length-placed_at (suc i) place (r ∷ rows) = ap suc (length-placed_at i place rows)

-- a row is placed elsewhere where its values are written anew with its own number
pub placed_set : (i place : ℕ) (rows : List Row) (kept : KeptValue) → slice_get (map (λ r. r.1) rows) i ≡ Some kept → set_value_at rows i (record { place = place; number = kept.number }) ≡ placed_at i place rows
placed_set i place [] kept at = refl
placed_set zero place (r ∷ rows) kept at = ap (λ (k : KeptValue). (r.0, record { place = place; number = k.number }) ∷ rows) (sym (same_some at))
placed_set (suc i) place (r ∷ rows) kept at = ap (λ rs. r ∷ rs) (placed_set i place rows kept at)

-- past the end no row is placed elsewhere
pub placed_past : (i place : ℕ) (rows : List Row) → slice_get (map (λ r. r.1) rows) i ≡ None → placed_at i place rows ≡ rows
placed_past i place [] past = refl
placed_past zero place (r ∷ rows) past = absurd (not_both past refl)
placed_past (suc i) place (r ∷ rows) past = ap (λ rs. r ∷ rs) (placed_past i place rows past)

-- the last of some places that leads to a row, where the first of them is the n-th; d where none does
abbrev pub last_at : ℕ → ℕ → List PlaceValue → ℕ → ℕ
last_at n i [] d = d
last_at n i (p ∷ ps) d = last_at (n + 1) i ps (cond (nat_eq p.index i) n d)

pub linked_at : (ps : List PlaceValue) (n i : ℕ) (rows : List Row) (r : Row) → slice_get rows i ≡ Some r → slice_get (linked n ps rows) i ≡ Some (moved (last_at n i ps r.1.place) r)
linked_at [] n i rows r at = at
linked_at (p ∷ ps) n i rows r at = by_number i p.index
    (λ same. linked_at ps (n + 1) i (placed_at p.index n rows) (moved n r) (subst (λ j. slice_get (placed_at j n rows) i ≡ Some (moved n r)) same (placed_here i n rows r at))
    ∙ ap (λ d. Some (moved (last_at (n + 1) i ps d) r)) (sym (if_true n r.1.place (eq-eqb p.index i (sym same)))))
    (λ other. linked_at ps (n + 1) i (placed_at p.index n rows) r (placed_else p.index n rows i other ∙ at)
    ∙ ap (λ d. Some (moved (last_at (n + 1) i ps d) r)) (sym (if_false n r.1.place (not_equal p.index i (λ same. other (sym same))))))

pub length-linked : (ps : List PlaceValue) (n : ℕ) (rows : List Row) → length (linked n ps rows) ≡ length rows
length-linked [] n rows = refl
length-linked (p ∷ ps) n rows = length-linked ps (n + 1) (placed_at p.index n rows) ∙ length-placed_at p.index n rows

-- a row there is one that was there, with another place
pub record WasAt (ps : List PlaceValue) (rows : List Row) (i : ℕ) (s : Row) : Type 0 where
  pub row : Row
  pub at_row : slice_get rows i ≡ Some row
  pub now : s ≡ moved (last_at 0 i ps row.1.place) row

pub was_at : (ps : List PlaceValue) (rows : List Row) (i : ℕ) (s : Row) → slice_get (linked 0 ps rows) i ≡ Some s → WasAt ps rows i s
was_at ps rows i s at = by (slice_get rows i) refl
  where
    by : (o : Option Row) → slice_get rows i ≡ o → WasAt ps rows i s
    by (Some r) was = record { row = r; at_row = was; now = same_some (sym at ∙ linked_at ps 0 i rows r was) }
    by None was = absurd (let within = slice_get_within (linked 0 ps rows) i s at in let long = length-linked ps 0 rows in let past = none_past rows i was in omega (arith, within, long, past))

-- the same stands at each place
pub stands_linked : (ps : List PlaceValue) (rows : List Row) (q : PlaceValue) → standing (linked 0 ps rows) q ≡ standing rows q
stands_linked ps rows q = by (slice_get rows q.index) refl
  where
    by : (o : Option Row) → slice_get rows q.index ≡ o → standing (linked 0 ps rows) q ≡ standing rows q
    by (Some r) was = ap (option_map (entry_at q.cookie)) (linked_at ps 0 q.index rows r was) ∙ sym (ap (option_map (entry_at q.cookie)) was)
    by None was = ap (option_map (entry_at q.cookie)) (slice_get_past (linked 0 ps rows) q.index (let long = length-linked ps 0 rows in let past = none_past rows q.index was in omega (arith, long, past)) ∙ sym was)

pub listed_linked : (ps : List PlaceValue) (rows : List Row) (qs : List PlaceValue) → listed (linked 0 ps rows) qs ≡ listed rows qs
listed_linked ps rows [] = refl
listed_linked ps rows (q ∷ qs) = (λ i. cons_option (stands_linked ps rows q i) (listed_linked ps rows qs i))

-- ---- live places alone

pub contains_at : {X : Type 0} (xs : List X) (k : ℕ) (x : X) → slice_get xs k ≡ Some x → Contains xs x
contains_at [] k x at = absurd (not_both refl at)
contains_at (y ∷ xs) zero x at = subst (Contains (y ∷ xs)) (same_some at) (in_head y xs)
contains_at (y ∷ xs) (suc k) x at = in_tail y x xs (contains_at xs k x at)

-- an element that passes is among those that pass
pub contains_filter : (keep : PlaceValue → Bool) (ps : List PlaceValue) (p : PlaceValue) → Contains ps p → keep p ≡ true → Contains (filter keep ps) p
contains_filter keep [] p there y = there
contains_filter keep (x ∷ ps) p there y = elim (head_or_tail x p ps there) [
  | inl same ↦ subst (λ qs. Contains qs p) (sym (if_true (x ∷ filter keep ps) (filter keep ps) (ap keep same ∙ y))) (subst (λ q. Contains (x ∷ filter keep ps) q) same (in_head x (filter keep ps)))
  | inr rest ↦ by_test (keep x)
      (λ t. subst (λ qs. Contains qs p) (sym (if_true (x ∷ filter keep ps) (filter keep ps) t)) (in_tail x p (filter keep ps) (contains_filter keep ps p rest y)))
      (λ n. subst (λ qs. Contains qs p) (sym (if_false (x ∷ filter keep ps) (filter keep ps) n)) (contains_filter keep ps p rest y))
]

-- one of those that pass was there, and passes
pub record Passed (keep : PlaceValue → Bool) (ps : List PlaceValue) (q : PlaceValue) : Type 0 where
  pub at : ℕ
  pub was : slice_get ps at ≡ Some q
  pub passes : keep q ≡ true

later : (keep : PlaceValue → Bool) (p : PlaceValue) (ps : List PlaceValue) (q : PlaceValue) → Passed keep ps q → Passed keep (p ∷ ps) q
later keep p ps q it = record { at = suc it.at; was = it.was; passes = it.passes }

pub passed : (keep : PlaceValue → Bool) (ps : List PlaceValue) (k : ℕ) (q : PlaceValue) → slice_get (filter keep ps) k ≡ Some q → Passed keep ps q
passed keep [] k q at = absurd (not_both refl at)
passed keep (p ∷ ps) k q at = by_test (keep p)
    (λ y. by_first k (sym (ap (λ qs. slice_get qs k) (if_true (p ∷ filter keep ps) (filter keep ps) y)) ∙ at) y (λ k. passed keep ps k q))
    (λ n. later keep p ps q (passed keep ps k q (sym (ap (λ qs. slice_get qs k) (if_false (p ∷ filter keep ps) (filter keep ps) n)) ∙ at)))
  where
    by_first : (k : ℕ) → slice_get (p ∷ filter keep ps) k ≡ Some q → keep p ≡ true → ((k : ℕ) → slice_get (filter keep ps) k ≡ Some q → Passed keep ps q) → Passed keep (p ∷ ps) q
    by_first zero at y rest = record { at = 0; was = at; passes = ap keep (sym (same_some at)) ∙ y }
    by_first (suc k) at y rest = later keep p ps q (rest k at)

-- of some places that lead to a row all are one; so is the last of them
pub last_is : (all ps : List PlaceValue) (n i d : ℕ) (p : PlaceValue) → ((j : ℕ) → slice_get ps j ≡ slice_get all (n + j)) → ((k : ℕ) (q : PlaceValue) → slice_get all k ≡ Some q → q.index ≡ i → q ≡ p) → p.index ≡ i
    → (slice_get all d ≡ Some p) ⊎ Contains ps p → slice_get all (last_at n i ps d) ≡ Some p
last_is all [] n i d p same only leads (inl at) = at
last_is all [] n i d p same only leads (inr there) = absurd (let within = there.1 in omega (arith, within))
last_is all (q ∷ ps) n i d p same only leads is = by_number q.index i
    (λ here. let at : slice_get all n ≡ Some q = subst (λ m. slice_get all m ≡ Some q) (omega arith) (sym (same 0)) in
    subst (λ d. slice_get all (last_at (n + 1) i ps d) ≡ Some p) (sym (if_true n d (eq-eqb q.index i here)))
    (last_is all ps (n + 1) i n p next only leads (inl (at ∙ ap Some (only n q at here)))))
    (λ other. subst (λ d. slice_get all (last_at (n + 1) i ps d) ≡ Some p) (sym (if_false n d (not_equal q.index i other)))
    (last_is all ps (n + 1) i d p next only leads (elim is [
      | inl at ↦ inl at
      | inr there ↦ elim (head_or_tail q p ps there) [
        | inl one ↦ absurd (other (ap (λ (p : PlaceValue). p.index) one ∙ leads))
        | inr rest ↦ inr rest
      ]
    ])))
  where
    next : (j : ℕ) → slice_get ps j ≡ slice_get all (n + 1 + j)
    next j = same (suc j) ∙ ap (slice_get all) (omega arith)

counted : (o : Option Entry) (es : List Entry) → is_some o ≡ true → length (cons_option o es) ≡ suc (length es)
counted None es y = cc
counted (Some e) es y = refl

-- where dead places are gone, each has its entry
pub each_live : (rows : List Row) (ps : List PlaceValue) → length (listed rows (filter (is_live rows) ps)) ≡ length (filter (is_live rows) ps)
each_live rows [] = refl
each_live rows (p ∷ ps) = let rest = filter (is_live rows) ps in by_test (is_live rows p)
    (λ y. subst (λ qs. length (listed rows qs) ≡ length qs) (sym (if_true (p ∷ rest) rest y)) (counted (standing rows p) (listed rows rest) y ∙ ap suc (each_live rows ps)))
    (λ n. subst (λ qs. length (listed rows qs) ≡ length qs) (sym (if_false (p ∷ rest) rest n)) (each_live rows ps))

module _ (rows : List Row) (ps : List PlaceValue) (next : ℕ) (kept : IsKept rows ps next) where
  abbrev live : List PlaceValue
  live = filter (is_live rows) ps

  rises : Rises 0 live next
  rises = filter_rises (is_live rows) 0 next ps kept.rises

  -- the live places that lead to a row are its own
  only : (i : ℕ) (r : Row) (at_row : slice_get rows i ≡ Some r) (k : ℕ) (q : PlaceValue) → slice_get live k ≡ Some q → q.index ≡ i → q ≡ (kept.placed i r at_row).place
  only i r at_row k q at leads =
      let was = passed (is_live rows) ps k q at in
      elim (kept.owned was.at q was.was) [
        | inl gone ↦ absurd (let within = slice_get_within rows i r at_row in let bound = kept.bound in omega (arith, within, bound, gone, leads))
        | inr o ↦
            let place : was.at ≡ r.1.place = sym o.place_is ∙ ap (λ (r : Row). r.1.place) (same_some (sym o.at_row ∙ ap (slice_get rows) leads ∙ at_row)) in
            same_some (sym was.was ∙ ap (slice_get ps) place ∙ (kept.placed i r at_row).at_place)
      ]

  -- the last that leads to a row is its place
  last_live : (i : ℕ) (r : Row) (at_row : slice_get rows i ≡ Some r) → slice_get live (last_at 0 i live r.1.place) ≡ Some (kept.placed i r at_row).place
  last_live i r at_row =
      let was = kept.placed i r at_row in
      last_is live live 0 i r.1.place was.place (λ j. ap (slice_get live) (omega arith)) (only i r at_row) was.leads
      (inr (contains_filter (is_live rows) ps was.place (contains_at ps r.1.place was.place was.at_place) (ap is_some (row_stands rows was.place i r was.leads at_row))))

  pub kept_live : IsKept (linked 0 live rows) live next
  kept_live = record {
    rises = rises;
    placed = λ i s at. let was = was_at live rows i s at in
        let place = kept.placed i was.row was.at_row in
        record { place = place.place; at_place = ap (λ (s : Row). slice_get live s.1.place) was.now ∙ last_live i was.row was.at_row; leads = place.leads };
    owned = λ k q at. let is = passed (is_live rows) ps k q at in by k q at (standing rows q) refl is.passes;
    apart = λ i j s t at_i at_j same. let was_i = was_at live rows i s at_i in let was_j = was_at live rows j t at_j in
        kept.apart i j was_i.row was_j.row was_i.at_row was_j.at_row (sym (ap (λ (s : Row). s.0) was_i.now) ∙ same ∙ ap (λ (s : Row). s.0) was_j.now);
    bound = let long = length-linked live 0 rows in let bound = kept.bound in omega (arith, long, bound);
  }
    where
      by : (k : ℕ) (q : PlaceValue) → slice_get live k ≡ Some q → (o : Option Entry) → standing rows q ≡ o → is_some (standing rows q) ≡ true → (q.index ≡ no_row) ⊎ IsPlacedAt (linked 0 live rows) k q.index
      by k q at None is y = absurd (true_and_false y (ap is_some is))
      by k q at (Some e) is y =
          let s = stands rows q e is in
          let there = last_live q.index s.row s.at_row in
          let one = only q.index s.row s.at_row k q at refl in
          inr (record {
            row = moved (last_at 0 q.index live s.row.1.place) s.row;
            at_row = linked_at live 0 q.index rows s.row s.at_row;
            place_is = one_position 0 next live (last_at 0 q.index live s.row.1.place) k q rises (there ∙ ap Some (sym one)) at;
          })

-- dead places may go
pub thinned : (rows : List Row) (ps : List PlaceValue) (new : List Row) (qs : List PlaceValue) (next : ℕ) → IsThinned rows ps new qs → IsKept rows ps next → (listed new qs ≡ listed rows ps) × IsKept new qs next
thinned rows ps new qs next (inl same) kept = (
  (λ i. listed (same.0 i) (same.1 i)),
  subst (λ rs. IsKept rs qs next) (sym same.0) (subst (λ l. IsKept rows l next) (sym same.1) kept),
)
thinned rows ps new qs next (inr less) kept =
    let live = filter (is_live rows) ps in
    let rows_are : new ≡ linked 0 live rows = less.1 ∙ ap (λ l. linked 0 l rows) less.0 in (
      (λ i. listed (rows_are i) (less.0 i)) ∙ listed_linked live rows live ∙ listed_live rows ps,
      subst (λ rs. IsKept rs qs next) (sym rows_are) (subst (λ l. IsKept (linked 0 live rows) l next) (sym less.0) (kept_live rows ps next kept)),
    )

-- where dead places are gone and rows linked, each place has its entry
pub each_linked : (rows : List Row) (ps : List PlaceValue) (new : List Row) (qs : List PlaceValue) → qs ≡ filter (is_live rows) ps → new ≡ linked 0 qs rows → length (listed new qs) ≡ length qs
each_linked rows ps new qs live are =
    ap (λ rs. length (listed rs qs)) are ∙ ap length (listed_linked qs rows qs)
    ∙ subst (λ l. length (listed rows l) ≡ length l) (sym live) (each_live rows ps)
