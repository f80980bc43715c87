-- A row that goes, where the last one takes its place.
use Rattle.std.proofs.Common.{inl, inr, ◌≡◌, ◌⊎◌, ℕ, suc, ◌<◌, ◌≤◌, ◌-◌, true, not, cond, Option, Some, None, option_map, List, [], ◌∷◌, length, nat_lt, bytes_eq, refl, sym, ap, subst, ◌∙◌, arith}
use Rattle.std.specs.Prelude.{slice_get, slice_index_or, IfSome}
use Rattle.std.specs.List.{find, cons_option, swap_remove}
use Rattle.std.proofs.lemmas.Bool.{ltb-true, ltb-false}
use Rattle.std.proofs.lemmas.Option.{slice_get_within, slice_get_past, slice_get-get_or}
use Rattle.std.proofs.lemmas.Slice.Eq.{bytes_eq-Decides}
use Rattle.nfs_entries.specs.Listing.{KeptValue, PlaceValue, Row, Entry, entry_at, standing, listed, has_name, without, led, settled, no_row, max_rows, LeadsTo, IsPlacedAt, IsKept, IsRowOf, IsThinned}
use Rattle.nfs_entries.proofs.Cases.{by_test, by_number, if_true, if_false, same_some, not_both}
use Rattle.nfs_entries.proofs.Keys.{take_get, take_history, set_get, set_other, none_past}
use Rattle.nfs_entries.proofs.Places.{led_here, led_else, length-led, led_rises}
use Rattle.nfs_entries.proofs.Rows.{stands, row_stands, none_stands}
use Rattle.nfs_entries.proofs.Thinning.{thinned}

-- an entry, unless it has the name
abbrev pub dropped : List ℕ → Option Entry → Option Entry
dropped name None = None
dropped name (Some e) = cond (has_name name e) None (Some e)

pub cons_dropped : (name : List ℕ) (o : Option Entry) (es : List Entry) → cons_option (dropped name o) (without name es) ≡ without name (cons_option o es)
cons_dropped name None es = refl
cons_dropped name (Some e) es = by_test (has_name name e)
    (λ y. ap (λ o. cons_option o (without name es)) (if_true None (Some e) y) ∙ sym (if_false (e ∷ without name es) (without name es) (ap not y)))
    (λ n. ap (λ o. cons_option o (without name es)) (if_false None (Some e) n) ∙ sym (if_true (e ∷ without name es) (without name es) (ap not n)))

-- what is listed loses a name where each place does
pub listed_without : (name : List ℕ) (old new : List Row) (ps qs : List PlaceValue) → length qs ≡ length ps
    → ((j : ℕ) (p q : PlaceValue) → slice_get ps j ≡ Some p → slice_get qs j ≡ Some q → standing new q ≡ dropped name (standing old p)) → listed new qs ≡ without name (listed old ps)
listed_without name old new [] [] long each = refl
listed_without name old new [] (q ∷ qs) long each = absurd (omega (arith, long))
listed_without name old new (p ∷ ps) [] long each = absurd (omega (arith, long))
listed_without name old new (p ∷ ps) (q ∷ qs) long each =
    ap (λ o. cons_option o (listed new qs)) (each 0 p q refl refl)
    ∙ ap (cons_option (dropped name (standing old p))) (listed_without name old new ps qs (omega (arith, long)) (λ j p q at_p at_q. each (suc j) p q at_p at_q))
    ∙ cons_dropped name (standing old p) (listed old ps)

-- ---- the rows before and after

pub record Goes (old new : List Row) (i last : ℕ) (l : Row) : Type 0 where
  pub first : i ≤ last
  pub at_last : slice_get old last ≡ Some l
  pub history : (j : ℕ) → last < j → slice_get old j ≡ None
  pub came : i < last → slice_get new i ≡ Some l
  pub none : (j : ℕ) → last ≤ j → slice_get new j ≡ None
  pub stay : (j : ℕ) → j < last → (j ≡ i → ⊥) → slice_get new j ≡ slice_get old j

pub goes : (old : List Row) (i : ℕ) (d : Row) → i < length old → Goes old (swap_remove old i d) i (length old - 1) (slice_index_or old (length old - 1) d)
goes old i d within =
    let last = length old - 1 in
    let l = slice_index_or old last d in
    record {
      first = omega (arith, within);
      at_last = slice_get-get_or old last d (omega (arith, within));
      history = λ j less. slice_get_past old j (omega (arith, less));
      came = λ less. take_get last _ i less ∙ set_get old i l within;
      none = λ j less. take_history last _ j less;
      stay = λ j less other. take_get last _ j less ∙ set_other old i l j other;
    }

-- the place of a row is the one that leads to it
pub only_place : (rows : List Row) (ps : List PlaceValue) (next i : ℕ) (r : Row) → IsKept rows ps next → slice_get rows i ≡ Some r → (j : ℕ) (p : PlaceValue) → slice_get ps j ≡ Some p → p.index ≡ i → j ≡ r.1.place
only_place rows ps next i r kept at_row j p at leads = elim (kept.owned j p at) [
  | inl gone ↦ absurd (let within = slice_get_within rows i r at_row in let bound = kept.bound in omega (arith, within, bound, gone, leads))
  | inr o ↦ sym o.place_is ∙ ap (λ (r : Row). r.1.place) (same_some (sym o.at_row ∙ ap (slice_get rows) leads ∙ at_row))
]

module _ (name : List ℕ) (old new : List Row) (ps : List PlaceValue) (next i last : ℕ) (l r : Row) (kept : IsKept old ps next) (g : Goes old new i last l) (at_row : slice_get old i ≡ Some r) (named : bytes_eq r.0 name ≡ true) where
  -- the place of the row that goes, and that of the last one
  abbrev k : ℕ
  k = r.1.place

  abbrev m : ℕ
  m = l.1.place

  here : LeadsTo ps k i
  here = kept.placed i r at_row

  there : LeadsTo ps m last
  there = kept.placed last l g.at_last

  is_here : (p : PlaceValue) → slice_get ps k ≡ Some p → p.index ≡ i
  is_here p at = ap (λ (p : PlaceValue). p.index) (same_some (sym at ∙ here.at_place)) ∙ here.leads

  is_there : (p : PlaceValue) → slice_get ps m ≡ Some p → p.index ≡ last
  is_there p at = ap (λ (p : PlaceValue). p.index) (same_some (sym at ∙ there.at_place)) ∙ there.leads

  not_here : (j : ℕ) (p : PlaceValue) → slice_get ps j ≡ Some p → (j ≡ k → ⊥) → p.index ≡ i → ⊥
  not_here j p at other same = other (only_place old ps next i r kept at_row j p at same)

  not_there : (j : ℕ) (p : PlaceValue) → slice_get ps j ≡ Some p → (j ≡ m → ⊥) → p.index ≡ last → ⊥
  not_there j p at other same = other (only_place old ps next last l kept g.at_last j p at same)

  within_rows : last < max_rows
  within_rows = let within = slice_get_within old last l g.at_last in let bound = kept.bound in omega (arith, within, bound)

  two_places : i < last → m ≡ k → ⊥
  two_places less same = let one = sym (is_here there.place (subst (λ j. slice_get ps j ≡ Some there.place) same there.at_place)) ∙ there.leads in omega (arith, one, less)

  -- the entry of another row isn't the one that goes
  stays : (p : PlaceValue) → (p.index ≡ i → ⊥) → dropped name (standing old p) ≡ standing old p
  stays p other = by (standing old p) refl
    where
      by : (o : Option Entry) → standing old p ≡ o → dropped name o ≡ o
      by None is = refl
      by (Some e) is = by_test (has_name name e)
          (λ y. let s = stands old p e is in
          absurd (other (kept.apart p.index i s.row r s.at_row at_row (ap (λ (e : Entry). e.name) s.shown ∙ (bytes_eq-Decides e.name name).0 y ∙ sym ((bytes_eq-Decides r.0 name).0 named)))))
          (λ n. if_false None (Some e) n)

  -- the one that goes is no longer seen
  goes_out : (p : PlaceValue) → p.index ≡ i → dropped name (standing old p) ≡ None
  goes_out p same = ap (dropped name) (row_stands old p i r same at_row) ∙ if_true None (Some (entry_at p.cookie r)) named

  -- a row that is neither the one that goes nor the last stays where it is
  old_row : (p : PlaceValue) → (p.index ≡ i → ⊥) → (p.index ≡ last → ⊥) → slice_get new p.index ≡ slice_get old p.index
  old_row p other differ = by_test (nat_lt p.index last)
      (λ y. g.stay p.index (ltb-true p.index last y) other)
      (λ n. let from = ltb-false p.index last n in g.none p.index from ∙ sym (g.history p.index (omega (arith, from, differ))))

  unseen : (p q : PlaceValue) → slice_get ps k ≡ Some p → q.index ≡ no_row → standing new q ≡ dropped name (standing old p)
  unseen p q at gone = none_stands new q no_row gone (g.none no_row (let within = within_rows in omega (arith, within))) ∙ sym (goes_out p (is_here p at))

  still_seen : (j : ℕ) (p q : PlaceValue) → slice_get ps j ≡ Some p → p ≡ q → (j ≡ k → ⊥) → (p.index ≡ last → ⊥) → standing new q ≡ dropped name (standing old p)
  still_seen j p q at same other differ =
      let not = not_here j p at other in
      ap (standing new) (sym same) ∙ ap (option_map (entry_at p.cookie)) (old_row p not differ) ∙ sym (stays p not)

  -- the last row goes
  last_out : i ≡ last → listed new (led k no_row ps) ≡ without name (listed old ps)
  last_out is_last = listed_without name old new ps (led k no_row ps) (length-led k no_row ps) each
    where
      each : (j : ℕ) (p q : PlaceValue) → slice_get ps j ≡ Some p → slice_get (led k no_row ps) j ≡ Some q → standing new q ≡ dropped name (standing old p)
      each j p q at_p at_q = by_number j k
          (λ same. let at = subst (λ j. slice_get ps j ≡ Some p) same at_p in
          unseen p q at (sym (ap (λ (q : PlaceValue). q.index) (same_some (sym (led_here k no_row ps p at) ∙ ap (slice_get (led k no_row ps)) (sym same) ∙ at_q)))))
          (λ other. still_seen j p q at_p (same_some (sym at_p ∙ sym (led_else k no_row ps j other) ∙ at_q)) other (λ same. not_here j p at_p other (same ∙ sym is_last)))

  -- the last row comes to the index of the one that goes
  abbrev both : List PlaceValue
  both = led m i (led k no_row ps)

  both_here : i < last → (q : PlaceValue) → slice_get both k ≡ Some q → q.index ≡ no_row
  both_here less q at = ap (λ (q : PlaceValue). q.index) (sym (same_some (sym (led_here k no_row ps here.place here.at_place) ∙ sym (led_else m i (led k no_row ps) k (λ same. two_places less (sym same))) ∙ at)))

  both_there : i < last → (p q : PlaceValue) → slice_get ps m ≡ Some p → slice_get both m ≡ Some q → record { cookie = p.cookie; index = i } ≡ q
  both_there less p q at_p at_q = same_some (sym (led_here m i (led k no_row ps) p (led_else k no_row ps m (two_places less) ∙ at_p)) ∙ at_q)

  both_else : (j : ℕ) → (j ≡ k → ⊥) → (j ≡ m → ⊥) → slice_get both j ≡ slice_get ps j
  both_else j other differ = led_else m i (led k no_row ps) j differ ∙ led_else k no_row ps j other

  last_in : i < last → listed new both ≡ without name (listed old ps)
  last_in less = listed_without name old new ps both (length-led m i (led k no_row ps) ∙ length-led k no_row ps) each
    where
      each : (j : ℕ) (p q : PlaceValue) → slice_get ps j ≡ Some p → slice_get both j ≡ Some q → standing new q ≡ dropped name (standing old p)
      each j p q at_p at_q = by_number j k
          (λ same. unseen p q (subst (λ j. slice_get ps j ≡ Some p) same at_p) (both_here less q (subst (λ j. slice_get both j ≡ Some q) same at_q)))
          (λ other. by_number j m
          (λ same. let at = subst (λ j. slice_get ps j ≡ Some p) same at_p in
          let is = both_there less p q at (subst (λ j. slice_get both j ≡ Some q) same at_q) in
          let leads = is_there p at in
          ap (standing new) (sym is) ∙ row_stands new (record { cookie = p.cookie; index = i }) i l refl (g.came less)
          ∙ sym (row_stands old p last l leads g.at_last) ∙ sym (stays p (λ same. omega (arith, same, leads, less))))
          (λ differ. still_seen j p q at_p (same_some (sym at_p ∙ sym (both_else j other differ) ∙ at_q)) other (not_there j p at_p differ)))

  below_last : (j : ℕ) (s : Row) → slice_get new j ≡ Some s → j < last
  below_last j s at = by_test (nat_lt j last) (λ y. ltb-true j last y) (λ n. absurd (not_both (g.none j (ltb-false j last n)) at))

  old_of : (j : ℕ) (s : Row) → (j ≡ i → ⊥) → slice_get new j ≡ Some s → slice_get old j ≡ Some s
  old_of j s other at = sym (g.stay j (below_last j s at) other) ∙ at

  new_bound : length new ≤ max_rows
  new_bound = let few = none_past new last (g.none last (omega arith)) in let within = within_rows in omega (arith, few, within)

  -- another row has its place where it had it
  other_place : (j : ℕ) (s : Row) (qs : List PlaceValue) → slice_get old j ≡ Some s → slice_get qs s.1.place ≡ slice_get ps s.1.place → LeadsTo qs s.1.place j
  other_place j s qs at same = let was = kept.placed j s at in record { place = was.place; at_place = same ∙ was.at_place; leads = was.leads }

  place_differs : (j : ℕ) (s : Row) → slice_get old j ≡ Some s → (j ≡ i → ⊥) → s.1.place ≡ k → ⊥
  place_differs j s at other same = let was = kept.placed j s at in
      other (sym was.leads ∙ is_here was.place (subst (λ k. slice_get ps k ≡ Some was.place) same was.at_place))

  place_is_other : (j : ℕ) (s : Row) → slice_get old j ≡ Some s → (j ≡ last → ⊥) → s.1.place ≡ m → ⊥
  place_is_other j s at other same = let was = kept.placed j s at in
      other (sym was.leads ∙ is_there was.place (subst (λ k. slice_get ps k ≡ Some was.place) same was.at_place))

  -- a place that leads to neither of the two rows leads to a row that has it, or to none
  still_owned : (j : ℕ) (p : PlaceValue) → slice_get ps j ≡ Some p → (p.index ≡ i → ⊥) → (p.index ≡ last → ⊥) → (p.index ≡ no_row) ⊎ IsPlacedAt new j p.index
  still_owned j p at other differ = elim (kept.owned j p at) [
    | inl gone ↦ inl gone
    | inr o ↦ inr (record { row = o.row; at_row = old_row p other differ ∙ o.at_row; place_is = o.place_is })
  ]

  kept_none : i ≡ last → IsKept new (led k no_row ps) next
  kept_none is_last = record {
    rises = led_rises k no_row 0 next ps kept.rises;
    placed = λ j s at. let was = old_of j s (not_i j s at) at in other_place j s (led k no_row ps) was (led_else k no_row ps s.1.place (place_differs j s was (not_i j s at)));
    owned = λ j q at. by_number j k
        (λ same. inl (sym (ap (λ (q : PlaceValue). q.index) (same_some (sym (led_here k no_row ps here.place here.at_place) ∙ ap (slice_get (led k no_row ps)) (sym same) ∙ at)))))
        (λ other. let was = sym (led_else k no_row ps j other) ∙ at in let not = not_here j q was other in still_owned j q was not (λ same. not (same ∙ sym is_last)));
    apart = λ j k s t at_j at_k same. kept.apart j k s t (old_of j s (not_i j s at_j) at_j) (old_of k t (not_i k t at_k) at_k) same;
    bound = new_bound;
  }
    where
      not_i : (j : ℕ) (s : Row) → slice_get new j ≡ Some s → j ≡ i → ⊥
      not_i j s at same = let below = below_last j s at in omega (arith, below, same, is_last)

  kept_some : i < last → IsKept new both next
  kept_some less = record { rises = led_rises m i 0 next (led k no_row ps) (led_rises k no_row 0 next ps kept.rises); placed = placed; owned = owned; apart = apart; bound = new_bound }
    where
      is_last : (j : ℕ) (s : Row) → j ≡ i → slice_get new j ≡ Some s → l ≡ s
      is_last j s same at = same_some (sym (g.came less) ∙ ap (slice_get new) (sym same) ∙ at)

      moved : LeadsTo both m i
      moved = record { place = record { cookie = there.place.cookie; index = i }; at_place = led_here m i (led k no_row ps) there.place (led_else k no_row ps m (two_places less) ∙ there.at_place); leads = refl }

      placed : (j : ℕ) (s : Row) → slice_get new j ≡ Some s → LeadsTo both s.1.place j
      placed j s at = by_number j i
          (λ same. let is = is_last j s same at in subst (λ (s : Row). LeadsTo both s.1.place j) is (subst (LeadsTo both m) (sym same) moved))
          (λ other. let was = old_of j s other at in let below = below_last j s at in
          other_place j s both was (both_else s.1.place (place_differs j s was other) (place_is_other j s was (λ same. omega (arith, below, same)))))

      owned : (j : ℕ) (q : PlaceValue) → slice_get both j ≡ Some q → (q.index ≡ no_row) ⊎ IsPlacedAt new j q.index
      owned j q at = by_number j k
          (λ same. inl (both_here less q (ap (slice_get both) (sym same) ∙ at)))
          (λ other. by_number j m
          (λ same. let is = both_there less there.place q there.at_place (ap (slice_get both) (sym same) ∙ at) in
          inr (record { row = l; at_row = ap (slice_get new) (sym (ap (λ (q : PlaceValue). q.index) is)) ∙ g.came less; place_is = sym same }))
          (λ differ. let was = sym (both_else j other differ) ∙ at in still_owned j q was (not_here j q was other) (not_there j q was differ)))

      apart : (j k : ℕ) (s t : Row) → slice_get new j ≡ Some s → slice_get new k ≡ Some t → s.0 ≡ t.0 → j ≡ k
      apart j k s t at_j at_k same = by_number j i
          (λ ji. by_number k i
          (λ ki. ji ∙ sym ki)
          (λ ko. absurd (let one = kept.apart last k s t (g.at_last ∙ ap Some (is_last j s ji at_j)) (old_of k t ko at_k) same in let below = below_last k t at_k in omega (arith, one, below))))
          (λ jo. by_number k i
          (λ ki. absurd (let one = kept.apart j last s t (old_of j s jo at_j) (g.at_last ∙ ap Some (is_last k t ki at_k)) same in let below = below_last j s at_j in omega (arith, one, below)))
          (λ ko. kept.apart j k s t (old_of j s jo at_j) (old_of k t ko at_k) same))

  -- the last row goes, or it comes to the index
  pub gone_from : (o : Option Row) → slice_get new i ≡ o → (listed new (settled i o (led k no_row ps)) ≡ without name (listed old ps)) × IsKept new (settled i o (led k no_row ps)) next
  gone_from None at =
      let is_last = by_number i last (λ same. same) (λ other. let first = g.first in absurd (not_both at (g.came (omega (arith, first, other))))) in
      (last_out is_last, kept_none is_last)
  gone_from (Some s) at =
      let less = below_last i s at in
      let is : l ≡ s = same_some (sym (g.came less) ∙ at) in
      subst (λ (s : Row). (listed new (led s.1.place i (led k no_row ps)) ≡ without name (listed old ps)) × IsKept new (led s.1.place i (led k no_row ps)) next) is (last_in less, kept_some less)

-- what a removal leaves
pub removed : (name : List ℕ) (old mid new : List Row) (ps ks qs ts : List PlaceValue) (next i : ℕ) (value : KeptValue) → IsKept old ps next → IsRowOf old name i value
    → (o : Option Row) → o ≡ slice_get old i → IfSome o (λ d. mid ≡ swap_remove old i d) → ks ≡ led value.place no_row ps → qs ≡ settled i (slice_get mid i) ks → IsThinned mid qs new ts
    → (listed new ts ≡ without name (listed old ps)) × IsKept new ts next
removed name old mid new ps ks qs ts next i value kept is None at swapped gone after thin = absurd (not_both (sym at) is.at_row)
removed name old mid new ps ks qs ts next i value kept is (Some d) at swapped gone after thin =
    let within = slice_get_within old i is.row is.at_row in
    let g = subst (λ l. Goes old l i (length old - 1) (slice_index_or old (length old - 1) d)) (sym swapped) (goes old i d within) in
    let out = gone_from name old mid ps next i (length old - 1) (slice_index_or old (length old - 1) d) is.row kept g is.at_row is.named (slice_get mid i) refl in
    let settled_is : qs ≡ settled i (slice_get mid i) (led is.row.1.place no_row ps) = after ∙ ap (settled i (slice_get mid i)) (gone ∙ ap (λ (v : KeptValue). led v.place no_row ps) is.kept_is) in
    let thin = thinned mid qs new ts next thin (subst (λ l. IsKept mid l next) (sym settled_is) out.1) in
    (thin.0 ∙ ap (listed mid) settled_is ∙ out.0, thin.1)

-- where a name finds none, none goes
pub without_none : (name : List ℕ) (es : List Entry) → find (has_name name) es ≡ None → without name es ≡ es
without_none name [] none = refl
without_none name (e ∷ es) none = by_test (has_name name e)
    (λ y. absurd (not_both none (if_true (Some e) (find (has_name name) es) y)))
    (λ n. if_true (e ∷ without name es) (without name es) (ap not n) ∙ ap (λ l. e ∷ l) (without_none name es (sym (if_false (Some e) (find (has_name name) es) n) ∙ none)))
