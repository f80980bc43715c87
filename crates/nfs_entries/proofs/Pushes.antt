-- A row more, with its place.
use Rattle.std.proofs.Common.{inl, inr, ◌≡◌, ◌⊎◌, ℕ, suc, ◌<◌, Some, List, [], ◌∷◌, ◌++◌, length, refl, sym, ap, subst, ◌∙◌, arith}
use Rattle.std.specs.Prelude.{slice_get}
use Rattle.std.specs.List.{cons_option}
use Rattle.std.proofs.lemmas.List.{length_push}
use Rattle.std.proofs.lemmas.Option.{slice_get_past}
use Rattle.std.proofs.lemmas.List.Elements.{filter_map-append}
use Rattle.std.proofs.lemmas.Slice.Eq.{bytes_eq-Decides}
use Rattle.nfs_entries.specs.Listing.{PlaceValue, Row, AreFew, entry_at, standing, listed, no_row, max_rows, LeadsTo, IsPlacedAt, IsKept, HasNo}
use Rattle.nfs_entries.proofs.Cases.{by_number, same_some, true_and_false, get_push_old}
use Rattle.nfs_entries.proofs.Keys.{push_other, push_last}
use Rattle.nfs_entries.proofs.Places.{push_rises}
use Rattle.nfs_entries.proofs.Rows.{row_stands, none_stands}

-- the same is listed where the same stands at each place
pub listed_same : (old new : List Row) (ps : List PlaceValue) → ((k : ℕ) (p : PlaceValue) → slice_get ps k ≡ Some p → standing new p ≡ standing old p) → listed new ps ≡ listed old ps
listed_same old new [] each = refl
listed_same old new (p ∷ ps) each =
    ap (λ o. cons_option o (listed new ps)) (each 0 p refl) ∙ ap (cons_option (standing old p)) (listed_same old new ps (λ k q at. each (suc k) q at))

module _ (rows : List Row) (ps : List PlaceValue) (next : ℕ) (r : Row) (kept : IsKept rows ps next) (absent : HasNo rows r.0) (fits : length rows < max_rows) (place_is : r.1.place ≡ length ps) where
  abbrev more : List Row
  more = rows ++ r ∷ []

  abbrev at : PlaceValue
  at = record { cookie = next; index = length rows }

  abbrev places : List PlaceValue
  places = ps ++ at ∷ []

  long : length more ≡ suc (length rows)
  long = let more = length_push rows r in omega (arith, more)

  -- what stood at a place stands there
  still : (k : ℕ) (p : PlaceValue) → slice_get ps k ≡ Some p → standing more p ≡ standing rows p
  still k p at_k = elim (kept.owned k p at_k) [
    | inl gone ↦ none_stands more p no_row gone (slice_get_past more no_row (let long = long in omega (arith, long, fits))) ∙ sym (none_stands rows p no_row gone (slice_get_past rows no_row (omega (arith, fits))))
    | inr o ↦ row_stands more p p.index o.row refl (get_push_old rows r o.row p.index o.at_row) ∙ sym (row_stands rows p p.index o.row refl o.at_row)
  ]

  pub listed_more : listed more places ≡ listed rows ps ++ entry_at next r ∷ []
  listed_more = filter_map-append (standing more) ps (at ∷ [])
      ∙ (λ i. listed_same rows more ps still i ++ cons_option (row_stands more at (length rows) r refl (push_last rows r) i) [])

  was : (i : ℕ) (s : Row) → (i ≡ length rows → ⊥) → slice_get more i ≡ Some s → slice_get rows i ≡ Some s
  was i s other at_i = sym (push_other rows r i other) ∙ at_i

  is_new : (i : ℕ) (s : Row) → i ≡ length rows → slice_get more i ≡ Some s → r ≡ s
  is_new i s same at_i = same_some (sym (push_last rows r) ∙ ap (slice_get more) (sym same) ∙ at_i)

  -- no row that was there has the name
  differs : (i : ℕ) (s : Row) → slice_get rows i ≡ Some s → r.0 ≡ s.0 → ⊥
  differs i s at_i same = true_and_false ((bytes_eq-Decides s.0 r.0).1 (sym same)) (absent i s at_i)

  placed : (i : ℕ) (s : Row) → slice_get more i ≡ Some s → LeadsTo places s.1.place i
  placed i s at_i = by_number i (length rows)
      (λ same. subst (λ (s : Row). LeadsTo places s.1.place i) (is_new i s same at_i) (record { place = at; at_place = ap (slice_get places) place_is ∙ push_last ps at; leads = sym same }))
      (λ other. let had = kept.placed i s (was i s other at_i) in record { place = had.place; at_place = get_push_old ps at had.place s.1.place had.at_place; leads = had.leads })

  owned : (k : ℕ) (q : PlaceValue) → slice_get places k ≡ Some q → (q.index ≡ no_row) ⊎ IsPlacedAt more k q.index
  owned k q at_k = by_number k (length ps)
      (λ same. let is : at ≡ q = same_some (sym (push_last ps at) ∙ ap (slice_get places) (sym same) ∙ at_k) in
      inr (subst (λ (q : PlaceValue). IsPlacedAt more k q.index) is (record { row = r; at_row = push_last rows r; place_is = place_is ∙ sym same })))
      (λ other. elim (kept.owned k q (sym (push_other ps at k other) ∙ at_k)) [
        | inl gone ↦ inl gone
        | inr o ↦ inr (record { row = o.row; at_row = get_push_old rows r o.row q.index o.at_row; place_is = o.place_is })
      ])

  pub kept_more : IsKept more places (suc next)
  kept_more = record {
    rises = push_rises 0 next (length rows) ps kept.rises;
    placed = placed;
    owned = owned;
    apart = λ i j s t at_i at_j same. by_number i (length rows)
        (λ ii. by_number j (length rows)
        (λ jj. ii ∙ sym jj)
        (λ jo. absurd (differs j t (was j t jo at_j) (ap (λ (r : Row). r.0) (is_new i s ii at_i) ∙ same))))
        (λ io. by_number j (length rows)
        (λ jj. absurd (differs i s (was i s io at_i) (ap (λ (r : Row). r.0) (is_new j t jj at_j) ∙ sym same)))
        (λ jo. kept.apart i j s t (was i s io at_i) (was j t jo at_j) same));
    bound = let long = long in omega (arith, long, fits);
  }

  pub few_more : AreFew rows ps → AreFew more places
  few_more few =
      let shown : length (listed more places) ≡ length (listed rows ps ++ entry_at next r ∷ []) = ap length listed_more in
      let entries = length_push (listed rows ps) (entry_at next r) in
      let others = length_push ps at in
      let all = long in
      elim few [
        | inl each ↦ inl (omega (arith, shown, entries, others, each))
        | inr some ↦ inr (omega (arith, others, all, some))
      ]
