-- What stands at places.
use Rattle.std.proofs.Common.{◌≡◌, ℕ, zero, suc, Bool, true, false, cond, Option, Some, None, option_map, is_some, List, [], ◌∷◌, length, nat_lt, bytes_eq, refl, sym, ap, subst, ◌∙◌, arith}
use Rattle.std.specs.Prelude.{slice_get}
use Rattle.std.specs.List.{filter, find, cons_option}
use Rattle.std.proofs.lemmas.Slice.Eq.{bytes_eq-Decides}
use Rattle.nfs_entries.specs.Listing.{KeptValue, PlaceValue, Row, Entry, entry_at, standing, listed, is_live, has_name, number_named, LeadsTo, IsKept, IsRowOf, HasNo}
use Rattle.nfs_entries.proofs.Cases.{by_test, if_true, if_false, same_some, not_both}

-- the row of an entry that stands at a place
pub record Stands (rows : List Row) (p : PlaceValue) (e : Entry) : Type 0 where
  pub row : Row
  pub at_row : slice_get rows p.index ≡ Some row
  pub shown : entry_at p.cookie row ≡ e

pub stands : (rows : List Row) (p : PlaceValue) (e : Entry) → standing rows p ≡ Some e → Stands rows p e
stands rows p e is = by (slice_get rows p.index) refl is
  where
    by : (o : Option Row) → slice_get rows p.index ≡ o → option_map (entry_at p.cookie) o ≡ Some e → Stands rows p e
    by None at is = absurd (not_both refl is)
    by (Some r) at is = record { row = r; at_row = at; shown = same_some is }

-- a row stands at a place that leads to it
pub row_stands : (rows : List Row) (p : PlaceValue) (i : ℕ) (r : Row) → p.index ≡ i → slice_get rows i ≡ Some r → standing rows p ≡ Some (entry_at p.cookie r)
row_stands rows p i r leads at = ap (option_map (entry_at p.cookie)) (ap (slice_get rows) leads ∙ at)

-- none stands at a place that leads to no row
pub none_stands : (rows : List Row) (p : PlaceValue) (i : ℕ) → p.index ≡ i → slice_get rows i ≡ None → standing rows p ≡ None
none_stands rows p i leads at = ap (option_map (entry_at p.cookie)) (ap (slice_get rows) leads ∙ at)

-- an entry that stands at a place has its cookie
pub same_cookie : (rows : List Row) (p : PlaceValue) (e : Entry) → standing rows p ≡ Some e → e.cookie ≡ p.cookie
same_cookie rows p e is = let s = stands rows p e is in sym (ap (λ (e : Entry). e.cookie) s.shown)

-- those after a cookie are listed of the places after it
pub listed_after : (cookie : ℕ) (rows : List Row) (ps : List PlaceValue) → listed rows (filter (λ p. nat_lt cookie p.cookie) ps) ≡ filter (λ e. nat_lt cookie e.cookie) (listed rows ps)
listed_after cookie rows [] = refl
listed_after cookie rows (p ∷ ps) = by (standing rows p) refl (listed_after cookie rows ps)
  where
    rest : List PlaceValue
    rest = filter (λ p. nat_lt cookie p.cookie) ps

    shown : List Entry
    shown = filter (λ e. nat_lt cookie e.cookie) (listed rows ps)

    by : (o : Option Entry) → standing rows p ≡ o → listed rows rest ≡ shown → listed rows (cond (nat_lt cookie p.cookie) (p ∷ rest) rest) ≡ filter (λ e. nat_lt cookie e.cookie) (cons_option (standing rows p) (listed rows ps))
    by None is ih = by_test (nat_lt cookie p.cookie)
        (λ y. ap (listed rows) (if_true (p ∷ rest) rest y) ∙ ap (λ o. cons_option o (listed rows rest)) is ∙ ih ∙ sym (ap (λ o. filter (λ e. nat_lt cookie e.cookie) (cons_option o (listed rows ps))) is))
        (λ n. ap (listed rows) (if_false (p ∷ rest) rest n) ∙ ih ∙ sym (ap (λ o. filter (λ e. nat_lt cookie e.cookie) (cons_option o (listed rows ps))) is))
    by (Some e) is ih = by_test (nat_lt cookie p.cookie)
        (λ y. ap (listed rows) (if_true (p ∷ rest) rest y) ∙ ap (λ o. cons_option o (listed rows rest)) is ∙ ap (λ es. e ∷ es) ih
        ∙ sym (if_true (e ∷ shown) shown (ap (nat_lt cookie) (same_cookie rows p e is) ∙ y)) ∙ sym (ap (λ o. filter (λ e. nat_lt cookie e.cookie) (cons_option o (listed rows ps))) is))
        (λ n. ap (listed rows) (if_false (p ∷ rest) rest n) ∙ ih
        ∙ sym (if_false (e ∷ shown) shown (ap (nat_lt cookie) (same_cookie rows p e is) ∙ n)) ∙ sym (ap (λ o. filter (λ e. nat_lt cookie e.cookie) (cons_option o (listed rows ps))) is))

-- without the dead places the same is listed
pub listed_live : (rows : List Row) (ps : List PlaceValue) → listed rows (filter (is_live rows) ps) ≡ listed rows ps
listed_live rows [] = refl
listed_live rows (p ∷ ps) = by (standing rows p) refl (listed_live rows ps)
  where
    rest : List PlaceValue
    rest = filter (is_live rows) ps

    by : (o : Option Entry) → standing rows p ≡ o → listed rows rest ≡ listed rows ps → listed rows (cond (is_some (standing rows p)) (p ∷ rest) rest) ≡ cons_option (standing rows p) (listed rows ps)
    by None is ih = ap (listed rows) (if_false (p ∷ rest) rest (ap is_some is)) ∙ ih ∙ sym (ap (λ o. cons_option o (listed rows ps)) is)
    by (Some e) is ih = ap (listed rows) (if_true (p ∷ rest) rest (ap is_some is)) ∙ ap (cons_option (standing rows p)) ih

-- the first that passes is the first of those that pass
pub first_passes : {X : Type 0} (p : X → Bool) (xs : List X) → find p xs ≡ slice_get (filter p xs) 0
first_passes p [] = refl
first_passes {X} p (x ∷ xs) = by_test (p x)
    (λ y. if_true (Some x) (find p xs) y ∙ sym (ap (λ es. slice_get es 0) (if_true (x ∷ filter p xs) (filter p xs) y)))
    (λ n. if_false (Some x) (find p xs) n ∙ first_passes p xs ∙ sym (ap (λ es. slice_get es 0) (if_false (x ∷ filter p xs) (filter p xs) n)))

-- names stand in one row each
abbrev pub AreApart : List Row → Type 0
AreApart rows = (i j : ℕ) (r s : Row) → slice_get rows i ≡ Some r → slice_get rows j ≡ Some s → r.0 ≡ s.0 → i ≡ j

-- a row is what its name finds
pub record Found (name : List ℕ) (rows : List Row) (ps : List PlaceValue) (r : Row) : Type 0 where
  pub cookie : ℕ
  pub found : find (has_name name) (listed rows ps) ≡ Some (entry_at cookie r)

-- a row to which a place leads is what its name finds
pub found_listed : (name : List ℕ) (rows : List Row) (ps : List PlaceValue) (i : ℕ) (r : Row) → AreApart rows → slice_get rows i ≡ Some r → bytes_eq r.0 name ≡ true → (k : ℕ) → LeadsTo ps k i → Found name rows ps r
found_listed name rows [] i r apart at named k there = absurd (not_both refl there.at_place)
found_listed name rows (p ∷ ps) i r apart at named zero there =
    let stands = row_stands rows p i r (ap (λ (p : PlaceValue). p.index) (same_some there.at_place) ∙ there.leads) at in
    record {
      cookie = p.cookie;
      found = ap (λ o. find (has_name name) (cons_option o (listed rows ps))) stands ∙ if_true (Some (entry_at p.cookie r)) (find (has_name name) (listed rows ps)) named;
    }
found_listed name rows (p ∷ ps) i r apart at named (suc k) there = by (standing rows p) refl (found_listed name rows ps i r apart at named k (record { place = there.place; at_place = there.at_place; leads = there.leads }))
  where
    by : (o : Option Entry) → standing rows p ≡ o → Found name rows ps r → Found name rows (p ∷ ps) r
    by None is ih = record { cookie = ih.cookie; found = ap (λ o. find (has_name name) (cons_option o (listed rows ps))) is ∙ ih.found }
    by (Some e) is ih = by_test (bytes_eq e.name name)
        (λ y. let s = stands rows p e is in
        let at_i = apart p.index i s.row r s.at_row at (ap (λ (e : Entry). e.name) s.shown ∙ (bytes_eq-Decides e.name name).0 y ∙ sym ((bytes_eq-Decides r.0 name).0 named)) in
        let one : s.row ≡ r = same_some (sym s.at_row ∙ ap (slice_get rows) at_i ∙ at) in
        record {
          cookie = p.cookie;
          found = ap (λ o. find (has_name name) (cons_option o (listed rows ps))) is ∙ if_true (Some e) (find (has_name name) (listed rows ps)) y ∙ ap Some (sym s.shown ∙ ap (entry_at p.cookie) one);
        })
        (λ n. record { cookie = ih.cookie; found = ap (λ o. find (has_name name) (cons_option o (listed rows ps))) is ∙ if_false (Some e) (find (has_name name) (listed rows ps)) n ∙ ih.found })

-- a name that no row has finds none
pub none_listed : (name : List ℕ) (rows : List Row) (ps : List PlaceValue) → ((i : ℕ) (r : Row) → slice_get rows i ≡ Some r → bytes_eq r.0 name ≡ false) → find (has_name name) (listed rows ps) ≡ None
none_listed name rows [] absent = refl
none_listed name rows (p ∷ ps) absent = by (standing rows p) refl (none_listed name rows ps absent)
  where
    goal : Option Entry → Type 0
    goal o = find (has_name name) (cons_option o (listed rows ps)) ≡ None

    by : (o : Option Entry) → standing rows p ≡ o → find (has_name name) (listed rows ps) ≡ None → goal (standing rows p)
    by None is ih = subst goal (sym is) ih
    by (Some e) is ih = let s = stands rows p e is in
        subst goal (sym is) (if_false (Some e) (find (has_name name) (listed rows ps)) (sym (ap (λ (e : Entry). bytes_eq e.name name) s.shown) ∙ absent p.index s.row s.at_row) ∙ ih)

-- what a name finds, as a number
pub found_number : (name : List ℕ) (rows : List Row) (ps : List PlaceValue) (next index : ℕ) (value : KeptValue) → IsKept rows ps next → IsRowOf rows name index value → number_named name (listed rows ps) ≡ Some value.number
found_number name rows ps next index value kept is =
    ap (option_map (λ (e : Entry). e.number)) (found_listed name rows ps index is.row kept.apart is.at_row is.named is.row.1.place (kept.placed index is.row is.at_row)).found
    ∙ ap (λ (v : KeptValue). Some v.number) (sym is.kept_is)

pub none_number : (name : List ℕ) (rows : List Row) (ps : List PlaceValue) → HasNo rows name → number_named name (listed rows ps) ≡ None
none_number name rows ps absent = ap (option_map (λ (e : Entry). e.number)) (none_listed name rows ps absent)

-- where nothing is found, no row has the name
pub absent_from : (name : List ℕ) (rows : List Row) (ps : List PlaceValue) (next : ℕ) → IsKept rows ps next → find (has_name name) (listed rows ps) ≡ None → HasNo rows name
absent_from name rows ps next kept none i r at = by_test (bytes_eq r.0 name)
    (λ y. absurd (not_both none (found_listed name rows ps i r kept.apart at y r.1.place (kept.placed i r at)).found))
    (λ n. n)

-- nothing is listed where there are no rows, and else something is
pub none_of : (ps : List PlaceValue) → listed [] ps ≡ []
none_of [] = refl
none_of (p ∷ ps) = none_of ps

pub some_of : (rows : List Row) (ps : List PlaceValue) (next : ℕ) → IsKept rows ps next → listed rows ps ≡ [] → rows ≡ []
some_of [] ps next kept none = refl
some_of (r ∷ rows) ps next kept none = absurd (not_both (ap (find (has_name r.0)) none)
    (found_listed r.0 (r ∷ rows) ps 0 r kept.apart refl ((bytes_eq-Decides r.0 r.0).1 refl) r.1.place (kept.placed 0 r refl)).found)

pub none_long : (rows : List Row) → length rows ≡ 0 → rows ≡ []
none_long [] e = refl
none_long (r ∷ rows) e = absurd (omega (arith, e))
