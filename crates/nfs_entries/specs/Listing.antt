-- A directory's entries by rising cookie, and how they are kept.
use Rattle.std.specs.Prelude.{◌≡◌, ◌⊎◌, ℕ, zero, suc, ◌+◌, ◌*◌, ◌-◌, ◌^◌, ◌≤◌, Bool, true, false, List, [], ◌∷◌, length, Option, None, Some, is_some, bytes_eq, slice_get, option_map, find, filter, nat_lt, not}
use Rattle.std.specs.List.{filter_map}

-- an entry as callers see it
pub record Entry : Type 0 where
  pub cookie : ℕ
  pub name : List ℕ
  pub number : ℕ

-- the entries by rising cookie, the cookie that the next one takes, and how many more fit with no allocation
pub record Listed : Type 0 where
  pub entries : List Entry
  pub next : ℕ
  pub spare : ℕ

-- whether an entry has a name
abbrev pub has_name : List ℕ → Entry → Bool
has_name name e = bytes_eq e.name name

-- the entry of a name among some entries
abbrev pub entry_named : List ℕ → List Entry → Option Entry
entry_named name es = find (has_name name) es

-- the number under a name among some entries
abbrev pub number_named : List ℕ → List Entry → Option ℕ
number_named name es = option_map (λ (e : Entry). e.number) (entry_named name es)

-- those of some entries with cookies above this one
abbrev pub entries_beyond : ℕ → List Entry → List Entry
entries_beyond cookie es = filter (λ e. nat_lt cookie e.cookie) es

-- the entries of other names
abbrev pub without : List ℕ → List Entry → List Entry
without name es = filter (λ e. not (has_name name e)) es

-- what is kept beside a name: the place of its entry, and the number of a file
pub record KeptValue : Type 0 where
  pub place : ℕ
  pub number : ℕ

-- the place of an entry: its cookie, and the row of its name
pub record PlaceValue : Type 0 where
  pub cookie : ℕ
  pub index : ℕ

-- a name, with what is kept beside it
abbrev pub Row : Type 0
Row = List ℕ × KeptValue

abbrev pub entry_at : ℕ → Row → Entry
entry_at cookie r = record { cookie = cookie; name = r.0; number = r.1.number }

-- the entry that stands at a place: none where it leads to no row
abbrev pub standing : List Row → PlaceValue → Option Entry
standing rows p = option_map (entry_at p.cookie) (slice_get rows p.index)

abbrev pub listed : List Row → List PlaceValue → List Entry
listed rows places = filter_map (standing rows) places

-- whether the entry of a place is still there
abbrev pub is_live : List Row → PlaceValue → Bool
is_live rows p = is_some (standing rows p)

-- the most rows and places: each has four bytes for the index of one of the others
abbrev pub max_rows : ℕ
max_rows = 2 ^ 32 - 1

-- where a place leads whose entry is gone
abbrev pub no_row : ℕ
no_row = max_rows

-- the places, where the one at k leads to this row
abbrev pub led : ℕ → ℕ → List PlaceValue → List PlaceValue
led k index [] = []
led zero index (p ∷ ps) = record { cookie = p.cookie; index = index } ∷ ps
led (suc k) index (p ∷ ps) = p ∷ led k index ps

-- the places, where that of the row at an index leads to it
abbrev pub settled : ℕ → Option Row → List PlaceValue → List PlaceValue
settled index None places = places
settled index (Some r) places = led r.1.place index places

-- the rows, where the one at an index has this place
abbrev pub placed_at : ℕ → ℕ → List Row → List Row
placed_at index place [] = []
placed_at zero place (r ∷ rs) = (r.0, record { place = place; number = r.1.number }) ∷ rs
placed_at (suc index) place (r ∷ rs) = r ∷ placed_at index place rs

-- the rows, where each to which a place leads has that place; the first of the places is the n-th
abbrev pub linked : ℕ → List PlaceValue → List Row → List Row
linked n [] rows = rows
linked n (p ∷ ps) rows = linked (n + 1) ps (placed_at p.index n rows)

-- the row at an index has this name and these values
pub record IsRowOf (rows : List Row) (name : List ℕ) (index : ℕ) (kept : KeptValue) : Type 0 where
  pub row : Row
  pub at_row : slice_get rows index ≡ Some row
  pub named : bytes_eq row.0 name ≡ true
  pub kept_is : kept ≡ row.1

-- no row has this name
abbrev pub HasNo : List Row → List ℕ → Type 0
HasNo rows name = (i : ℕ) (r : Row) → slice_get rows i ≡ Some r → bytes_eq r.0 name ≡ false

-- places stand by rising cookie, from the low one on and below the next one
abbrev pub Rises : ℕ → List PlaceValue → ℕ → Type 0
Rises low [] next = low ≤ next
Rises low (p ∷ ps) next = (low ≤ p.cookie) × Rises (suc p.cookie) ps next

-- the place at k leads to the row at an index
pub record LeadsTo (places : List PlaceValue) (k index : ℕ) : Type 0 where
  pub place : PlaceValue
  pub at_place : slice_get places k ≡ Some place
  pub leads : place.index ≡ index

-- the row at an index has the place at k
pub record IsPlacedAt (rows : List Row) (k index : ℕ) : Type 0 where
  pub row : Row
  pub at_row : slice_get rows index ≡ Some row
  pub place_is : row.1.place ≡ k

-- places stand by rising cookie, each row has a place that leads to it, a place leads to the row that has it or to none, and
-- no two rows have one name
pub record IsKept (rows : List Row) (places : List PlaceValue) (next : ℕ) : Type 0 where
  pub rises : Rises 0 places next
  pub placed : (i : ℕ) (r : Row) → slice_get rows i ≡ Some r → LeadsTo places r.1.place i
  pub owned : (k : ℕ) (p : PlaceValue) → slice_get places k ≡ Some p → (p.index ≡ no_row) ⊎ IsPlacedAt rows k p.index
  pub apart : (i j : ℕ) (r s : Row) → slice_get rows i ≡ Some r → slice_get rows j ≡ Some s → r.0 ≡ s.0 → i ≡ j
  pub bound : length rows ≤ max_rows

-- what taking the dead places out leaves: nothing else, or the live places, and the rows with these
abbrev pub IsThinned : List Row → List PlaceValue → List Row → List PlaceValue → Type 0
IsThinned rows places new_rows new_places = ((new_rows ≡ rows) × (new_places ≡ places))
    ⊎ ((new_places ≡ filter (is_live rows) places) × (new_rows ≡ linked 0 new_places rows))

-- Memory that is kept: no place is dead, or half of the places, rounded down, are at most 16 more than the rows.
abbrev pub AreFew : List Row → List PlaceValue → Type 0
AreFew rows places = (length (listed rows places) ≡ length places) ⊎ (length places ≤ 2 * length rows + 33)
