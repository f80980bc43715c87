-- The sizes of entries, and what fits by them.
use Rattle.std.proofs.Common.{◌≡◌, ℕ, Bool, ◌+◌, ◌<◌, ◌≤◌, true, false, List, [], ◌∷◌, ◌++◌, length, map, min, ◌⊎◌, inl, inr, refl, sym, ap, ◌∙◌, append-nil, arith}
use Rattle.std.specs.Prelude.{sum_by, nat_le, nat_lt, ◌&&◌, ◌||◌}
use Rattle.std.proofs.lemmas.Bool.{le-leb, leb-true, lt-leb, ltb-true, ltb-false, and_parts, false≢true}
use Rattle.std.proofs.lemmas.Grind.{flat_map-append}
use Rattle.std.proofs.lemmas.List.{map-append, length-append}
use Rattle.std.proofs.lemmas.List.Sums.{sum_by-append, sum_by-cons, sum_by_push}
use Rattle.nfs_inodes.specs.Tree.{Entry}
use Rattle.nfs_args.specs.Chains.{chained_text, links_text}
use Rattle.nfs_args.specs.Sizes.{max_page}
use Rattle.nfs_dirs.specs.Pages.{page_head_bytes, entry_bytes, fits, plus_bytes, fits_plus}
use Rattle.nfs_dirs.proofs.Prefixes.{Narrows}

pub links_push : {A : Type 0} (text : A → List ℕ) (reported : Entry → A) (es : List Entry) (x : Entry) → links_text text (map reported (es ++ x ∷ [])) ≡ links_text text (map reported es) ++ chained_text text (reported x)
links_push text reported es x =
    ap (links_text text) (map-append reported es (x ∷ []))
    ∙ flat_map-append (chained_text text) (map reported es) (reported x ∷ [])
    ∙ ap (λ t. links_text text (map reported es) ++ t) (append-nil (chained_text text (reported x)))

-- each entry has a byte, if not more
pub few_entries : (es : List Entry) → length es ≤ sum_by entry_bytes es
few_entries [] = omega arith
few_entries (x ∷ es) = let sum = sum_by-cons entry_bytes x es in let more = few_entries es in omega (arith, sum, more)

-- ---- READDIR

pub narrows_fits : (count : ℕ) → Narrows (fits count)
narrows_fits count es more e = let sum = sum_by-append entry_bytes es more in
    let le = leb-true (page_head_bytes + sum_by entry_bytes (es ++ more)) (min count max_page) e in
    le-leb (page_head_bytes + sum_by entry_bytes es) (min count max_page) (omega (arith, sum, le))

module _ (count room : ℕ) (es : List Entry) (x : Entry) (room_is : room + (page_head_bytes + sum_by entry_bytes es) ≡ min count max_page) where
  pub fits_more : entry_bytes x ≤ room → fits count (es ++ x ∷ []) ≡ true
  fits_more le = let sum = sum_by_push entry_bytes es x in
      le-leb (page_head_bytes + sum_by entry_bytes (es ++ x ∷ [])) (min count max_page) (omega (arith, sum, le, room_is))

  pub fits_no_more : room < entry_bytes x → fits count (es ++ x ∷ []) ≡ false
  fits_no_more less = let sum = sum_by_push entry_bytes es x in
      lt-leb (page_head_bytes + sum_by entry_bytes (es ++ x ∷ [])) (min count max_page) (omega (arith, sum, less, room_is))

-- ---- READDIRPLUS

either : (p q : Bool) → (p || q) ≡ true → (p ≡ true) ⊎ (q ≡ true)
either true q e = inl refl
either false q e = inr e

pub with_both : (p q : Bool) → p ≡ true → q ≡ true → (p && q) ≡ true
with_both true q e f = f
with_both false q e f = absurd (false≢true e)

with_second : (p q : Bool) → q ≡ true → (p || q) ≡ true
with_second true q e = refl
with_second false q e = e

with_first : (p q : Bool) → p ≡ true → (p || q) ≡ true
with_first true q e = refl
with_first false q e = absurd (false≢true e)

without_first : (p q : Bool) → p ≡ false → (p && q) ≡ false
without_first false q e = refl
without_first true q e = absurd (false≢true (sym e))

without_second : (p q : Bool) → q ≡ false → (p && q) ≡ false
without_second false q e = refl
without_second true q e = e

with_neither : (p q : Bool) → p ≡ false → q ≡ false → (p || q) ≡ false
with_neither false q e f = f
with_neither true q e f = absurd (false≢true (sym e))

-- with its attributes and its handle
abbrev pub all_bytes : Bool → Entry → ℕ
all_bytes searchable e = entry_bytes e + plus_bytes searchable

abbrev few_named : ℕ → List Entry → Bool
few_named dircount es = nat_le (length es) 1 || nat_le (sum_by entry_bytes es) dircount

narrows_named : (dircount : ℕ) → Narrows (few_named dircount)
narrows_named dircount es more e = by_either (either (nat_le (length (es ++ more)) 1) (nat_le (sum_by entry_bytes (es ++ more)) dircount) e)
  where
    by_either : (nat_le (length (es ++ more)) 1 ≡ true) ⊎ (nat_le (sum_by entry_bytes (es ++ more)) dircount ≡ true) → few_named dircount es ≡ true
    by_either (inl few) = let le = leb-true (length (es ++ more)) 1 few in let n = length-append es more in
        with_first (nat_le (length es) 1) (nat_le (sum_by entry_bytes es) dircount) (le-leb (length es) 1 (omega (arith, le, n)))
    by_either (inr small) = let le = leb-true (sum_by entry_bytes (es ++ more)) dircount small in let sum = sum_by-append entry_bytes es more in
        with_second (nat_le (length es) 1) (nat_le (sum_by entry_bytes es) dircount) (le-leb (sum_by entry_bytes es) dircount (omega (arith, le, sum)))

narrows_room : (maxcount : ℕ) (searchable : Bool) → Narrows (λ es. nat_le (page_head_bytes + sum_by (all_bytes searchable) es) (min maxcount max_page))
narrows_room maxcount searchable es more e = let sum = sum_by-append (all_bytes searchable) es more in
    let le = leb-true (page_head_bytes + sum_by (all_bytes searchable) (es ++ more)) (min maxcount max_page) e in
    le-leb (page_head_bytes + sum_by (all_bytes searchable) es) (min maxcount max_page) (omega (arith, sum, le))

pub narrows_fits_plus : (dircount maxcount : ℕ) (searchable : Bool) → Narrows (fits_plus dircount maxcount searchable)
narrows_fits_plus dircount maxcount searchable es more e =
    let parts = and_parts (nat_le (page_head_bytes + sum_by (all_bytes searchable) (es ++ more)) (min maxcount max_page)) (few_named dircount (es ++ more)) e in
    with_both (nat_le (page_head_bytes + sum_by (all_bytes searchable) es) (min maxcount max_page)) (few_named dircount es) (narrows_room maxcount searchable es more parts.0) (narrows_named dircount es more parts.1)

pub few_entries_plus : (searchable : Bool) (es : List Entry) → length es ≤ sum_by (all_bytes searchable) es
few_entries_plus searchable [] = omega arith
few_entries_plus searchable (x ∷ es) = let sum = sum_by-cons (all_bytes searchable) x es in let more = few_entries_plus searchable es in omega (arith, sum, more)

pub named_within : (searchable : Bool) (es : List Entry) → sum_by entry_bytes es ≤ sum_by (all_bytes searchable) es
named_within searchable [] = omega arith
named_within searchable (x ∷ es) = let sum = sum_by-cons (all_bytes searchable) x es in let some = sum_by-cons entry_bytes x es in let more = named_within searchable es in omega (arith, sum, some, more)

module _ (dircount maxcount : ℕ) (searchable : Bool) (room : ℕ) (es : List Entry) (x : Entry) (room_is : room + (page_head_bytes + sum_by (all_bytes searchable) es) ≡ min maxcount max_page) where
  abbrev room_test : Bool
  room_test = nat_le (page_head_bytes + sum_by (all_bytes searchable) (es ++ x ∷ [])) (min maxcount max_page)

  pub no_room : room < all_bytes searchable x → fits_plus dircount maxcount searchable (es ++ x ∷ []) ≡ false
  no_room less = let sum = sum_by_push (all_bytes searchable) es x in
      without_first room_test (few_named dircount (es ++ x ∷ [])) (lt-leb (page_head_bytes + sum_by (all_bytes searchable) (es ++ x ∷ [])) (min maxcount max_page) (omega (arith, sum, less, room_is)))

  pub above_named : (given named : ℕ) → given ≡ length es → named ≡ sum_by entry_bytes es + entry_bytes x → (nat_lt 0 given && nat_lt dircount named) ≡ true → fits_plus dircount maxcount searchable (es ++ x ∷ []) ≡ false
  above_named given named count names above =
      let parts = and_parts (nat_lt 0 given) (nat_lt dircount named) above in
      let some = ltb-true 0 given parts.0 in
      let large = ltb-true dircount named parts.1 in
      let n = length-append es (x ∷ []) in
      let sum = sum_by_push entry_bytes es x in
      without_second room_test (few_named dircount (es ++ x ∷ []))
      (with_neither (nat_le (length (es ++ x ∷ [])) 1) (nat_le (sum_by entry_bytes (es ++ x ∷ [])) dircount)
      (lt-leb (length (es ++ x ∷ [])) 1 (omega (arith, some, count, n)))
      (lt-leb (sum_by entry_bytes (es ++ x ∷ [])) dircount (omega (arith, large, names, sum))))

  pub fits_plus_more : (given named : ℕ) → given ≡ length es → named ≡ sum_by entry_bytes es + entry_bytes x → all_bytes searchable x ≤ room → (nat_lt 0 given && nat_lt dircount named) ≡ false → fits_plus dircount maxcount searchable (es ++ x ∷ []) ≡ true
  fits_plus_more given named count names le below =
      let sum = sum_by_push (all_bytes searchable) es x in
      with_both room_test (few_named dircount (es ++ x ∷ [])) (le-leb (page_head_bytes + sum_by (all_bytes searchable) (es ++ x ∷ [])) (min maxcount max_page) (omega (arith, sum, le, room_is)))
      (by_given (nat_lt 0 given) refl)
    where
      by_given : (t : Bool) → nat_lt 0 given ≡ t → few_named dircount (es ++ x ∷ []) ≡ true
      by_given false e = let none = ltb-false 0 given e in let n = length-append es (x ∷ []) in
          with_first (nat_le (length (es ++ x ∷ [])) 1) (nat_le (sum_by entry_bytes (es ++ x ∷ [])) dircount) (le-leb (length (es ++ x ∷ [])) 1 (omega (arith, none, count, n)))
      by_given true e = let small = ltb-false dircount named (sym (ap (λ t. t && nat_lt dircount named) e) ∙ below) in let sum = sum_by_push entry_bytes es x in
          with_second (nat_le (length (es ++ x ∷ [])) 1) (nat_le (sum_by entry_bytes (es ++ x ∷ [])) dircount) (le-leb (sum_by entry_bytes (es ++ x ∷ [])) dircount (omega (arith, small, names, sum)))
