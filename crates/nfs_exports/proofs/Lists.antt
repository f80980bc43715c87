-- The lists of a table, one for each volume.
use Rattle.std.proofs.Common.{◌≡◌, ℕ, zero, suc, ◌+◌, ◌<◌, ◌≤◌, List, [], ◌∷◌, ◌++◌, length, get_or, slice_set, Result, Ok, Err, OnErr, refl, ap, ◌∙◌, arith, Vec}
use Rattle.std.proofs.lemmas.List.{length-append}
use Rattle.nfs_exports.specs.declared.export_table.Export.{Export}
use Rattle.nfs_exports.specs.Tables.{added, exports_of, lists, pattern_count}

pub pattern_count-added : (ls : List (List Export)) (volume : ℕ) (e : Export) → volume < length ls → pattern_count (added ls volume e) ≡ pattern_count ls + 1
pattern_count-added [] volume e h = absurd (omega arith)
pattern_count-added (x ∷ ls) zero e h = let n = length-append x (e ∷ []) in omega (arith, n)
pattern_count-added (x ∷ ls) (suc volume) e h = let more = pattern_count-added ls volume e (omega arith) in omega (arith, more)

pub on_err : {A E : Type 0} (r : Result A E) (P : Type 0) → P → OnErr r P
on_err (Ok x) P p = tt
on_err (Err e) P p = p

module _ {Z : Type 0} where
  pub exports_of_at : (vs : List (Vec Export Z)) (i : ℕ) (v : Vec Export Z) → i < length vs → v ≡ get_or vs i v → v.items ≡ exports_of (lists vs) i
  exports_of_at [] i v h e = absurd (omega arith)
  exports_of_at (x ∷ vs) zero v h e = ap (λ (w : Vec Export Z). w.items) e
  exports_of_at (x ∷ vs) (suc i) v h e = exports_of_at vs i v (omega arith) e

  pub exports_of_history : (vs : List (Vec Export Z)) (i : ℕ) → length vs ≤ i → [] ≡ exports_of (lists vs) i
  exports_of_history [] i h = refl
  exports_of_history (x ∷ vs) zero h = absurd (omega arith)
  exports_of_history (x ∷ vs) (suc i) h = exports_of_history vs i (omega arith)

  pub lists_pushed : (vs : List (Vec Export Z)) (i : ℕ) (v w : Vec Export Z) (e : Export) → i < length vs → v ≡ get_or vs i v → w.items ≡ v.items ++ e ∷ [] → lists (slice_set vs i w) ≡ added (lists vs) i e
  lists_pushed [] i v w e l g h = absurd (omega arith)
  lists_pushed (x ∷ vs) zero v w e l g h = ap (λ z. z ∷ lists vs) (h ∙ ap (λ (u : Vec Export Z). u.items ++ e ∷ []) g)
  lists_pushed (x ∷ vs) (suc i) v w e l g h = ap (λ more. x.items ∷ more) (lists_pushed vs i v w e (omega arith) g h)

  pub lists_same : (vs : List (Vec Export Z)) (i : ℕ) (v w : Vec Export Z) → i < length vs → v ≡ get_or vs i v → w.items ≡ v.items → lists (slice_set vs i w) ≡ lists vs
  lists_same [] i v w l g h = absurd (omega arith)
  lists_same (x ∷ vs) zero v w l g h = ap (λ z. z ∷ lists vs) (h ∙ ap (λ (u : Vec Export Z). u.items) g)
  lists_same (x ∷ vs) (suc i) v w l g h = ap (λ more. x.items ∷ more) (lists_same vs i v w (omega arith) g h)

  pub pattern_count-opened : (vs : List (Vec Export Z)) (w : Vec Export Z) → w.items ≡ [] → pattern_count (lists (vs ++ w ∷ [])) ≡ pattern_count (lists vs)
  pattern_count-opened [] w e = ap (λ (xs : List Export). length xs + 0) e
  pattern_count-opened (x ∷ vs) w e = ap (λ n. length x.items + n) (pattern_count-opened vs w e)
