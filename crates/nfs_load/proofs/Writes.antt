-- Texts that are written in parts.
use Rattle.std.proofs.Common.{◌≡◌, ℕ, zero, suc, ◌+◌, ◌<◌, List, [], ◌++◌, length, take, Option, Result, Ok, Err, inl, inr, refl, sym, ap, subst, ◌∙◌, append_assoc, append-nil, arith}
use Rattle.std.specs.Prelude.{OnErr, ◌⊎◌}
use Rattle.std.proofs.lemmas.List.{length-append, take-append-le}
use Rattle.std.proofs.Math.Seq.{take-append-add}
use Rattle.nfs_xdr.specs.Known.{Grows, GrowsByPart}
use Rattle.nfs_xdr.proofs.Knowing.{Grows-then}
use Rattle.nfs_inodes.specs.Tree.{Tree}
use Rattle.nfs_load.specs.Listings.{text_at, texts_to}

pub on_err : {A E P : Type 0} (r : Result A E) → P → OnErr r P
on_err (Ok x) p = tt
on_err (Err e) p = p

-- a part of the first text, or of the second after the first, is a part of both
pub part_of_first : (old new : Option (List ℕ)) (first second : List ℕ) → GrowsByPart old first new → GrowsByPart old (first ++ second) new
part_of_first old new first second part = let within = part.1 in (
  part.0,
  omega (arith, within, length-append first second),
  subst (λ l. Grows old l new) (sym (take-append-le part.0 first second part.1)) part.2,
)

pub part_of_second : (old between new : Option (List ℕ)) (first second : List ℕ) → Grows old first between → GrowsByPart between second new → GrowsByPart old (first ++ second) new
part_of_second old between new first second grows part = let within = part.1 in (
  length first + part.0,
  omega (arith, within, length-append first second),
  subst (λ l. Grows old l new) (sym (take-append-add first second part.0)) (Grows-then old between new first (take part.0 second) grows part.2),
)

-- all of a text is written but the rest
pub record WritesBut (old : Option (List ℕ)) (whole rest : List ℕ) (new : Option (List ℕ)) : Type 0 where
  pub written : List ℕ
  pub grows : Grows old written new
  pub whole_is : whole ≡ written ++ rest

pub begun : (old new : Option (List ℕ)) (first rest : List ℕ) → Grows old first new → WritesBut old (first ++ rest) rest new
begun old new first rest grows = record { written = first; grows = grows; whole_is = refl }

pub goes_on : (old between new : Option (List ℕ)) (whole first rest : List ℕ) → WritesBut old whole (first ++ rest) between → Grows between first new → WritesBut old whole rest new
goes_on old between new whole first rest but grows = record {
  written = but.written ++ first;
  grows = Grows-then old between new but.written first but.grows grows;
  whole_is = but.whole_is ∙ sym (append_assoc but.written first rest);
}

pub ended : (old new : Option (List ℕ)) (whole : List ℕ) → WritesBut old whole [] new → Grows old whole new
ended old new whole but = subst (λ l. Grows old l new) (sym (but.whole_is ∙ append-nil but.written)) but.grows

pub broken_off : (old between new : Option (List ℕ)) (whole first rest : List ℕ) → WritesBut old whole (first ++ rest) between → GrowsByPart between first new → GrowsByPart old whole new
broken_off old between new whole first rest but part =
    subst (λ l. GrowsByPart old l new) (sym but.whole_is) (part_of_second old between new but.written (first ++ rest) but.grows (part_of_first between new first rest part))

-- ---- texts of numbers

split : (k m : ℕ) → k < suc m → (k < m) ⊎ (k ≡ m)
split k m less = grind arith

-- the text of one more
pub texts_more : (t : Tree) (a b n : ℕ) → a + 1 ≡ n → b ≡ n → texts_to t b ≡ texts_to t a ++ text_at t n
texts_more t a b n one is = let next : b ≡ suc a = omega (arith, one, is) in let number : suc a ≡ n = omega (arith, one) in
    ap (texts_to t) next ∙ ap (λ k. texts_to t a ++ text_at t k) number

-- a part of one, after those before it, is a part of all
pub part_of_texts : (t : Tree) (old between new : Option (List ℕ)) (k m : ℕ) → k < m → Grows old (texts_to t k) between → GrowsByPart between (text_at t (suc k)) new → GrowsByPart old (texts_to t m) new
part_of_texts t old between new k zero less grows part = absurd (omega (arith, less))
part_of_texts t old between new k (suc m) less grows part = elim (split k m less) [
  | inl before ↦ part_of_first old new (texts_to t m) (text_at t (suc m)) (part_of_texts t old between new k m before grows part)
  | inr last ↦ subst (λ i. GrowsByPart old (texts_to t i ++ text_at t (suc i)) new) last (part_of_second old between new (texts_to t k) (text_at t (suc k)) grows part)
]
