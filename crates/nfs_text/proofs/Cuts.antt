-- Where a text is cut, and what that says of its chunks and lines.
use Rattle.std.proofs.Common.{◌≡◌, ◌≢◌, ℕ, zero, suc, ◌<◌, Bool, true, false, cond, ◌==◌, List, [], ◌∷◌, length, get_or, take, drop, Option, Some, None, option_map, refl, sym, ap, ◌∙◌, arith}
use Rattle.std.specs.Borrow.{Bor}
use Rattle.std.specs.Option.{option_map_or, unwrap_or}
use Rattle.std.specs.List.{onto_first}
use Rattle.std.proofs.lemmas.Bool.{eq-eqb, ne_eqb}
use Rattle.nfs_text.specs.Chunks.{cut, chunks}
use Rattle.nfs_text.specs.Lines.{lines}

pub cut_at : (s : ℕ) (xs : List ℕ) (i : ℕ) → i < length xs → get_or xs i 0 ≡ s → ((k : ℕ) → k < i → get_or xs k 0 ≢ s) → cut s xs ≡ (take i xs, Some (drop (suc i) xs))
cut_at s [] i inside at before = absurd (omega arith)
cut_at s (b ∷ bs) zero inside at before = ap (λ t. cond t ([], Some bs) (b ∷ (cut s bs).0, (cut s bs).1)) (eq-eqb b s at)
cut_at s (b ∷ bs) (suc i) inside at before =
    ap (λ t. cond t ([], Some bs) (b ∷ (cut s bs).0, (cut s bs).1)) (ne_eqb b s (before 0 (omega arith)))
    ∙ ap (λ (p : List ℕ × Option (List ℕ)). (b ∷ p.0, p.1)) (cut_at s bs i (omega arith) at (λ k below. before (suc k) (omega arith)))

pub cut_whole : (s : ℕ) (xs : List ℕ) → ((k : ℕ) → k < length xs → get_or xs k 0 ≢ s) → cut s xs ≡ (xs, None)
cut_whole s [] none = refl
cut_whole s (b ∷ bs) none =
    ap (λ t. cond t ([], Some bs) (b ∷ (cut s bs).0, (cut s bs).1)) (ne_eqb b s (none 0 (omega arith)))
    ∙ ap (λ (p : List ℕ × Option (List ℕ)). (b ∷ p.0, p.1)) (cut_whole s bs (λ k below. none (suc k) (omega arith)))

-- a cut takes off the first chunk
chunks_cut : (s : ℕ) (xs : List ℕ) → chunks s xs ≡ (cut s xs).0 ∷ option_map_or (chunks s) (cut s xs).1 []
chunks_cut s [] = refl
chunks_cut s (b ∷ bs) = by_test (b == s) (chunks_cut s bs)
  where
    by_test : (t : Bool) → chunks s bs ≡ (cut s bs).0 ∷ option_map_or (chunks s) (cut s bs).1 [] → cond t ([] ∷ chunks s bs) (onto_first b (chunks s bs)) ≡ (cond {A = List ℕ × Option (List ℕ)} t ([], Some bs) (b ∷ (cut s bs).0, (cut s bs).1)).0 ∷ option_map_or (chunks s) (cond {A = List ℕ × Option (List ℕ)} t ([], Some bs) (b ∷ (cut s bs).0, (cut s bs).1)).1 []
    by_test true e = refl
    by_test false e = ap (onto_first b) e

pub chunks_step : (s : ℕ) (xs front : List ℕ) (rest : Option (Bor (List ℕ))) → (front, option_map (λ r. r.now) rest) ≡ cut s xs → chunks s xs ≡ front ∷ option_map_or (λ r. chunks s r.now) rest []
chunks_step s xs front None e = chunks_cut s xs ∙ ap (λ (p : List ℕ × Option (List ℕ)). p.0 ∷ option_map_or (chunks s) p.1 []) (sym e)
chunks_step s xs front (Some r) e = chunks_cut s xs ∙ ap (λ (p : List ℕ × Option (List ℕ)). p.0 ∷ option_map_or (chunks s) p.1 []) (sym e)

abbrev lines_split : ℕ → List ℕ → Type 0
lines_split b bs = onto_first b (lines bs) ≡ (b ∷ (cut 10 bs).0) ∷ option_map_or lines (cut 10 bs).1 []

-- a cut takes off the first line
lines_cut_test : (b : ℕ) (bs : List ℕ) (t : Bool) → lines_split b bs → cond t ([] ∷ lines bs) (onto_first b (lines bs)) ≡ (cond {A = List ℕ × Option (List ℕ)} t ([], Some bs) (b ∷ (cut 10 bs).0, (cut 10 bs).1)).0 ∷ option_map_or lines (cond {A = List ℕ × Option (List ℕ)} t ([], Some bs) (b ∷ (cut 10 bs).0, (cut 10 bs).1)).1 []
lines_cut_test b bs true e = refl
lines_cut_test b bs false e = e

lines_cut : (b : ℕ) (bs : List ℕ) → lines (b ∷ bs) ≡ (cut 10 (b ∷ bs)).0 ∷ option_map_or lines (cut 10 (b ∷ bs)).1 []
lines_cut b [] = lines_cut_test b [] (b == 10) refl
lines_cut b (c ∷ cs) = lines_cut_test b (c ∷ cs) (b == 10) (ap (onto_first b) (lines_cut c cs))

pub lines_step : (xs front : List ℕ) (rest : Option (Bor (List ℕ))) → 0 < length xs → (front, option_map (λ r. r.now) rest) ≡ cut 10 xs → lines xs ≡ front ∷ option_map_or (λ r. lines r.now) rest []
lines_step [] front rest some e = absurd (omega arith)
lines_step (b ∷ bs) front None some e = lines_cut b bs ∙ ap (λ (p : List ℕ × Option (List ℕ)). p.0 ∷ option_map_or lines p.1 []) (sym e)
lines_step (b ∷ bs) front (Some r) some e = lines_cut b bs ∙ ap (λ (p : List ℕ × Option (List ℕ)). p.0 ∷ option_map_or lines p.1 []) (sym e)

-- what is left behind the last line is the empty text
pub lines_after : (rest : Option (Bor (List ℕ))) (left end : Bor (List ℕ)) → left ≡ unwrap_or rest end → end.now ≡ [] → option_map_or (λ r. lines r.now) rest [] ≡ lines left.now
lines_after None left end e z = sym (ap (λ (b : Bor (List ℕ)). lines b.now) e ∙ ap lines z)
lines_after (Some r) left end e z = sym (ap (λ (b : Bor (List ℕ)). lines b.now) e)
