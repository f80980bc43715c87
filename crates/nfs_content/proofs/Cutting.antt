-- Pages that are cut at a length.
use Rattle.std.proofs.Common.{◌≡◌, ◌≢◌, ℕ, ◌+◌, ◌/◌, ◌%◌, ◌<◌, ◌≤◌, List, [], length, take, get_or, sym, ap, subst, ◌∙◌, arith}
use Rattle.std.proofs.lemmas.List.{get_or-take, get_or_past, length-take}
use Rattle.nfs_content.specs.Paged.{byte_at, AreShort, Cuts, Keeps, SameElsewhere}
use Rattle.nfs_content.proofs.Lists.{by_number, by_less}

module _ (old : ℕ → List ℕ) (count : ℕ) (kept : ℕ → List ℕ) (keeps : Keeps old count kept) where
  kept_byte : (i : ℕ) → i / 4096 < count → byte_at kept i ≡ byte_at old i
  kept_byte i less = ap (λ (p : List ℕ). get_or p (i % 4096) 0) (keeps.before (i / 4096) less)

  gone_byte : (i : ℕ) → count ≤ i / 4096 → byte_at kept i ≡ 0
  gone_byte i from = ap (λ (p : List ℕ). get_or p (i % 4096) 0) (keeps.after (i / 4096) from) ∙ get_or_past [] (i % 4096) 0 (omega arith)

  pub kept_short : AreShort old → AreShort kept
  kept_short short k = by_less k count
      (λ less. subst (λ (p : List ℕ). length p ≤ 4096) (sym (keeps.before k less)) (short k))
      (λ from. subst (λ (p : List ℕ). length p ≤ 4096) (sym (keeps.after k from)) (omega arith))

-- at the end of a page
pub cut_between : (old : ℕ → List ℕ) (len : ℕ) (kept : ℕ → List ℕ) → len % 4096 ≡ 0 → Keeps old (len / 4096) kept → Cuts old len kept
cut_between old len kept whole keeps = record {
  before = λ i to. kept_byte old (len / 4096) kept keeps i (omega (arith, to, whole));
  after = λ i from. gone_byte old (len / 4096) kept keeps i (omega (arith, from, whole));
}

-- in a page
module _ (old : ℕ → List ℕ) (len : ℕ) (kept now : ℕ → List ℕ) (keeps : Keeps old (len / 4096 + 1) kept)
    (here : now (len / 4096) ≡ take (len % 4096) (kept (len / 4096))) (elsewhere : SameElsewhere kept (len / 4096) now) where
  here_byte : (i : ℕ) → i / 4096 ≡ len / 4096 → byte_at now i ≡ get_or (take (len % 4096) (kept (len / 4096))) (i % 4096) 0
  here_byte i is = ap (λ j. get_or (now j) (i % 4096) 0) is ∙ ap (λ (p : List ℕ). get_or p (i % 4096) 0) here

  other_byte : (i : ℕ) → i / 4096 ≢ len / 4096 → byte_at now i ≡ byte_at kept i
  other_byte i other = ap (λ (p : List ℕ). get_or p (i % 4096) 0) (elsewhere (i / 4096) other)

  pub cut_within : Cuts old len now
  cut_within = record {
    before = λ i to. by_number (i / 4096) (len / 4096)
        (λ is. here_byte i is ∙ get_or-take (len % 4096) (kept (len / 4096)) (i % 4096) 0 (omega (arith, to, is)) ∙ ap (λ j. get_or (kept j) (i % 4096) 0) (sym is)
        ∙ kept_byte old (len / 4096 + 1) kept keeps i (omega (arith, is)))
        (λ other. other_byte i other ∙ kept_byte old (len / 4096 + 1) kept keeps i (omega (arith, to)));
    after = λ i from. by_number (i / 4096) (len / 4096)
        (λ is. here_byte i is ∙ (let n = length-take (len % 4096) (kept (len / 4096)) in get_or_past (take (len % 4096) (kept (len / 4096))) (i % 4096) 0 (omega (arith, from, is, n))))
        (λ other. other_byte i other ∙ gone_byte old (len / 4096 + 1) kept keeps i (omega (arith, from, other)));
  }

  pub within_short : AreShort old → AreShort now
  within_short short k = by_number k (len / 4096)
      (λ is. subst (λ j. length (now j) ≤ 4096) (sym is) (subst (λ (p : List ℕ). length p ≤ 4096) (sym here) (let n = length-take (len % 4096) (kept (len / 4096)) in omega (arith, n))))
      (λ other. subst (λ (p : List ℕ). length p ≤ 4096) (sym (elsewhere k other)) (kept_short old (len / 4096 + 1) kept keeps short k))
