-- Bytes that are put inside others.
use Rattle.std.proofs.Common.{inl, inr, min, ◌≡◌, ◌⊎◌, ℕ, ◌+◌, ◌-◌, ◌≤◌, List, [], ◌++◌, length, take, drop, sym, ap, ◌∙◌, arith, append_assoc}
use Rattle.std.proofs.lemmas.List.{take-append-le, drop-append-le, take-append-drop, drop_all, append-nil, length-take-le, take_all, take_rest}
use Rattle.std.proofs.lemmas.Bool.{cases_lt}
use Rattle.nfs_content.specs.Bytes.{put_bytes, zeros}

no_gap : (n : ℕ) → n ≡ 0 → zeros n ≡ []
no_gap n e = ap zeros e

-- content with an end of the new bytes, over which their first part is put
pub inside_put : (old bytes : List ℕ) (offset k : ℕ) → offset + k ≤ length old → k ≤ length bytes → (k ≡ length bytes) ⊎ (offset + k ≡ length old) →
    take offset (old ++ drop k bytes) ++ take k bytes ++ drop (offset + k) (old ++ drop k bytes) ≡ put_bytes old offset bytes
inside_put old bytes offset k low few which =
    let head : List ℕ = take offset old in
    let front : take offset (old ++ drop k bytes) ≡ head = take-append-le offset old (drop k bytes) (omega (arith, low)) in
    let back : drop (offset + k) (old ++ drop k bytes) ≡ drop (offset + k) old ++ drop k bytes = drop-append-le (offset + k) old (drop k bytes) low in
    let gap : head ++ zeros (offset - length old) ≡ head = ap (λ l. head ++ l) (no_gap (offset - length old) (omega (arith, low))) ∙ append-nil head in
    ap (λ l. l ++ take k bytes ++ drop (offset + k) (old ++ drop k bytes)) front
    ∙ ap (λ l. head ++ take k bytes ++ l) back
    ∙ elim which [
      | inl all ↦ whole head old bytes offset k all
      | inr end ↦ part head old bytes offset k end few
    ]
    ∙ sym (ap (λ l. l ++ bytes ++ drop (offset + length bytes) old) gap)
  where
    whole : (head old bytes : List ℕ) (offset k : ℕ) → k ≡ length bytes → (head ++ take k bytes) ++ (drop (offset + k) old ++ drop k bytes) ≡ (head ++ bytes) ++ drop (offset + length bytes) old
    whole head old bytes offset k all =
        let t : take k bytes ≡ bytes = take_all k bytes (omega (arith, all)) in
        let d : drop k bytes ≡ [] = drop_all k bytes (omega (arith, all)) in
        let none : drop (offset + k) old ++ drop k bytes ≡ drop (offset + k) old = ap (λ l. drop (offset + k) old ++ l) d ∙ append-nil (drop (offset + k) old) in
        ap (λ l. (head ++ l) ++ (drop (offset + k) old ++ drop k bytes)) t
        ∙ ap (λ l. (head ++ bytes) ++ l) none
        ∙ ap (λ n. (head ++ bytes) ++ drop (offset + n) old) all

    part : (head old bytes : List ℕ) (offset k : ℕ) → offset + k ≡ length old → k ≤ length bytes → (head ++ take k bytes) ++ (drop (offset + k) old ++ drop k bytes) ≡ (head ++ bytes) ++ drop (offset + length bytes) old
    part head old bytes offset k end few =
        let d : drop (offset + k) old ≡ [] = drop_all (offset + k) old (omega (arith, end)) in
        let e : drop (offset + length bytes) old ≡ [] = drop_all (offset + length bytes) old (omega (arith, end, few)) in
        ap (λ l. (head ++ take k bytes) ++ (l ++ drop k bytes)) d
        ∙ append_assoc head (take k bytes) (drop k bytes)
        ∙ ap (λ l. head ++ l) (take-append-drop k bytes)
        ∙ sym (append-nil (head ++ bytes)) ∙ ap (λ l. (head ++ bytes) ++ l) (sym e)

-- the smaller of two numbers is one of them
pub by_least : {P : Type 0} (m n k : ℕ) → k ≡ min m n → (k ≤ m → k ≤ n → (k ≡ m) ⊎ (k ≡ n) → P) → P
by_least m n k e p = elim (cases_lt m n) [
  | inl l ↦ let s : k ≡ m = omega (arith, e, l) in p (omega (arith, s)) (omega (arith, s, l)) (inl s)
  | inr g ↦ let s : k ≡ n = omega (arith, e, g) in p (omega (arith, s, g)) (omega (arith, s)) (inr s)
]

-- the same, as it was written
pub inside_written : (old bytes grown new : List ℕ) (offset k : ℕ) → k ≡ min (length bytes) (length old - offset) → offset ≤ length old → grown ≡ old ++ take (length bytes - k) (drop k bytes) → new ≡ take offset grown ++ take k bytes ++ drop (offset + length (take k bytes)) grown → new ≡ put_bytes old offset bytes
inside_written old bytes grown new offset k e inside g put = by_least (length bytes) (length old - offset) k e (λ few low which.
    let grown_is : grown ≡ old ++ drop k bytes = g ∙ ap (λ l. old ++ l) (take_rest bytes k) in
    let all : length (take k bytes) ≡ k = length-take-le k bytes few in
    put
    ∙ ap (λ l. take offset l ++ take k bytes ++ drop (offset + length (take k bytes)) l) grown_is
    ∙ ap (λ n. take offset (old ++ drop k bytes) ++ take k bytes ++ drop (offset + n) (old ++ drop k bytes)) all
    ∙ inside_put old bytes offset k (omega (arith, low, inside)) few (elim which [
      | inl s ↦ inl s
      | inr s ↦ inr (omega (arith, s, inside))
    ]))
