-- Lines by their numbers.
use Rattle.std.proofs.Common.{◌≡◌, ◌≢◌, ℕ, zero, suc, ◌-◌, List, [], ◌∷◌, ◌∙◌, refl, ap, sym, arith}
use Rattle.nfs_advice.specs.Numbered.{line_numbered}

-- the line of another number than 1 stands after the first
pub after_first : (n : ℕ) (line : List ℕ) (others : List (List ℕ)) → n ≢ 1 → line_numbered n (line ∷ others) ≡ line_numbered (n - 1) others
after_first zero line [] other = refl
after_first zero line (next ∷ others) other = refl
after_first (suc zero) line others other = absurd (other refl)
after_first (suc (suc n)) line others other =
    let e : suc (suc n) - 1 ≡ suc n = omega arith in
    ap (λ k. line_numbered k others) (sym e)

-- what was to be found among some lines is found after the first
pub found_after : (found : List ℕ) (left less : ℕ) (old new : List (List ℕ)) (line : List ℕ) → found ≡ line_numbered left old → old ≡ line ∷ new
    → left ≢ 1 → less ≡ left - 1 → found ≡ line_numbered less new
found_after found left less old new line is_found first other less_is = is_found ∙ ap (line_numbered left) first ∙ after_first left line new other
    ∙ ap (λ n. line_numbered n new) (sym less_is)
