-- Numbers of few octal digits are small.
use Rattle.std.proofs.Common.{ℕ, suc, zero, ◌≡◌, ◌+◌, ◌*◌, ◌^◌, ◌<◌, ◌≤◌, arith}
use Rattle.std.proofs.lemmas.Grind.{pow_more}

pub few_digits : (n : ℕ) → n < 4 → 8 ^ n ≤ 512
few_digits zero less = omega arith
few_digits (suc zero) less = omega arith
few_digits (suc (suc zero)) less = omega arith
few_digits (suc (suc (suc zero))) less = omega arith
few_digits (suc (suc (suc (suc n)))) less = absurd (omega (arith, less))

-- one digit more
pub digit_more : (value digit n : ℕ) → value < 8 ^ n → digit < 8 → value * 8 + digit < 8 ^ (n + 1)
digit_more value digit n below small = more (8 ^ n) (8 ^ (n + 1)) (pow_more 8 n) below
  where
    more : (p q : ℕ) → q ≡ p * 8 → value < p → value * 8 + digit < q
    more p q e less = omega (arith, e, less, small)
