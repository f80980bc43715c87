-- How long the texts of addresses and of patterns are.
use Rattle.std.proofs.Common.{◌≡◌, ℕ, ◌+◌, ◌<◌, ◌≤◌, List, length, ap, arith}
use Rattle.std.specs.Prelude.{◌++◌, decimal}
use Rattle.std.proofs.lemmas.Fmt.{length-decimal-le}
use Rattle.std.proofs.lemmas.List.{length-append}

-- what stood there, some bytes, and a number
pub put_length : (new old before : List ℕ) (n : ℕ) → new ≡ old ++ before ++ decimal n → length new ≡ length old + (length before + length (decimal n))
put_length new old before n e = let one = length-append (old ++ before) (decimal n) in let two = length-append old before in let all = ap length e in omega (arith, all, one, two)

pub byte_short : (n m : ℕ) → m ≡ n → n < 256 → length (decimal m) ≤ 3
byte_short n m e h = length-decimal-le 3 m (omega arith) (omega (arith, h, e)) (omega (arith, h, e))

pub bits_short : (n m : ℕ) → m ≡ n → n < 32 → length (decimal m) ≤ 2
bits_short n m e h = length-decimal-le 2 m (omega arith) (omega (arith, h, e)) (omega (arith, h, e))
