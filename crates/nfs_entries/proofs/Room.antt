-- Room for one more, as the least of four counts.
use Rattle.std.proofs.Common.{ℕ, ◌<◌, min, arith}

pub both_some : (m n : ℕ) → 0 < min m n → (0 < m) × (0 < n)
both_some m n some = (omega (arith, some), omega (arith, some))

pub some_of_both : (m n : ℕ) → 0 < m → 0 < n → 0 < min m n
some_of_both m n a b = omega (arith, a, b)

-- where each count stays above zero, room is left
pub some_left : (a b c d e f g h : ℕ) → (0 < a → 0 < e) → (0 < b → 0 < f) → (0 < c → 0 < g) → (0 < d → 0 < h) → 0 < min (min a b) (min c d) → 0 < min (min e f) (min g h)
some_left a b c d e f g h ae bf cg dh some =
    let all = both_some (min a b) (min c d) some in
    let one = both_some a b all.0 in
    let two = both_some c d all.1 in
    some_of_both (min e f) (min g h) (some_of_both e f (ae one.0) (bf one.1)) (some_of_both g h (cg two.0) (dh two.1))
