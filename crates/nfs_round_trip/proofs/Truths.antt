-- Tests of two parts, and of bounds.
use Rattle.std.proofs.Common.{◌≡◌, ℕ, ◌<◌, ◌≤◌, ◌&&◌, Bool, true, false, refl, arith}
use Rattle.std.specs.Prelude.{nat_le, nat_lt}
use Rattle.std.proofs.lemmas.Bool.Decides.{nat_tests}
use Rattle.nfs_inodes.proofs.Lists.{true_and_false}

pub and_true : (a b : Bool) → a ≡ true → b ≡ true → (a && b) ≡ true
and_true true b one two = two
and_true false b one two = one

pub both : (a b : Bool) → (a && b) ≡ true → (a ≡ true) × (b ≡ true)
both true b e = (refl, e)
both false b e = absurd (true_and_false e refl)

pub upto : (m n : ℕ) → m ≤ n → nat_le m n ≡ true
upto m n le = grind (arith, nat_tests)

pub within : (m n : ℕ) → nat_le m n ≡ true → m ≤ n
within m n e = grind (arith, nat_tests)

pub some : (n : ℕ) → 0 < n → nat_lt 0 n ≡ true
some n less = grind (arith, nat_tests)
