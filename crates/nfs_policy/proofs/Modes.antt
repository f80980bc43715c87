-- Modes that lose bits 0x800 and 0x400, or one of them.
use Rattle.std.proofs.Common.{◌≡◌, ℕ, ◌≤◌, ◌/◌, ◌%◌, Bool, true, false, ◌∙◌, arith}
use Rattle.std.specs.Prelude.{nat_eq, nat_le, ◌&&◌}
use Rattle.std.proofs.lemmas.Bool.{eqb-true, eq-eqb, and_parts, le-leb, leb-true}
use Rattle.nfs_policy.specs.Policy.{loses_set_ids}

all_so : (a b c : Bool) → a ≡ true → b ≡ true → c ≡ true → (a && b && c) ≡ true
all_so true true c x y z = z
all_so true false c x y z = cc
all_so false b c x y z = cc

pub loses_at_most : (before after : ℕ) → after % 1024 ≡ before % 1024 → after / 1024 % 2 ≤ before / 1024 % 2 → after / 2048 ≤ before / 2048 → loses_set_ids before after ≡ true
loses_at_most before after low one two = all_so (nat_eq (after % 1024) (before % 1024)) (nat_le (after / 1024 % 2) (before / 1024 % 2)) (nat_le (after / 2048) (before / 2048)) (eq-eqb _ _ low) (le-leb _ _ one) (le-leb _ _ two)

-- one after another
pub loses_on : (a b c : ℕ) → loses_set_ids a b ≡ true → loses_set_ids b c ≡ true → loses_set_ids a c ≡ true
loses_on a b c x y =
    let p = and_parts (nat_eq (b % 1024) (a % 1024) && nat_le (b / 1024 % 2) (a / 1024 % 2)) (nat_le (b / 2048) (a / 2048)) x in
    let q = and_parts (nat_eq (c % 1024) (b % 1024) && nat_le (c / 1024 % 2) (b / 1024 % 2)) (nat_le (c / 2048) (b / 2048)) y in
    let p' = and_parts (nat_eq (b % 1024) (a % 1024)) (nat_le (b / 1024 % 2) (a / 1024 % 2)) p.0 in
    let q' = and_parts (nat_eq (c % 1024) (b % 1024)) (nat_le (c / 1024 % 2) (b / 1024 % 2)) q.0 in
    loses_at_most a c (eqb-true (c % 1024) (b % 1024) q'.0 ∙ eqb-true (b % 1024) (a % 1024) p'.0)
    (let l = leb-true (b / 1024 % 2) (a / 1024 % 2) p'.1 in let m = leb-true (c / 1024 % 2) (b / 1024 % 2) q'.1 in omega (arith, l, m))
    (let l = leb-true (b / 2048) (a / 2048) p.1 in let m = leb-true (c / 2048) (b / 2048) q.1 in omega (arith, l, m))

-- both bits are lost
cleared_low : (mode : ℕ) → mode % 1024 % 4096 % 1024 ≡ mode % 1024
cleared_low mode = omega arith

cleared_one : (mode : ℕ) → mode % 1024 % 4096 / 1024 % 2 ≤ mode / 1024 % 2
cleared_one mode = omega arith

cleared_two : (mode : ℕ) → mode % 1024 % 4096 / 2048 ≤ mode / 2048
cleared_two mode = omega arith

pub loses_both : (mode : ℕ) → loses_set_ids mode (mode % 1024 % 4096) ≡ true
loses_both mode = loses_at_most mode (mode % 1024 % 4096) (cleared_low mode) (cleared_one mode) (cleared_two mode)
