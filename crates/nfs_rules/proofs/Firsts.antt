-- Tests of which none is failed, and the first that is.
use Rattle.std.proofs.Common.{◌≡◌, ℕ, zero, suc, false, List, [], ◌∷◌, ◌++◌, Some, None, refl, sym, ap, ◌∙◌}
use Rattle.std.specs.Prelude.{slice_get}
use Rattle.nfs_inodes.proofs.Lists.{by_test, if_true, if_false, same_some, not_both}
use Rattle.nfs_rules.specs.Tests.{Test, first}
use Rattle.nfs_rules.specs.declared.rule.Rule.{Rule}

-- no test is failed
abbrev pub ArePassed : List Test → Type 0
ArePassed [] = Unit {0}
ArePassed (t ∷ ts) = (t.1 ≡ false) × ArePassed ts

pub are_passed : (ts : List Test) → first ts ≡ None → ArePassed ts
are_passed [] e = tt
are_passed (t ∷ ts) e = by_test t.1
    (λ y. absurd (not_both e (if_true (Some t.0) (first ts) y)))
    (λ n. (n, are_passed ts (sym (if_false (Some t.0) (first ts) n) ∙ e)))

-- the test of an index among them
pub passed_at : (ts : List Test) → first ts ≡ None → (place : ℕ) (t : Test) → slice_get ts place ≡ Some t → t.1 ≡ false
passed_at ts none place t e = of ts (are_passed ts none) place t e
  where
    of : (ts : List Test) → ArePassed ts → (place : ℕ) (t : Test) → slice_get ts place ≡ Some t → t.1 ≡ false
    of [] passed place t e = absurd (not_both refl e)
    of (u ∷ us) passed zero t e = ap (λ (t : Test). t.1) (sym (same_some e)) ∙ passed.0
    of (u ∷ us) passed (suc place) t e = of us passed.1 place t e

-- where the first tests are passed, those after them report
pub first_after_passed : (ts us : List Test) → first ts ≡ None → first (ts ++ us) ≡ first us
first_after_passed [] us e = refl
first_after_passed (t ∷ ts) us e = by_test t.1
    (λ y. absurd (not_both e (if_true (Some t.0) (first ts) y)))
    (λ n. if_false (Some t.0) (first (ts ++ us)) n ∙ first_after_passed ts us (sym (if_false (Some t.0) (first ts) n) ∙ e))

-- and where one of them is failed, the others report nothing
pub first_of_failed : (ts us : List Test) (r : Rule) → first ts ≡ Some r → first (ts ++ us) ≡ Some r
first_of_failed [] us r e = absurd (not_both refl e)
first_of_failed (t ∷ ts) us r e = by_test t.1
    (λ y. if_true (Some t.0) (first (ts ++ us)) y ∙ sym (if_true (Some t.0) (first ts) y) ∙ e)
    (λ n. if_false (Some t.0) (first (ts ++ us)) n ∙ first_of_failed ts us r (sym (if_false (Some t.0) (first ts) n) ∙ e))
