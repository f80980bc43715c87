-- The value of digits, one digit after the other.
use Rattle.std.proofs.Common.{◌≡◌, ℕ, zero, suc, ◌+◌, ◌*◌, ◌<◌, ◌≤◌, Bool, true, false, ◌&&◌, cond, nat_le, List, [], ◌∷◌, ◌++◌, length, get_or, take, drop, Some, None, sym, refl, ap, ◌∙◌, arith}
use Rattle.std.specs.List.{list_all}
use Rattle.std.specs.Char.{digit_value}
use Rattle.std.specs.Str.Parse.{digits_value, digits_value_after}
use Rattle.std.proofs.lemmas.List.{take_more, take-append-drop}
use Rattle.std.proofs.lemmas.Bool.{and_left, and_right, cond-false}
use Rattle.std.proofs.lemmas.Bool.Decides.{nat_tests}
use Rattle.std.proofs.lemmas.Int.Digits.{digits_value_more}
use Rattle.nfs_text.specs.Numbers.{is_decimal}

list_all-append : {X : Type 0} (p : X → Bool) (xs ys : List X) → list_all p (xs ++ ys) ≡ (list_all p xs && list_all p ys)
list_all-append p [] ys = refl
list_all-append p (x ∷ xs) ys = by_test (p x) (list_all-append p xs ys)
  where
    by_test : (t : Bool) → list_all p (xs ++ ys) ≡ (list_all p xs && list_all p ys) → (t && list_all p (xs ++ ys)) ≡ ((t && list_all p xs) && list_all p ys)
    by_test true e = e
    by_test false e = refl

pub list_all_more : {X : Type 0} (p : X → Bool) (xs : List X) (i : ℕ) (d : X) → i < length xs → list_all p (take i xs) ≡ true → p (get_or xs i d) ≡ true → list_all p (take (i + 1) xs) ≡ true
list_all_more p xs i d inside before here =
    ap (list_all p) (take_more xs i d inside) ∙ list_all-append p (take i xs) _ ∙ (λ k. before k && (here k && true))

pub list_all_fails : {X : Type 0} (p : X → Bool) (xs : List X) (i : ℕ) (d : X) → i < length xs → p (get_or xs i d) ≡ false → list_all p xs ≡ false
list_all_fails p [] i d inside fails = absurd (omega arith)
list_all_fails p (x ∷ xs) zero d inside fails = and_left _ _ fails
list_all_fails p (x ∷ xs) (suc i) d inside fails = and_right _ _ (list_all_fails p xs i d (omega arith) fails)

-- more digits make no smaller number
digits_value_after-ge : (ds : List ℕ) (n : ℕ) → n ≤ digits_value_after 10 n ds
digits_value_after-ge [] n = omega arith
digits_value_after-ge (d ∷ ds) n = omega (arith, digits_value_after-ge ds (n * 10 + digit_value d))

digits_value_after-append : (n : ℕ) (xs ys : List ℕ) → digits_value_after 10 n (xs ++ ys) ≡ digits_value_after 10 (digits_value_after 10 n xs) ys
digits_value_after-append n [] ys = refl
digits_value_after-append n (x ∷ xs) ys = digits_value_after-append (n * 10 + digit_value x) xs ys

digits_value-take-le : (i : ℕ) (ds : List ℕ) → digits_value 10 (take i ds) ≤ digits_value 10 ds
digits_value-take-le i ds =
    let whole = ap (digits_value 10) (sym (take-append-drop i ds)) ∙ digits_value_after-append 0 (take i ds) (drop i ds) in
    omega (arith, digits_value_after-ge (drop i ds) (digits_value 10 (take i ds)))

above : (n max : ℕ) → max < n → nat_le n max ≡ false
above n max h = grind (arith, nat_tests)

pub no_number : (max : ℕ) (ds : List ℕ) → is_decimal max ds ≡ false → None ≡ cond (is_decimal max ds) (Some (digits_value 10 ds)) None
no_number max ds e = sym (cond-false _ _ _ e)

-- where the first digits are too many, the whole is
pub too_large : (max : ℕ) (ds : List ℕ) (i : ℕ) → i < length ds → max < digits_value 10 (take i ds) * 10 + digit_value (get_or ds i 0) → is_decimal max ds ≡ false
too_large max ds i inside large = and_right _ _ (and_right _ _ (above (digits_value 10 ds) max (omega (arith, digits_value_more 10 ds i inside, digits_value-take-le (i + 1) ds))))
