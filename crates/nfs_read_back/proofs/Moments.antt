-- Times, as they are written and read.
use Rattle.std.proofs.Common.{◌≡◌, ℕ, ◌+◌, ◌-◌, ◌*◌, ◌/◌, ◌%◌, ◌<◌, ◌^◌, Bool, true, false, ◌&&◌, nat_eq, List, [], ◌∷◌, ◌++◌, length, map, Option, Some, Ok, refl, sym, ap, ◌∙◌, append_assoc, arith}
use Rattle.std.specs.Prelude.{Result, Err, codes, decimal, nat_le, nat_lt, if◌then◌else◌}
use Rattle.std.specs.Char.{digit_value}
use Rattle.std.specs.List.{list_all}
use Rattle.std.specs.Str.Parse.{AllDigits, digits_value, digits_value_after}
use Rattle.std.proofs.lemmas.Bool.Decides.{nat_tests}
use Rattle.std.proofs.lemmas.Fmt.{decimal_is_IsNumeral}
use Rattle.std.proofs.lemmas.List.{length-append}
use Rattle.nfs_attrs.specs.declared.moment.Moment.{Moment}
use Rattle.nfs_text.specs.Chunks.{cut}
use Rattle.nfs_text.specs.Numbers.{decimal_of}
use Rattle.nfs_load.specs.Fields.{◌>>=◌, at_least, number_in}
use Rattle.nfs_load.specs.Moments.{IsTime, after_plus, after_point, fraction_in, moment_in, moment_of, seconds_in}
use Rattle.nfs_load.specs.declared.cause.Cause.{Cause}
use Rattle.nfs_load.specs.declared.cause.Cause.TheVariants.{BadNumber}
use Rattle.nfs_describe.specs.Lines.{is_shown, moment_text, nine_digits}
use Rattle.nfs_read_back.specs.ReadBack.{is_said}
use Rattle.nfs_read_back.proofs.Digits.{and_true, decimal_read, decimal_said, digits_ascii, digits_shown, number_read, some, upto}
use Rattle.nfs_read_back.proofs.Separators.{append_free, append_shown, cut_at, cut_none, digits_free, is_free}

-- ---- nine digits

below : (n : ℕ) → n % 10 < 10
below n = omega arith

value_is : (k : ℕ) → k < 10 → digit_value (48 + k) ≡ k
value_is k less = grind (arith, nat_tests)

digit : (n : ℕ) → digit_value (48 + n % 10) < 10
digit n = let value = value_is (n % 10) (below n) in let less = below n in omega (arith, value, less)

nine_all : (n : ℕ) → AllDigits 10 (nine_digits n)
nine_all n = (digit (n / 100000000), (digit (n / 10000000), (digit (n / 1000000), (digit (n / 100000), (digit (n / 10000), (digit (n / 1000), (digit (n / 100), (digit (n / 10), (digit (n / 1), tt)))))))))

abbrev digits_at : ℕ → List ℕ → List ℕ
digits_at n places = map (λ place. 48 + n / place % 10) places

-- the value with one digit more
next : (n place before value : ℕ) (places : List ℕ) → before * 10 + n / place % 10 ≡ value
    → digits_value_after 10 before (digits_at n (place ∷ places)) ≡ digits_value_after 10 value (digits_at n places)
next n place before value places is =
    ap (λ (k : ℕ). digits_value_after 10 k (digits_at n places)) (ap (λ (k : ℕ). before * 10 + k) (value_is (n / place % 10) (below (n / place))) ∙ is)

nine_value : (n : ℕ) → n < 1000000000 → digits_value 10 (nine_digits n) ≡ n
nine_value n small =
    next n 100000000 0 (n / 100000000) (10000000 ∷ 1000000 ∷ 100000 ∷ 10000 ∷ 1000 ∷ 100 ∷ 10 ∷ 1 ∷ []) (omega (arith, small))
    ∙ next n 10000000 (n / 100000000) (n / 10000000) (1000000 ∷ 100000 ∷ 10000 ∷ 1000 ∷ 100 ∷ 10 ∷ 1 ∷ []) (omega arith)
    ∙ next n 1000000 (n / 10000000) (n / 1000000) (100000 ∷ 10000 ∷ 1000 ∷ 100 ∷ 10 ∷ 1 ∷ []) (omega arith)
    ∙ next n 100000 (n / 1000000) (n / 100000) (10000 ∷ 1000 ∷ 100 ∷ 10 ∷ 1 ∷ []) (omega arith)
    ∙ next n 10000 (n / 100000) (n / 10000) (1000 ∷ 100 ∷ 10 ∷ 1 ∷ []) (omega arith)
    ∙ next n 1000 (n / 10000) (n / 1000) (100 ∷ 10 ∷ 1 ∷ []) (omega arith)
    ∙ next n 100 (n / 1000) (n / 100) (10 ∷ 1 ∷ []) (omega arith)
    ∙ next n 10 (n / 100) (n / 10) (1 ∷ []) (omega arith)
    ∙ next n 1 (n / 10) n [] (omega arith)

nine_read : (n : ℕ) → n < 1000000000 → decimal_of 999999999 (nine_digits n) ≡ Some n
nine_read n small = decimal_read 999999999 n (nine_digits n) (omega arith) (digits_ascii (nine_digits n) (nine_all n)) (nine_value n small) (omega (arith, small))

-- a fraction of nine digits
fraction_of : (text : List ℕ) (n : ℕ) → length text ≡ 9 → decimal_of 999999999 text ≡ Some n → fraction_in text ≡ Ok n
fraction_of text n nine is =
    ap (λ (k : ℕ). if nat_lt 0 k && nat_le k 9 then number_in 0 (10 ^ k - 1) text >>= (λ (value : ℕ). Ok (value * 10 ^ (9 - k))) else Err BadNumber) nine
    ∙ ap (λ (o : Option ℕ). at_least 0 o >>= (λ (value : ℕ). Ok (value * 1))) is
    ∙ ap (λ b. (if b then Ok n else Err BadNumber) >>= (λ (value : ℕ). Ok (value * 1))) (upto 0 n (omega arith))
    ∙ ap Ok (once n)
  where
    once : (n : ℕ) → n * 1 ≡ n
    once n = omega arith

fraction_read : (n : ℕ) → n < 1000000000 → fraction_in (nine_digits n) ≡ Ok n
fraction_read n small = fraction_of (nine_digits n) n refl (nine_read n small)

-- ---- times

abbrev time : ℕ → ℕ → Moment
time seconds nanos = record { seconds = seconds; nanos = nanos }

seconds_read : (n : ℕ) → n < 2 ^ 32 → seconds_in (decimal n) ≡ Ok n
seconds_read n small = number_read 0 4294967295 n (omega arith) (omega (arith, small)) (omega (arith, small))

free : (separator n : ℕ) → separator < 48 → n < 2 ^ 32 → is_free separator (decimal n) ≡ true
free separator n low small = digits_free separator (decimal n) low (decimal_is_IsNumeral n (omega (arith, small))).0.1

whole_read : (s : ℕ) → s < 2 ^ 32 → moment_in (decimal s) ≡ Ok (time s 0)
whole_read s small =
    ap (λ (parts : List ℕ × Option (List ℕ)). after_point parts.0 parts.1) (cut_none 46 (decimal s) (free 46 s (omega arith) small))
    ∙ ap (λ (parts : List ℕ × Option (List ℕ)). after_plus parts.0 parts.1) (cut_none 43 (decimal s) (free 43 s (omega arith) small))
    ∙ ap (λ (r : Result ℕ Cause). moment_of r (Ok 0)) (seconds_read s small)

point_read : (s n : ℕ) → s < 2 ^ 32 → n < 1000000000 → moment_in (decimal s ++ codes "." ++ nine_digits n) ≡ Ok (time s n)
point_read s n small few =
    ap (λ (parts : List ℕ × Option (List ℕ)). after_point parts.0 parts.1)
    (ap (cut 46) (append_assoc (decimal s) (codes ".") (nine_digits n)) ∙ cut_at 46 (decimal s) (nine_digits n) (free 46 s (omega arith) small))
    ∙ ap (λ (r : Result ℕ Cause). moment_of r (fraction_in (nine_digits n))) (seconds_read s small)
    ∙ ap (λ (r : Result ℕ Cause). moment_of (Ok s) r) (fraction_read n few)

plus_read : (s n : ℕ) → s < 2 ^ 32 → n < 2 ^ 32 → moment_in (decimal s ++ codes "+" ++ decimal n) ≡ Ok (time s n)
plus_read s n small fits =
    ap (λ (parts : List ℕ × Option (List ℕ)). after_point parts.0 parts.1) (cut_none 46 (decimal s ++ codes "+" ++ decimal n)
    (append_free 46 (decimal s ++ codes "+") (decimal n) (append_free 46 (decimal s) (codes "+") (free 46 s (omega arith) small) refl) (free 46 n (omega arith) fits)))
    ∙ ap (λ (parts : List ℕ × Option (List ℕ)). after_plus parts.0 parts.1)
    (ap (cut 43) (append_assoc (decimal s) (codes "+") (decimal n)) ∙ cut_at 43 (decimal s) (decimal n) (free 43 s (omega arith) small))
    ∙ ap (λ (r : Result ℕ Cause). moment_of r (number_in 0 4294967295 (decimal n))) (seconds_read s small)
    ∙ ap (λ (r : Result ℕ Cause). moment_of (Ok s) r) (seconds_read n fits)

pub moment_read : (m : Moment) → IsTime m → moment_in (moment_text m) ≡ Ok m
moment_read m is = by_tests (nat_eq m.nanos 0) (nat_lt m.nanos 1000000000) (grind (arith, nat_tests)) (grind (arith, nat_tests))
  where
    by_tests : (t u : Bool) → (t ≡ true → m.nanos ≡ 0) → (u ≡ true → m.nanos < 1000000000)
        → moment_in (if t then decimal m.seconds else (if u then decimal m.seconds ++ codes "." ++ nine_digits m.nanos else decimal m.seconds ++ codes "+" ++ decimal m.nanos)) ≡ Ok m
    by_tests true u none few = whole_read m.seconds is.0 ∙ ap (λ (n : ℕ). Ok (time m.seconds n)) (sym (none refl))
    by_tests false true none few = point_read m.seconds m.nanos is.0 (few refl)
    by_tests false false none few = plus_read m.seconds m.nanos is.0 is.1

-- ---- words

decimal_shown : (n : ℕ) → n < 2 ^ 32 → list_all is_shown (decimal n) ≡ true
decimal_shown n small = digits_shown (decimal n) (decimal_is_IsNumeral n (omega (arith, small))).0.1

-- a number, a mark, and more
joint_said : (n : ℕ) (mark more : List ℕ) → n < 2 ^ 32 → list_all is_shown mark ≡ true → list_all is_shown more ≡ true → is_said (decimal n ++ mark ++ more) ≡ true
joint_said n mark more small one two =
    let long = (decimal_is_IsNumeral n (omega (arith, small))).0.0 in
    and_true (nat_lt 0 (length (decimal n ++ mark ++ more))) (list_all is_shown (decimal n ++ mark ++ more))
    (some (length (decimal n ++ mark ++ more)) (omega (arith, long, length-append (decimal n ++ mark) more, length-append (decimal n) mark)))
    (append_shown (decimal n ++ mark) more (append_shown (decimal n) mark (decimal_shown n small) one) two)

pub moment_said : (m : Moment) → IsTime m → is_said (moment_text m) ≡ true
moment_said m is = by_tests (nat_eq m.nanos 0) (nat_lt m.nanos 1000000000)
  where
    by_tests : (t u : Bool)
        → is_said (if t then decimal m.seconds else (if u then decimal m.seconds ++ codes "." ++ nine_digits m.nanos else decimal m.seconds ++ codes "+" ++ decimal m.nanos)) ≡ true
    by_tests true u = let small = is.0 in decimal_said m.seconds (omega (arith, small))
    by_tests false true = joint_said m.seconds (codes ".") (nine_digits m.nanos) is.0 refl (digits_shown (nine_digits m.nanos) (nine_all m.nanos))
    by_tests false false = joint_said m.seconds (codes "+") (decimal m.nanos) is.0 refl (decimal_shown m.nanos is.1)
