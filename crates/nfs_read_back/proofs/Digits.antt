-- Numbers, modes, keys and contents, as they are written and read.
use Rattle.std.proofs.Common.{◌≡◌, ℕ, suc, ◌+◌, ◌-◌, ◌*◌, ◌/◌, ◌%◌, ◌<◌, ◌≤◌, ◌^◌, Bool, true, false, ◌&&◌, List, [], ◌∷◌, length, slice_index, nat_eq, ◌==◌, Some, None, Ok, refl, sym, ap, subst, ◌∙◌, arith}
use Rattle.std.specs.Prelude.{Err, codes, decimal, nat_le, nat_lt, bytes_eq, if◌then◌else◌}
use Rattle.std.specs.Char.{digit_value, is_ascii_digit}
use Rattle.std.specs.List.{list_all}
use Rattle.std.specs.Str.Parse.{AllDigits, digits_value}
use Rattle.std.proofs.lemmas.Bool.Decides.{nat_tests}
use Rattle.std.proofs.lemmas.Fmt.{decimal_is_IsNumeral}
use Rattle.hex.specs.Hex.{IsBytes, decode_of, decode_pairs, decode_sized, encode_lower, encode_with, hex_digit_value, lower_digits}
use Rattle.hex.specs.declared.error.FromHexError.TheVariants.{OddLength, InvalidStringLength}
use Rattle.hex.proofs.HexLemmas.{IsDigits-lower_digits, decode_of-encode_lower, decode_pairs-encode_with, length-encode_with}
use Rattle.nfs_text.specs.Numbers.{decimal_of}
use Rattle.nfs_load.specs.Fields.{at_least, content_in, is_octal_digit, key_in, keyed, mode_in, number_in, within}
use Rattle.nfs_load.specs.Listings.{octal}
use Rattle.nfs_load.specs.declared.cause.Cause.TheVariants.{BadContent, BadNumber}
use Rattle.nfs_describe.specs.Lines.{content_text, is_shown}
use Rattle.nfs_read_back.specs.ReadBack.{is_said}

pub and_true : (a b : Bool) → a ≡ true → b ≡ true → (a && b) ≡ true
and_true true b one two = two
and_true false b one two = one

-- ---- decimal digits

shown_digit : (c : ℕ) → digit_value c < 10 → is_shown c ≡ true
shown_digit c digit = grind (arith, nat_tests)

ascii_digit : (c : ℕ) → digit_value c < 10 → is_ascii_digit c ≡ true
ascii_digit c digit = grind (arith, nat_tests)

pub digits_shown : (ds : List ℕ) → AllDigits 10 ds → list_all is_shown ds ≡ true
digits_shown [] all = refl
digits_shown (c ∷ ds) all = and_true (is_shown c) (list_all is_shown ds) (shown_digit c all.0) (digits_shown ds all.1)

pub digits_ascii : (ds : List ℕ) → AllDigits 10 ds → list_all is_ascii_digit ds ≡ true
digits_ascii [] all = refl
digits_ascii (c ∷ ds) all = and_true (is_ascii_digit c) (list_all is_ascii_digit ds) (ascii_digit c all.0) (digits_ascii ds all.1)

pub some : (n : ℕ) → 0 < n → nat_lt 0 n ≡ true
some n less = grind (arith, nat_tests)

pub upto : (m n : ℕ) → m ≤ n → nat_le m n ≡ true
upto m n le = grind (arith, nat_tests)

pub decimal_said : (n : ℕ) → n < 2 ^ 64 → is_said (decimal n) ≡ true
decimal_said n small = let d = decimal_is_IsNumeral n small in
    and_true (nat_lt 0 (length (decimal n))) (list_all is_shown (decimal n)) (some (length (decimal n)) d.0.0) (digits_shown (decimal n) d.0.1)

pub decimal_read : (max n : ℕ) (text : List ℕ) → 0 < length text → list_all is_ascii_digit text ≡ true → digits_value 10 text ≡ n → n ≤ max → decimal_of max text ≡ Some n
decimal_read max n text long digits value le =
    ap (λ b. if b then Some (digits_value 10 text) else None)
    (and_true (nat_lt 0 (length text)) (list_all is_ascii_digit text && nat_le (digits_value 10 text) max) (some (length text) long)
    (and_true (list_all is_ascii_digit text) (nat_le (digits_value 10 text) max) digits (upto (digits_value 10 text) max (subst (λ m. m ≤ max) (sym value) le))))
    ∙ ap Some value

pub decimal_of_decimal : (max n : ℕ) → n ≤ max → n < 2 ^ 64 → decimal_of max (decimal n) ≡ Some n
decimal_of_decimal max n high small = let d = decimal_is_IsNumeral n small in decimal_read max n (decimal n) d.0.0 (digits_ascii (decimal n) d.0.1) d.1 high

pub number_read : (min max n : ℕ) → min ≤ n → n ≤ max → n < 2 ^ 64 → number_in min max (decimal n) ≡ Ok n
number_read min max n low high small = let d = decimal_is_IsNumeral n small in
    ap (at_least min) (decimal_read max n (decimal n) d.0.0 (digits_ascii (decimal n) d.0.1) d.1 high)
    ∙ ap (λ b. if b then Ok n else Err BadNumber) (upto min n low)

-- ---- octal digits

octal_digit : (k : ℕ) → k < 8 → is_octal_digit (48 + k) ≡ true
octal_digit k less = grind (arith, nat_tests)

octal_shown : (k : ℕ) → k < 8 → is_shown (48 + k) ≡ true
octal_shown k less = grind (arith, nat_tests)

octal_value : (k : ℕ) → k < 8 → digit_value (48 + k) ≡ k
octal_value k less = grind (arith, nat_tests)

below : (n : ℕ) → n % 8 < 8
below n = omega arith

pub mode_said : (mode : ℕ) → is_said (octal mode) ≡ true
mode_said mode = and_true (is_shown (48 + mode / 512 % 8)) _ (octal_shown (mode / 512 % 8) (below (mode / 512)))
    (and_true (is_shown (48 + mode / 64 % 8)) _ (octal_shown (mode / 64 % 8) (below (mode / 64)))
    (and_true (is_shown (48 + mode / 8 % 8)) _ (octal_shown (mode / 8 % 8) (below (mode / 8)))
    (and_true (is_shown (48 + mode / 1 % 8)) true (octal_shown (mode / 1 % 8) (below (mode / 1))) refl)))

four_digits : (a b c d : ℕ) → a < 8 → b < 8 → c < 8 → d < 8 → mode_in ((48 + a) ∷ (48 + b) ∷ (48 + c) ∷ (48 + d) ∷ []) ≡ Ok (((a * 8 + b) * 8 + c) * 8 + d)
four_digits a b c d a_less b_less c_less d_less =
    ap (λ t. if t then Ok (digits_value 8 ((48 + a) ∷ (48 + b) ∷ (48 + c) ∷ (48 + d) ∷ [])) else Err BadNumber)
    (and_true (is_octal_digit (48 + a)) _ (octal_digit a a_less)
    (and_true (is_octal_digit (48 + b)) _ (octal_digit b b_less)
    (and_true (is_octal_digit (48 + c)) _ (octal_digit c c_less)
    (and_true (is_octal_digit (48 + d)) true (octal_digit d d_less) refl))))
    ∙ ap Ok (value (digit_value (48 + a)) (digit_value (48 + b)) (digit_value (48 + c)) (digit_value (48 + d)) (octal_value a a_less) (octal_value b b_less) (octal_value c c_less) (octal_value d d_less))
  where
    value : (e f g h : ℕ) → e ≡ a → f ≡ b → g ≡ c → h ≡ d → (((0 * 8 + e) * 8 + f) * 8 + g) * 8 + h ≡ ((a * 8 + b) * 8 + c) * 8 + d
    value e f g h p q r s = omega arith

pub mode_read : (mode : ℕ) → mode < 4096 → mode_in (octal mode) ≡ Ok mode
mode_read mode small =
    four_digits (mode / 512 % 8) (mode / 64 % 8) (mode / 8 % 8) (mode / 1 % 8) (below (mode / 512)) (below (mode / 64)) (below (mode / 8)) (below (mode / 1))
    ∙ ap Ok (omega (arith, small))

-- ---- hexadecimal digits

hex_shown : (c d : ℕ) → hex_digit_value c ≡ Some d → is_shown c ≡ true
hex_shown c d is = by_tests (nat_le 65 c && nat_le c 70) (nat_le 97 c && nat_le c 102) (nat_le 48 c && nat_le c 57) (grind (arith, nat_tests)) (grind (arith, nat_tests)) (grind (arith, nat_tests)) is
  where
    by_tests : (p q r : Bool) → (p ≡ true → is_shown c ≡ true) → (q ≡ true → is_shown c ≡ true) → (r ≡ true → is_shown c ≡ true)
        → (if p then Some (c - 55) else if q then Some (c - 87) else if r then Some (c - 48) else None) ≡ Some d → is_shown c ≡ true
    by_tests true q r upper lower digit is = upper refl
    by_tests false true r upper lower digit is = lower refl
    by_tests false false true upper lower digit is = digit refl
    by_tests false false false upper lower digit is = absurd (no is)
      where
        no : None ≡ Some d → ⊥
        no e = cc

encoded_shown : (bytes : List ℕ) → IsBytes bytes → list_all is_shown (encode_with lower_digits bytes) ≡ true
unfolding encode_with
encoded_shown [] all = refl
encoded_shown (b ∷ bytes) all =
    let byte : b < 256 = all 0 in
    let high : b / 16 < 16 = omega (arith, byte) in
    let low : b % 16 < 16 = omega arith in
    and_true (is_shown (slice_index lower_digits (b / 16))) _ (hex_shown (slice_index lower_digits (b / 16)) (b / 16) (IsDigits-lower_digits (b / 16) high))
    (and_true (is_shown (slice_index lower_digits (b % 16))) _ (hex_shown (slice_index lower_digits (b % 16)) (b % 16) (IsDigits-lower_digits (b % 16) low))
    (encoded_shown bytes (λ k. all (suc k))))

encoded_said : (bytes : List ℕ) → IsBytes bytes → 0 < length bytes → is_said (encode_lower bytes) ≡ true
encoded_said bytes all long = and_true (nat_lt 0 (length (encode_lower bytes))) (list_all is_shown (encode_lower bytes))
    (some (length (encode_lower bytes)) (omega (arith, length-encode_with lower_digits bytes, long))) (encoded_shown bytes all)

pub key_said : (key : List ℕ) → IsBytes key → length key ≡ 8 → is_said (encode_lower key) ≡ true
key_said key all long = encoded_said key all (omega (arith, long))

sized : (text bytes : List ℕ) → length text ≡ 16 → decode_pairs 0 text ≡ Ok bytes → decode_sized text 8 ≡ Ok bytes
sized text bytes long pairs = ap (λ n. if n % 2 == 1 then Err OddLength else if n / 2 == 8 then decode_pairs 0 text else Err InvalidStringLength) long ∙ pairs

pub key_read : (key : List ℕ) → IsBytes key → length key ≡ 8 → key_in (encode_lower key) ≡ Ok key
key_read key all long = ap keyed (sized (encode_lower key) key (omega (arith, length-encode_with lower_digits key, long)) (decode_pairs-encode_with lower_digits IsDigits-lower_digits 0 key all))

pub content_said : (bytes : List ℕ) → IsBytes bytes → is_said (content_text bytes) ≡ true
content_said [] all = refl
content_said (b ∷ bytes) all = encoded_said (b ∷ bytes) all (omega arith)

false_or : (b : Bool) → (b && false) ≡ false
false_or true = refl
false_or false = refl

no_dash : (b : ℕ) (bytes : List ℕ) → bytes_eq (encode_lower (b ∷ bytes)) (codes "-") ≡ false
unfolding encode_with
no_dash b bytes = false_or (nat_eq (slice_index lower_digits (b / 16)) 45)

pub content_read : (most : ℕ) (bytes : List ℕ) → IsBytes bytes → length bytes ≤ most → content_in most (content_text bytes) ≡ Ok bytes
content_read most [] all few = refl
content_read most (b ∷ bytes) all few =
    ap (λ t. if t then Ok [] else within most (decode_of (encode_lower (b ∷ bytes)))) (no_dash b bytes)
    ∙ ap (within most) (decode_of-encode_lower (b ∷ bytes) all)
    ∙ ap (λ t. if t then Ok (b ∷ bytes) else Err BadContent) (upto (length (b ∷ bytes)) most few)
