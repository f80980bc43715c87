-- Patterns, as they are written and read.
use Rattle.std.proofs.Common.{◌≡◌, ℕ, ◌/◌, ◌%◌, ◌<◌, ◌≤◌, ◌^◌, Bool, true, false, not, ◌&&◌, ◌==◌, nat_eq, List, [], ◌∷◌, ◌++◌, length, Option, Some, None, option_map, refl, sym, ap, ◌∙◌, append_assoc, arith}
use Rattle.std.specs.Prelude.{codes, decimal, nat_lt, bytes_eq, if◌then◌else◌}
use Rattle.std.specs.Int.{w32, from_be_bytes}
use Rattle.std.specs.List.{list_all}
use Rattle.std.proofs.lemmas.Bool.Decides.{nat_tests}
use Rattle.std.proofs.lemmas.List.{length-append}
use Rattle.std.proofs.lemmas.Fmt.{decimal_is_IsNumeral, length-decimal-le}
use Rattle.nfs_text.specs.Numbers.{decimal_of}
use Rattle.nfs_text.specs.Chunks.{cut, chunks}
use Rattle.nfs_exports.specs.Addresses.{◌>>=◌, addr_text, address_of, number_of_parts, number_of_chunks, part}
use Rattle.nfs_exports.specs.Patterns.{any, bits, bits_or_all, network_of, pattern_of}
use Rattle.nfs_exports.specs.declared.addr.Addr.{Addr}
use Rattle.nfs_exports.specs.declared.pattern.Pattern.{Pattern}
use Rattle.nfs_describe.specs.Lines.{is_shown, pattern_text}
use Rattle.nfs_read_back.proofs.Digits.{and_true, decimal_of_decimal, decimal_said}
use Rattle.nfs_read_back.specs.ReadBack.{is_said}
use Rattle.nfs_read_back.proofs.Words.{both}
use Rattle.nfs_read_back.proofs.Separators.{append_free, append_shown, cut_at, cut_none, digits_free, is_free, last_chunk, chunk_ends}

not_above : (m n : ℕ) → n ≤ m → nat_lt m n ≡ false
not_above m n le = grind (arith, nat_tests)

part_read : (n : ℕ) → n < 256 → part (decimal n) ≡ Some n
part_read n small =
    ap (λ b. if b then None else decimal_of 255 (decimal n)) (not_above 3 (length (decimal n)) (length-decimal-le 3 n (omega arith) (omega (arith, small)) (omega (arith, small))))
    ∙ decimal_of_decimal 255 n (omega (arith, small)) (omega (arith, small))

parts_read : (a b c d : ℕ) → a < 256 → b < 256 → c < 256 → d < 256 → number_of_parts (decimal a) (decimal b) (decimal c) (decimal d) ≡ Some (from_be_bytes w32 (a ∷ b ∷ c ∷ d ∷ []))
parts_read a b c d a_small b_small c_small d_small =
    ap (λ (o : Option ℕ). o >>= (λ (a : ℕ). part (decimal b) >>= (λ (b : ℕ). part (decimal c) >>= (λ (c : ℕ). part (decimal d) >>= (λ (d : ℕ). Some (from_be_bytes w32 (a ∷ b ∷ c ∷ d ∷ []))))))) (part_read a a_small)
    ∙ ap (λ (o : Option ℕ). o >>= (λ (b : ℕ). part (decimal c) >>= (λ (c : ℕ). part (decimal d) >>= (λ (d : ℕ). Some (from_be_bytes w32 (a ∷ b ∷ c ∷ d ∷ [])))))) (part_read b b_small)
    ∙ ap (λ (o : Option ℕ). o >>= (λ (c : ℕ). part (decimal d) >>= (λ (d : ℕ). Some (from_be_bytes w32 (a ∷ b ∷ c ∷ d ∷ []))))) (part_read c c_small)
    ∙ ap (λ (o : Option ℕ). o >>= (λ (d : ℕ). Some (from_be_bytes w32 (a ∷ b ∷ c ∷ d ∷ [])))) (part_read d d_small)

dotted : (a b c d s : List ℕ) → a ++ s ++ b ++ s ++ c ++ s ++ d ≡ a ++ (s ++ (b ++ (s ++ (c ++ (s ++ d)))))
dotted a b c d s = simp append_assoc

digits_of : (separator n : ℕ) → separator < 48 → n < 2 ^ 64 → list_all (λ byte. not (byte == separator)) (decimal n) ≡ true
digits_of separator n low small = digits_free separator (decimal n) low (decimal_is_IsNumeral n small).0.1

four_chunks : (a b c d : ℕ) → a < 256 → b < 256 → c < 256 → d < 256 → chunks 46 (decimal a ++ codes "." ++ decimal b ++ codes "." ++ decimal c ++ codes "." ++ decimal d) ≡ decimal a ∷ decimal b ∷ decimal c ∷ decimal d ∷ []
four_chunks a b c d a_small b_small c_small d_small =
    ap (chunks 46) (dotted (decimal a) (decimal b) (decimal c) (decimal d) (codes "."))
    ∙ chunk_ends 46 (decimal a) (decimal b ++ 46 ∷ (decimal c ++ 46 ∷ decimal d)) (digits_of 46 a (omega arith) (omega (arith, a_small)))
    ∙ ap (λ l. decimal a ∷ l) (chunk_ends 46 (decimal b) (decimal c ++ 46 ∷ decimal d) (digits_of 46 b (omega arith) (omega (arith, b_small)))
    ∙ ap (λ l. decimal b ∷ l) (chunk_ends 46 (decimal c) (decimal d) (digits_of 46 c (omega arith) (omega (arith, c_small)))
    ∙ ap (λ l. decimal c ∷ l) (last_chunk 46 (decimal d) (digits_of 46 d (omega arith) (omega (arith, d_small))))))

bytes_of : (n : ℕ) → n < 2 ^ 32 → from_be_bytes w32 (n / 16777216 ∷ n / 65536 % 256 ∷ n / 256 % 256 ∷ n % 256 ∷ []) ≡ n
bytes_of n small = omega (arith, small)

number_read : (n : ℕ) → n < 2 ^ 32 → number_of_chunks (chunks 46 (decimal (n / 16777216) ++ codes "." ++ decimal (n / 65536 % 256) ++ codes "." ++ decimal (n / 256 % 256) ++ codes "." ++ decimal (n % 256))) ≡ Some n
number_read n small =
    let first : n / 16777216 < 256 = omega (arith, small) in
    ap number_of_chunks (four_chunks (n / 16777216) (n / 65536 % 256) (n / 256 % 256) (n % 256) first (omega arith) (omega arith) (omega arith))
    ∙ parts_read (n / 16777216) (n / 65536 % 256) (n / 256 % 256) (n % 256) first (omega arith) (omega arith) (omega arith)
    ∙ ap Some (bytes_of n small)

pub address_read : (a : Addr) → a.0 < 2 ^ 32 → address_of (addr_text a) ≡ Some a
address_read a small = ap (option_map (λ n. record { 0 = n })) (number_read a.0 small)

-- ---- patterns

false_or : (b : Bool) → (b && false) ≡ false
false_or true = refl
false_or false = refl

not_star : (text : List ℕ) → 1 < length text → bytes_eq text (42 ∷ []) ≡ false
not_star [] long = absurd (omega (arith, long))
not_star (x ∷ []) long = absurd (omega (arith, long))
not_star (x ∷ y ∷ text) long = false_or (nat_eq x 42)

some_digits : (n : ℕ) → n < 2 ^ 64 → 0 < length (decimal n)
some_digits n small = (decimal_is_IsNumeral n small).0.0

text_is_long : (a b c d s : List ℕ) → 0 < length a → 0 < length s → 1 < length (a ++ s ++ b ++ s ++ c ++ s ++ d)
text_is_long a b c d s one two =
    omega (arith, one, two, length-append (a ++ s ++ b ++ s ++ c ++ s) d, length-append (a ++ s ++ b ++ s ++ c) s, length-append (a ++ s ++ b ++ s) c, length-append (a ++ s ++ b) s, length-append (a ++ s) b, length-append a s)

address_is_long : (n : ℕ) → n < 2 ^ 32 → 1 < length (decimal (n / 16777216) ++ codes "." ++ decimal (n / 65536 % 256) ++ codes "." ++ decimal (n / 256 % 256) ++ codes "." ++ decimal (n % 256))
address_is_long n small = text_is_long (decimal (n / 16777216)) (decimal (n / 65536 % 256)) (decimal (n / 256 % 256)) (decimal (n % 256)) (codes ".") (some_digits (n / 16777216) (omega (arith, small))) (omega arith)

seven_free : (separator : ℕ) (a b c d s : List ℕ) → is_free separator a ≡ true → is_free separator b ≡ true → is_free separator c ≡ true → is_free separator d ≡ true → is_free separator s ≡ true
    → is_free separator (a ++ s ++ b ++ s ++ c ++ s ++ d) ≡ true
seven_free separator a b c d s fa fb fc fd fs =
    append_free separator (a ++ s ++ b ++ s ++ c ++ s) d (append_free separator (a ++ s ++ b ++ s ++ c) s (append_free separator (a ++ s ++ b ++ s) c (append_free separator (a ++ s ++ b) s
    (append_free separator (a ++ s) b (append_free separator a s fa fs) fb) fs) fc) fs) fd

address_free : (n : ℕ) → n < 2 ^ 32 → is_free 47 (decimal (n / 16777216) ++ codes "." ++ decimal (n / 65536 % 256) ++ codes "." ++ decimal (n / 256 % 256) ++ codes "." ++ decimal (n % 256)) ≡ true
address_free n small = seven_free 47 (decimal (n / 16777216)) (decimal (n / 65536 % 256)) (decimal (n / 256 % 256)) (decimal (n % 256)) (codes ".")
    (digits_of 47 (n / 16777216) (omega arith) (omega (arith, small))) (digits_of 47 (n / 65536 % 256) (omega arith) (omega arith))
    (digits_of 47 (n / 256 % 256) (omega arith) (omega arith)) (digits_of 47 (n % 256) (omega arith) (omega arith)) refl

bits_read : (n : ℕ) → n ≤ 32 → bits (decimal n) ≡ Some n
bits_read n few =
    ap (λ b. if b then None else decimal_of 32 (decimal n)) (not_above 2 (length (decimal n)) (length-decimal-le 2 n (omega arith) (omega (arith, few)) (omega (arith, few))))
    ∙ decimal_of_decimal 32 n few (omega (arith, few))

network_read : (text : List ℕ) (a : Addr) (n : ℕ) (after : Option (List ℕ)) → address_of text ≡ Some a → bits_or_all after ≡ Some n → network_of (text, after) ≡ Some (record { address = a; bits = n })
network_read text a n after address number =
    ap (λ (o : Option Addr). o >>= (λ (address : Addr). bits_or_all after >>= (λ (bits : ℕ). Some (record { address = address; bits = bits })))) address
    ∙ ap (λ (o : Option ℕ). o >>= (λ (bits : ℕ). Some (record { address = a; bits = bits }))) number

of_text : (text : List ℕ) (parts : List ℕ × Option (List ℕ)) → 1 < length text → cut 47 text ≡ parts → pattern_of text ≡ network_of parts
of_text text parts long is = ap (λ b. if b then Some any else network_of (cut 47 text)) (not_star text long) ∙ ap network_of is

any_is : (p : Pattern) → p.bits ≡ 0 → p.address.0 ≡ 0 → any ≡ p
any_is p bits address = ap (λ n. record { address = record { 0 = n }; bits = 0 }) (sym address) ∙ ap (λ n. record { address = p.address; bits = n }) (sym bits)

longer : (text more : List ℕ) → 1 < length text → 1 < length (text ++ more)
longer text more long = omega (arith, long, length-append text more)

pub pattern_read : (p : Pattern) → p.bits ≤ 32 → p.address.0 < 2 ^ 32 → pattern_of (pattern_text p) ≡ Some p
pattern_read p few small = by_tests (nat_eq p.bits 0 && nat_eq p.address.0 0) (nat_eq p.bits 32) (grind (arith, nat_tests)) (grind (arith, nat_tests)) (grind (arith, nat_tests))
  where
    by_tests : (t u : Bool) → (t ≡ true → p.bits ≡ 0) → (t ≡ true → p.address.0 ≡ 0) → (u ≡ true → p.bits ≡ 32)
        → pattern_of (if t then codes "*" else (if u then addr_text p.address else addr_text p.address ++ codes "/" ++ decimal p.bits)) ≡ Some p
    by_tests true u none zero all = ap Some (any_is p (none refl) (zero refl))
    by_tests false true none zero all =
        of_text (addr_text p.address) (addr_text p.address, None) (address_is_long p.address.0 small) (cut_none 47 (addr_text p.address) (address_free p.address.0 small))
        ∙ network_read (addr_text p.address) p.address 32 None (address_read p.address small) refl
        ∙ ap (λ n. Some (record { address = p.address; bits = n })) (sym (all refl))
    by_tests false false none zero all =
        of_text (addr_text p.address ++ codes "/" ++ decimal p.bits) (addr_text p.address, Some (decimal p.bits))
        (longer (addr_text p.address ++ codes "/") (decimal p.bits) (longer (addr_text p.address) (codes "/") (address_is_long p.address.0 small)))
        (ap (cut 47) (append_assoc (addr_text p.address) (codes "/") (decimal p.bits)) ∙ cut_at 47 (addr_text p.address) (decimal p.bits) (address_free p.address.0 small))
        ∙ network_read (addr_text p.address) p.address p.bits (Some (decimal p.bits)) (address_read p.address small) (bits_read p.bits few)

-- ---- words

digits_shown : (n : ℕ) → n < 2 ^ 64 → list_all is_shown (decimal n) ≡ true
digits_shown n small = (both (nat_lt 0 (length (decimal n))) (list_all is_shown (decimal n)) (decimal_said n small)).1

seven_shown : (a b c d s : List ℕ) → list_all is_shown a ≡ true → list_all is_shown b ≡ true → list_all is_shown c ≡ true → list_all is_shown d ≡ true → list_all is_shown s ≡ true
    → list_all is_shown (a ++ s ++ b ++ s ++ c ++ s ++ d) ≡ true
seven_shown a b c d s fa fb fc fd fs =
    append_shown (a ++ s ++ b ++ s ++ c ++ s) d (append_shown (a ++ s ++ b ++ s ++ c) s (append_shown (a ++ s ++ b ++ s) c (append_shown (a ++ s ++ b) s
    (append_shown (a ++ s) b (append_shown a s fa fs) fb) fs) fc) fs) fd

address_shown : (n : ℕ) → n < 2 ^ 32 → list_all is_shown (decimal (n / 16777216) ++ codes "." ++ decimal (n / 65536 % 256) ++ codes "." ++ decimal (n / 256 % 256) ++ codes "." ++ decimal (n % 256)) ≡ true
address_shown n small = seven_shown (decimal (n / 16777216)) (decimal (n / 65536 % 256)) (decimal (n / 256 % 256)) (decimal (n % 256)) (codes ".")
    (digits_shown (n / 16777216) (omega (arith, small))) (digits_shown (n / 65536 % 256) (omega arith)) (digits_shown (n / 256 % 256) (omega arith)) (digits_shown (n % 256) (omega arith)) refl

pub said_of : (text : List ℕ) → 1 < length text → list_all is_shown text ≡ true → is_said text ≡ true
said_of text long shown = and_true (nat_lt 0 (length text)) (list_all is_shown text) (grind (arith, nat_tests)) shown

pub pattern_said : (p : Pattern) → p.bits ≤ 32 → p.address.0 < 2 ^ 32 → is_said (pattern_text p) ≡ true
pattern_said p few small = by_tests (nat_eq p.bits 0 && nat_eq p.address.0 0) (nat_eq p.bits 32)
  where
    by_tests : (t u : Bool) → is_said (if t then codes "*" else (if u then addr_text p.address else addr_text p.address ++ codes "/" ++ decimal p.bits)) ≡ true
    by_tests true u = refl
    by_tests false true = said_of (addr_text p.address) (address_is_long p.address.0 small) (address_shown p.address.0 small)
    by_tests false false = said_of (addr_text p.address ++ codes "/" ++ decimal p.bits)
        (longer (addr_text p.address ++ codes "/") (decimal p.bits) (longer (addr_text p.address) (codes "/") (address_is_long p.address.0 small)))
        (append_shown (addr_text p.address ++ codes "/") (decimal p.bits) (append_shown (addr_text p.address) (codes "/") (address_shown p.address.0 small) refl) (digits_shown p.bits (omega (arith, few))))
