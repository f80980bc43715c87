-- CRC-32C, byte by byte.
use Rattle.std.proofs.Common.{◌≡◌, ℕ, zero, suc, ◌+◌, ◌*◌, ◌/◌, ◌%◌, ◌^◌, ◌<◌, List, [], ◌∷◌, ◌++◌, take, drop, take-add, take-append-drop, length, map, bit_xor, refl, sym, ap, ◌∙◌, arith}
use Rattle.std.proofs.Math.ListN.{get_or}
use Rattle.std.proofs.lemmas.List.{take_all, take_more}
use Rattle.std.specs.List.{range_with_len}
use Rattle.std.specs.Int.{to_le_bytes, w32}
use Rattle.std.specs.Simd.{first_chunks}
use Rattle.std.proofs.lemmas.List.FromFn.{get_or-map-range_with_len}
use Rattle.std.proofs.lemmas.Nat.{xor_block, xor_comm, xor_mod, xor_shr}
use Rattle.std.specs.Int.Bits.{xor_assoc, xor_zero_l, xor_zero_r}
use Rattle.nfs_checksum.specs.Checksums.{polynomial, after_bit, after_eight, after_eights, after_blocks, after_bytes, crc32c, KnowsExamples}

-- ---- bytes

bytes_more : (n : ℕ) (xs ys : List ℕ) → after_bytes n (xs ++ ys) ≡ after_bytes (after_bytes n xs) ys
unfolding after_bytes
bytes_more n [] ys = refl
bytes_more n (x ∷ xs) ys = bytes_more (after_eight (bit_xor n x)) xs ys

pub none_yet : (n : ℕ) → after_bytes n [] ≡ n
unfolding after_bytes
none_yet n = refl

one_byte : (n byte : ℕ) → after_bytes n (byte ∷ []) ≡ after_eight (bit_xor n byte)
unfolding after_bytes
one_byte n byte = refl

pub byte_more : (n : ℕ) (xs : List ℕ) (i d : ℕ) → i < length xs → after_bytes n (take (i + 1) xs) ≡ after_eight (bit_xor (after_bytes n (take i xs)) (get_or xs i d))
byte_more n xs i d less = ap (after_bytes n) (take_more xs i d less) ∙ bytes_more n (take i xs) (get_or xs i d ∷ []) ∙ one_byte (after_bytes n (take i xs)) (get_or xs i d)

-- ---- blocks of bytes

blocks_more : (n : ℕ) (xs ys : List (List ℕ)) → after_blocks n (xs ++ ys) ≡ after_blocks (after_blocks n xs) ys
unfolding after_blocks
blocks_more n [] ys = refl
blocks_more n (x ∷ xs) ys = blocks_more (after_bytes n x) xs ys

pub no_block : (n : ℕ) → after_blocks n [] ≡ n
unfolding after_blocks
no_block n = refl

one_block : (n : ℕ) (block : List ℕ) → after_blocks n (block ∷ []) ≡ after_bytes n block
unfolding after_blocks
one_block n block = refl

block_more : (n : ℕ) (blocks : List (List ℕ)) (i : ℕ) (d : List ℕ) → i < length blocks → after_blocks n (take (i + 1) blocks) ≡ after_bytes (after_blocks n (take i blocks)) (get_or blocks i d)
block_more n blocks i d less = ap (after_blocks n) (take_more blocks i d less) ∙ blocks_more n (take i blocks) (get_or blocks i d ∷ []) ∙ one_block (after_blocks n (take i blocks)) (get_or blocks i d)

-- so many blocks of eight are the first bytes
first_blocks : (n k : ℕ) (bytes : List ℕ) → after_blocks n (first_chunks 8 k bytes) ≡ after_bytes n (take (k * 8) bytes)
unfolding after_blocks
first_blocks n zero bytes = sym (none_yet n)
first_blocks n (suc k) bytes =
    first_blocks (after_bytes n (take 8 bytes)) k (drop 8 bytes) ∙ sym (bytes_more n (take 8 bytes) (take (k * 8) (drop 8 bytes)))
    ∙ ap (after_bytes n) (sym (take-add 8 (k * 8) bytes) ∙ ap (λ i. take i bytes) (omega arith))

pub block_on : (n crc : ℕ) (blocks : List (List ℕ)) (i : ℕ) (d : List ℕ) → crc ≡ after_blocks n (take i blocks) → i < length blocks → after_bytes crc (get_or blocks i d) ≡ after_blocks n (take (i + 1) blocks)
block_on n crc blocks i d e less = ap (λ m. after_bytes m (get_or blocks i d)) e ∙ sym (block_more n blocks i d less)

-- the blocks and what is left of the bytes
pub in_blocks : (bytes rest : List ℕ) (blocks : List (List ℕ)) (crc last : ℕ) → crc ≡ after_blocks 0xFFFFFFFF blocks → last ≡ after_bytes crc rest
    → blocks ≡ first_chunks 8 (length bytes / 8) bytes → rest ≡ drop (length bytes / 8 * 8) bytes → bit_xor last 0xFFFFFFFF ≡ crc32c bytes
unfolding crc32c
in_blocks bytes rest blocks crc last c l e f =
    let n = length bytes / 8 * 8 in
    ap (λ m. bit_xor m 0xFFFFFFFF)
    (l ∙ ap (λ m. after_bytes m rest) (c ∙ ap (after_blocks 0xFFFFFFFF) e ∙ first_blocks 0xFFFFFFFF (length bytes / 8) bytes) ∙ ap (after_bytes (after_bytes 0xFFFFFFFF (take n bytes))) f
    ∙ sym (bytes_more 0xFFFFFFFF (take n bytes) (drop n bytes)) ∙ ap (after_bytes 0xFFFFFFFF) (take-append-drop n bytes))

-- ---- eight bits at once

-- the sum of four, in another order
medial : (a b c d : ℕ) → bit_xor (bit_xor a b) (bit_xor c d) ≡ bit_xor (bit_xor a c) (bit_xor b d)
medial a b c d =
    xor_assoc a b (bit_xor c d)
    ∙ ap (bit_xor a) (sym (xor_assoc b c d) ∙ ap (λ n. bit_xor n d) (xor_comm b c) ∙ xor_assoc c b d)
    ∙ sym (xor_assoc a c (bit_xor b d))

-- whether the polynomial comes in
digits : (r s : ℕ) → r < 2 → s < 2 → bit_xor r s * polynomial ≡ bit_xor (r * polynomial) (s * polynomial)
digits zero zero a b = refl
digits zero (suc zero) a b = refl
digits (suc zero) zero a b = refl
digits (suc zero) (suc zero) a b = refl
digits zero (suc (suc s)) a b = absurd (omega (arith, b))
digits (suc zero) (suc (suc s)) a b = absurd (omega (arith, b))
digits (suc (suc r)) s a b = absurd (omega (arith, a))

bit_sum : (a b : ℕ) → after_bit (bit_xor a b) ≡ bit_xor (after_bit a) (after_bit b)
unfolding after_bit
bit_sum a b =
    ap (λ n. bit_xor n (bit_xor a b % 2 * polynomial)) (xor_shr a b 1)
    ∙ ap (λ n. bit_xor (bit_xor (a / 2) (b / 2)) (n * polynomial)) (xor_mod a b 1)
    ∙ ap (bit_xor (bit_xor (a / 2) (b / 2))) (digits (a % 2) (b % 2) (omega arith) (omega arith))
    ∙ medial (a / 2) (b / 2) (a % 2 * polynomial) (b % 2 * polynomial)

-- of two numbers that sum up, one bit more
sum_more : (n x y : ℕ) → n ≡ bit_xor x y → after_bit n ≡ bit_xor (after_bit x) (after_bit y)
sum_more n x y e = ap after_bit e ∙ bit_sum x y

eight_sum : (a b : ℕ) → after_eight (bit_xor a b) ≡ bit_xor (after_eight a) (after_eight b)
unfolding after_eight
eight_sum a b = sum_more _ _ _ (sum_more _ _ _ (sum_more _ _ _ (sum_more _ _ _ (sum_more _ _ _ (sum_more _ _ _ (sum_more _ _ _ (sum_more (bit_xor a b) a b refl)))))))

-- a zero that goes out brings nothing in
even_bit : (n : ℕ) → after_bit (n * 2) ≡ n
unfolding after_bit
even_bit n =
    let half : n * 2 / 2 ≡ n = omega arith in
    let none : n * 2 % 2 ≡ 0 = omega arith in
    ap (λ m. bit_xor m (n * 2 % 2 * polynomial)) half ∙ ap (λ m. bit_xor n (m * polynomial)) none ∙ xor_zero_r n

low_zero : (m k n : ℕ) → m ≡ k → k ≡ n * 2 → after_bit m ≡ n
low_zero m k n e f = ap after_bit (e ∙ f) ∙ even_bit n

high_eight : (n : ℕ) → after_eight (n * 256) ≡ n
unfolding after_eight
high_eight n =
    low_zero _ (n * 2) n (low_zero _ (n * 4) (n * 2) (low_zero _ (n * 8) (n * 4) (low_zero _ (n * 16) (n * 8)
    (low_zero _ (n * 32) (n * 16) (low_zero _ (n * 64) (n * 32) (low_zero _ (n * 128) (n * 64) (low_zero (n * 256) (n * 256) (n * 128) refl
    (omega arith)) (omega arith)) (omega arith)) (omega arith)) (omega arith)) (omega arith)) (omega arith)) refl

-- a number is the sum of its high bits and its low ones
parts_of : (high low n : ℕ) → low < 256 → n ≡ high * 256 + low → bit_xor (high * 256) low ≡ n
parts_of high low n less e =
    let a : high * 256 ≡ high * 2 ^ 8 + 0 = omega arith in
    let b : low ≡ 0 * 2 ^ 8 + low = omega arith in
    ap (λ m. bit_xor m low) a ∙ ap (bit_xor (high * 2 ^ 8 + 0)) b ∙ xor_block 8 high 0 0 low (omega arith) (omega (arith, less))
    ∙ ap (λ m. m * 2 ^ 8 + bit_xor 0 low) (xor_zero_r high) ∙ ap (λ m. high * 2 ^ 8 + m) (xor_zero_l low) ∙ omega (arith, e)

-- The high bits go down by eight, and a byte of the low ones is looked up.
pub eight_by_byte : (n byte : ℕ) → after_eight (bit_xor n byte) ≡ bit_xor (n / 256) (after_eight (bit_xor (n % 256) byte))
eight_by_byte n byte =
    ap (λ m. after_eight (bit_xor m byte)) (sym parts) ∙ ap after_eight (xor_assoc (n / 256 * 256) (n % 256) byte)
    ∙ eight_sum (n / 256 * 256) (bit_xor (n % 256) byte) ∙ ap (λ m. bit_xor m (after_eight (bit_xor (n % 256) byte))) (high_eight (n / 256))
  where
    parts : bit_xor (n / 256 * 256) (n % 256) ≡ n
    parts = parts_of (n / 256) (n % 256) n (omega arith) (omega arith)

pub byte_by_byte : (n byte r : ℕ) → r ≡ after_eights 1 (bit_xor (n % 256) byte) → bit_xor (n / 256) r ≡ after_eight (bit_xor n byte)
unfolding after_eights
byte_by_byte n byte r e = ap (bit_xor (n / 256)) e ∙ sym (eight_by_byte n byte)

-- ---- eight bytes at once

-- the remainders of these numbers, with so many bytes after the first one and one more after each further one
looked_up : ℕ → List ℕ → ℕ
looked_up k [] = 0
looked_up k (n ∷ ns) = bit_xor (after_eights k n) (looked_up (suc k) ns)

eight_of_zero : after_eight 0 ≡ 0
unfolding after_bit after_eight
eight_of_zero = refl

-- with one byte more after each
one_after : (k : ℕ) (ns : List ℕ) → after_eight (looked_up k ns) ≡ looked_up (suc k) ns
unfolding after_eights looked_up
one_after k [] = eight_of_zero
one_after k (n ∷ ns) = eight_sum (after_eights k n) (looked_up (suc k) ns) ∙ ap (bit_xor (after_eight (after_eights k n))) (one_after (suc k) ns)

-- A byte comes where the remainder is a number and what was looked up: the lowest byte of the number is looked up with it.
low_byte : (n s q byte : ℕ) (ns : List ℕ) → s ≡ bit_xor q (looked_up 1 ns) → n ≡ q / 256 → after_eight (bit_xor s byte) ≡ bit_xor n (looked_up 1 (bit_xor (q % 256) byte ∷ ns))
unfolding after_eights looked_up
low_byte n s q byte ns e f =
    let t = looked_up 1 ns in
    ap (λ m. after_eight (bit_xor m byte)) e ∙ ap after_eight (xor_assoc q t byte ∙ ap (bit_xor q) (xor_comm t byte) ∙ sym (xor_assoc q byte t))
    ∙ eight_sum (bit_xor q byte) t ∙ ap (λ m. bit_xor m (after_eight t)) (eight_by_byte q byte)
    ∙ xor_assoc (q / 256) (after_eight (bit_xor (q % 256) byte)) (after_eight t) ∙ ap (λ m. bit_xor m (bit_xor (after_eight (bit_xor (q % 256) byte)) (after_eight t))) (sym f)
    ∙ ap (λ m. bit_xor n (bit_xor (after_eight (bit_xor (q % 256) byte)) m)) (one_after 1 ns)

-- the same where nothing is left of the number
high_byte : (s byte : ℕ) (ns : List ℕ) → s ≡ looked_up 1 ns → after_eight (bit_xor s byte) ≡ looked_up 1 (byte ∷ ns)
unfolding after_eights looked_up
high_byte s byte ns e =
    ap (λ m. after_eight (bit_xor m byte)) e ∙ ap after_eight (xor_comm (looked_up 1 ns) byte) ∙ eight_sum byte (looked_up 1 ns) ∙ ap (bit_xor (after_eight byte)) (one_after 1 ns)

module _ (n : ℕ) (block : List ℕ) (len : length block ≡ 8) (fits : n < 2 ^ 32) where
  abbrev pub at : ℕ → ℕ
  at i = get_or block i 0

  abbrev after : ℕ → ℕ
  after i = after_bytes n (take i block)

  next : (i : ℕ) → i < 8 → after (i + 1) ≡ after_eight (bit_xor (after i) (at i))
  next i less = byte_more n block i 0 (omega (arith, len, less))

  begun : after 0 ≡ bit_xor n (looked_up 1 [])
  unfolding looked_up
  begun = none_yet n ∙ sym (xor_zero_r n)

  one : after 1 ≡ bit_xor (n / 256) (looked_up 1 (bit_xor (n % 256) (at 0) ∷ []))
  one = next 0 (omega arith) ∙ low_byte _ _ n (at 0) [] begun refl

  two : after 2 ≡ bit_xor (n / 256 ^ 2) (looked_up 1 (bit_xor (n / 256 % 256) (at 1) ∷ bit_xor (n % 256) (at 0) ∷ []))
  two = next 1 (omega arith) ∙ low_byte _ _ (n / 256) (at 1) _ one (omega arith)

  three : after 3 ≡ bit_xor (n / 256 ^ 3) (looked_up 1 (bit_xor (n / 256 ^ 2 % 256) (at 2) ∷ bit_xor (n / 256 % 256) (at 1) ∷ bit_xor (n % 256) (at 0) ∷ []))
  three = next 2 (omega arith) ∙ low_byte _ _ (n / 256 ^ 2) (at 2) _ two (omega arith)

  four : after 4 ≡ looked_up 1 (bit_xor (n / 256 ^ 3 % 256) (at 3) ∷ bit_xor (n / 256 ^ 2 % 256) (at 2) ∷ bit_xor (n / 256 % 256) (at 1) ∷ bit_xor (n % 256) (at 0) ∷ [])
  four = next 3 (omega arith) ∙ low_byte 0 _ (n / 256 ^ 3) (at 3) _ three (omega (arith, fits)) ∙ xor_zero_l _

  five : after 5 ≡ looked_up 1 (at 4 ∷ bit_xor (n / 256 ^ 3 % 256) (at 3) ∷ bit_xor (n / 256 ^ 2 % 256) (at 2) ∷ bit_xor (n / 256 % 256) (at 1) ∷ bit_xor (n % 256) (at 0) ∷ [])
  five = next 4 (omega arith) ∙ high_byte _ (at 4) _ four

  six : after 6 ≡ looked_up 1 (at 5 ∷ at 4 ∷ bit_xor (n / 256 ^ 3 % 256) (at 3) ∷ bit_xor (n / 256 ^ 2 % 256) (at 2) ∷ bit_xor (n / 256 % 256) (at 1) ∷ bit_xor (n % 256) (at 0) ∷ [])
  six = next 5 (omega arith) ∙ high_byte _ (at 5) _ five

  seven : after 7 ≡ looked_up 1 (at 6 ∷ at 5 ∷ at 4 ∷ bit_xor (n / 256 ^ 3 % 256) (at 3) ∷ bit_xor (n / 256 ^ 2 % 256) (at 2) ∷ bit_xor (n / 256 % 256) (at 1) ∷ bit_xor (n % 256) (at 0) ∷ [])
  seven = next 6 (omega arith) ∙ high_byte _ (at 6) _ six

  eight : after_bytes n block ≡ looked_up 1 (at 7 ∷ at 6 ∷ at 5 ∷ at 4 ∷ bit_xor (n / 256 ^ 3 % 256) (at 3) ∷ bit_xor (n / 256 ^ 2 % 256) (at 2) ∷ bit_xor (n / 256 % 256) (at 1) ∷ bit_xor (n % 256) (at 0) ∷ [])
  eight = ap (after_bytes n) (sym (take_all 8 block (omega (arith, len)))) ∙ next 7 (omega arith) ∙ high_byte _ (at 7) _ seven

  -- what is looked up for each of them, with the bytes of the number
  pub by_rows : (before : List ℕ) (h g f e d c b a : ℕ) → before ≡ to_le_bytes w32 n → h ≡ after_eights 1 (at 7) → g ≡ after_eights 2 (at 6) → f ≡ after_eights 3 (at 5) → e ≡ after_eights 4 (at 4)
      → d ≡ after_eights 5 (bit_xor (get_or before 3 0) (at 3)) → c ≡ after_eights 6 (bit_xor (get_or before 2 0) (at 2)) → b ≡ after_eights 7 (bit_xor (get_or before 1 0) (at 1)) → a ≡ after_eights 8 (bit_xor (get_or before 0 0) (at 0))
      → bit_xor h (bit_xor g (bit_xor f (bit_xor e (bit_xor d (bit_xor c (bit_xor b a)))))) ≡ after_bytes n block
  unfolding looked_up
  by_rows before h g f e d c b a is hs gs fs es ds cs bs zs =
      both hs (both gs (both fs (both es (both (ds ∙ with_byte 5 3) (both (cs ∙ with_byte 6 2) (both (bs ∙ with_byte 7 1) (zs ∙ with_byte 8 0 ∙ sym (xor_zero_r (after_eights 8 (bit_xor (n % 256) (at 0)))))))))))
      ∙ sym eight
    where
      both : {x y u v : ℕ} → x ≡ y → u ≡ v → bit_xor x u ≡ bit_xor y v
      both {x} {y} {u} {v} p q = ap (λ m. bit_xor m u) p ∙ ap (bit_xor y) q

      with_byte : (k i : ℕ) → after_eights k (bit_xor (get_or before i 0) (at i)) ≡ after_eights k (bit_xor (get_or (to_le_bytes w32 n) i 0) (at i))
      with_byte k i = ap (λ bytes. after_eights k (bit_xor (get_or bytes i 0) (at i))) is

-- ---- tables

-- the remainders of all bytes in their order, with so many zeros after each
abbrev row : ℕ → List ℕ
row zeros = map (after_eights (zeros + 1)) (range_with_len 0 256)

-- in the order of how many zeros follow
abbrev pub rows : List (List ℕ)
rows = map row (range_with_len 0 8)

pub of_rows : (zeros byte : ℕ) (none : List ℕ) → zeros < 8 → byte < 256 → get_or (get_or rows zeros none) byte 0 ≡ after_eights (zeros + 1) byte
of_rows zeros byte none few less =
    ap (λ r. get_or r byte 0) (get_or-map-range_with_len row 0 8 zeros zeros none few (omega arith))
    ∙ get_or-map-range_with_len (after_eights (zeros + 1)) 0 256 byte byte 0 less (omega arith)

pub knows_examples : KnowsExamples
unfolding after_bit after_eight after_bytes crc32c
knows_examples = record { zeros = refl; ones = refl; rising = refl }
