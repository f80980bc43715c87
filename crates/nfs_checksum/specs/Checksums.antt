-- CRC-32C, bit by bit (RFC 3720, section 12.1).
use Rattle.std.specs.List.{range_with_len}
use Rattle.std.specs.Prelude.{◌≡◌, ℕ, zero, suc, ◌*◌, ◌/◌, ◌%◌, List, [], ◌∷◌, bit_xor, replicate}

-- the polynomial, its bits in reverse
abbrev pub polynomial : ℕ
polynomial = 0x82F63B78

-- The remainder after one bit more: the lowest bit goes out, and takes the polynomial off where it is 1.
unfoldable pub after_bit : ℕ → ℕ
after_bit n = bit_xor (n / 2) (n % 2 * polynomial)

-- after eight bits more
unfoldable pub after_eight : ℕ → ℕ
after_eight n = after_bit (after_bit (after_bit (after_bit (after_bit (after_bit (after_bit (after_bit n)))))))

-- after so many times eight bits more
unfoldable pub after_eights : ℕ → ℕ → ℕ
after_eights zero n = n
after_eights (suc k) n = after_eight (after_eights k n)

-- after these bytes
unfoldable pub after_bytes : ℕ → List ℕ → ℕ
after_bytes n [] = n
after_bytes n (byte ∷ bytes) = after_bytes (after_eight (bit_xor n byte)) bytes

-- after these blocks of bytes
unfoldable pub after_blocks : ℕ → List (List ℕ) → ℕ
after_blocks n [] = n
after_blocks n (block ∷ blocks) = after_blocks (after_bytes n block) blocks

-- It begins with 32 ones, and all bits are turned over at the end.
unfoldable pub crc32c : List ℕ → ℕ
crc32c bytes = bit_xor (after_bytes 0xFFFFFFFF bytes) 0xFFFFFFFF

-- The checksums of 32 zeros, of 32 bytes of ones, and of the bytes from 0 to 31 (RFC 3720, appendix B.4).
pub record KnowsExamples : Type 0 where
  pub zeros : crc32c (replicate 32 0) ≡ 0x8A9136AA
  pub ones : crc32c (replicate 32 255) ≡ 0x62A8AB43
  pub rising : crc32c (range_with_len 0 32) ≡ 0x46DD794E
