-- What is written of the header of a block.
use Rattle.std.proofs.Common.{◌≡◌, ℕ, ◌+◌, List, ◌++◌, ◌-◌, ◌≤◌, take, drop, length, ap, subst, sym, ◌∙◌, append_assoc, arith}
use Rattle.std.proofs.Math.Seq.{drop-append_seam}
use Rattle.std.proofs.lemmas.List.{length-append, take_all}
use Rattle.std.specs.Int.{w32, w64, to_be_bytes}
use Rattle.nfs_checksum.specs.Checksums.{crc32c}
use Rattle.nfs_server.specs.Entries.{checked}
use Rattle.nfs_xdr.specs.Written.{Written, Appends}

-- one text after another
both : (a b : List ℕ) (x y z : Written) → Appends a x y → Appends b y z → Appends (a ++ b) x z
both a b x y z f g = record {
  bytes = g.bytes ∙ ap (λ t. t ++ b) f.bytes ∙ append_assoc x.bytes a b;
  room = let e : length (a ++ b) ≡ length a + length b = length-append a b in omega (arith, f.room, g.room, e);
}

pub fields_written : (n kind number len : ℕ) (t u v w : Written) → n ≡ kind → Appends (to_be_bytes w32 n) t u → Appends (to_be_bytes w64 number) u v → Appends (to_be_bytes w32 len) v w
    → Appends (to_be_bytes w32 kind ++ to_be_bytes w64 number ++ to_be_bytes w32 len) t w
fields_written n kind number len t u v w e a b c =
    both _ (to_be_bytes w32 len) t v w (both (to_be_bytes w32 kind) (to_be_bytes w64 number) t u v (subst (λ m. Appends (to_be_bytes w32 m) t u) e a) b) c

-- what stands after the first bytes, all of it
after_front : (front text bytes : List ℕ) → bytes ≡ front ++ text → take (length bytes - length front) (drop (length front) bytes) ≡ text
after_front front text bytes e =
    let after : drop (length front) bytes ≡ text = ap (drop (length front)) e ∙ drop-append_seam front text in
    let len : length bytes ≡ length front + length text = ap length e ∙ length-append front text in
    let fits : length text ≤ length bytes - length front = omega (arith, len) in
    ap (take (length bytes - length front)) after ∙ take_all (length bytes - length front) text fits

-- a text and the checksum of what stands after what was there before
pub checked_written : (text front bytes : List ℕ) (sum : ℕ) (x y z : Written) → front ≡ x.bytes → bytes ≡ y.bytes → sum ≡ crc32c (take (length bytes - length front) (drop (length front) bytes))
    → Appends text x y → Appends (to_be_bytes w32 sum) y z → Appends (checked text) x z
checked_written text front bytes sum x y z before now e f g =
    let all : bytes ≡ front ++ text = now ∙ f.bytes ∙ ap (λ t. t ++ text) (sym before) in
    both text (to_be_bytes w32 (crc32c text)) x y z f (subst (λ n. Appends (to_be_bytes w32 n) y z) (e ∙ ap crc32c (after_front front text bytes all)) g)

-- what was read of a header
pub header_found : (k number len : ℕ) (kind rest fields checksum bytes : List ℕ) → to_be_bytes w64 number ++ to_be_bytes w32 len ≡ rest → kind ≡ to_be_bytes w32 k → fields ≡ kind ++ rest
    → checksum ≡ to_be_bytes w32 (crc32c fields) → bytes ≡ fields ++ checksum → checked (to_be_bytes w32 k ++ to_be_bytes w64 number ++ to_be_bytes w32 len) ≡ bytes
header_found k number len kind rest fields checksum bytes rest_is kind_is fields_are sum bytes_are =
    let same : to_be_bytes w32 k ++ to_be_bytes w64 number ++ to_be_bytes w32 len ≡ fields =
    append_assoc (to_be_bytes w32 k) (to_be_bytes w64 number) (to_be_bytes w32 len) ∙ ap (λ t. to_be_bytes w32 k ++ t) rest_is ∙ ap (λ t. t ++ rest) (sym kind_is) ∙ sym fields_are in
    ap checked same ∙ ap (λ t. fields ++ t) (sym sum) ∙ sym bytes_are
