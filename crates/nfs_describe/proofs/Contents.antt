-- The bytes of a file as digits, run by run.
use Rattle.std.proofs.Common.{◌≡◌, ℕ, ◌+◌, ◌≤◌, ◌/◌, ◌%◌, List, [], ◌∷◌, ◌++◌, length, take, drop, slice_index, refl, sym, ap, subst, ◌∙◌, length-drop, arith}
use Rattle.std.proofs.lemmas.List.{length-append, take-append-le, take_all}
use Rattle.std.proofs.Math.Seq.{take-add}
use Rattle.hex.specs.Hex.{encode_lower, encode_with, lower_digits}
use Rattle.nfs_inodes.specs.Reading.{IsFirstChunk}
use Rattle.nfs_describe.specs.Lines.{content_text}
use Rattle.nfs_describe.specs.Outputs.{Takes}
use Rattle.nfs_describe.proofs.Outputs.{takes_then}

encode_append : (t xs ys : List ℕ) → encode_with t (xs ++ ys) ≡ encode_with t xs ++ encode_with t ys
unfolding encode_with
encode_append t [] ys = refl
encode_append t (x ∷ xs) ys = ap (λ l. slice_index t (x / 16) ∷ slice_index t (x % 16) ∷ l) (encode_append t xs ys)

-- no bytes are no digits
pub digits_none : encode_lower [] ≡ []
unfolding encode_with
digits_none = refl

pub run_within : (bytes run : List ℕ) (done : ℕ) → done ≤ length bytes → IsFirstChunk run (drop done bytes) → done + length run ≤ length bytes
run_within bytes run done within chunk =
    omega (arith, within, length-drop done bytes, ap length chunk.bytes_are, length-append run chunk.rest)

run_more : (bytes run : List ℕ) (done : ℕ) → IsFirstChunk run (drop done bytes) → take (done + length run) bytes ≡ take done bytes ++ run
run_more bytes run done chunk = take-add done (length run) bytes
    ∙ ap (λ l. take done bytes ++ take (length run) l) chunk.bytes_are
    ∙ ap (λ l. take done bytes ++ l) (take-append-le (length run) run chunk.rest (omega arith) ∙ take_all (length run) run (omega arith))

-- the digits of one run more
pub digits_more : {O : Type 0} (has : O → List ℕ → Type 0) (a b c : O) (bytes run : List ℕ) (done : ℕ) → IsFirstChunk run (drop done bytes)
    → Takes has a (encode_lower (take done bytes)) b → Takes has b (encode_lower run) c → Takes has a (encode_lower (take (done + length run) bytes)) c
digits_more has a b c bytes run done chunk before more =
    subst (λ digits. Takes has a digits c) (sym (ap encode_lower (run_more bytes run done chunk) ∙ encode_append lower_digits (take done bytes) run))
    (takes_then has a b c (encode_lower (take done bytes)) (encode_lower run) before more)

-- where nothing is left, all digits are there
pub all_digits : {O : Type 0} (has : O → List ℕ → Type 0) (a b : O) (bytes run : List ℕ) (done : ℕ) → (bytes ≡ [] → ⊥) → done ≤ length bytes → IsFirstChunk run (drop done bytes) → run ≡ []
    → Takes has a (encode_lower (take done bytes)) b → Takes has a (content_text bytes) b
all_digits has a b [] run done some within chunk none is = absurd (some refl)
all_digits has a b (byte ∷ bytes) run done some within chunk none is =
    let whole : length (byte ∷ bytes) ≤ done = omega (arith, length-drop done (byte ∷ bytes), ap length (chunk.some none)) in
    subst (λ digits. Takes has a digits b) (ap encode_lower (take_all done (byte ∷ bytes) whole)) is
