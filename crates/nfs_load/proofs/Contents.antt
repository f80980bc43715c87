-- The digits of a content are twice as many as its bytes.
use Rattle.std.proofs.Common.{ℕ, ◌≡◌, ◌<◌, ◌≤◌, ◌/◌, false, List, [], length, Result, Ok, Err, IsErr, IsErrAnd, cond, sym, subst, ap, ◌∙◌, refl, arith}
use Rattle.std.specs.Prelude.{bytes_eq, codes}
use Rattle.std.proofs.lemmas.Bool.{false≢true, lt-leb, le-leb}
use Rattle.std.proofs.lemmas.List.Sums.{AllPass-from_list_all, list_all-from_AllPass}
use Rattle.hex.specs.Hex.{decode_of, is_hex_digit}
use Rattle.hex.specs.declared.error.FromHexError.{FromHexError}
use Rattle.hex.proofs.HexLemmas.{decode_of-digits, decode_of-ok}
use Rattle.nfs_load.specs.declared.cause.Cause.{Cause}
use Rattle.nfs_load.specs.declared.cause.Cause.TheVariants.{BadContent}
use Rattle.nfs_load.specs.declared.refusal.Refusal.{Refusal}
use Rattle.nfs_load.specs.declared.refusal.Refusal.TheVariants.{Memory}
use Rattle.nfs_load.specs.Fields.{ArePairs, GivesIfRoom, SaysBytes, content_in, within}

too_large : (most : ℕ) (field : List ℕ) (decoded : Result (List ℕ) FromHexError) → decode_of field ≡ decoded → most < length field / 2 → within most decoded ≡ Err BadContent
too_large most field (Ok content) e many =
    let twice = (decode_of-ok field content e).2 in
    ap (λ b. cond b (Ok content) (Err BadContent)) (lt-leb (length content) most (omega (arith, twice, many)))
too_large most field (Err fault) e many = refl

pub none_of_many_digits : (most : ℕ) (field : List ℕ) → bytes_eq field (codes "-") ≡ false → most < length field / 2 → content_in most field ≡ Err BadContent
none_of_many_digits most field digits many = ap (λ b. cond b (Ok []) (within most (decode_of field))) digits ∙ too_large most field (decode_of field) refl many

pub content_of_digits : (most : ℕ) (field content : List ℕ) → bytes_eq field (codes "-") ≡ false → length field / 2 ≤ most → decode_of field ≡ Ok content → content_in most field ≡ Ok content
content_of_digits most field content digits few e =
    let twice = (decode_of-ok field content e).2 in
    ap (λ b. cond b (Ok []) (within most (decode_of field))) digits ∙ ap (within most) e
    ∙ ap (λ b. cond b (Ok content) (Err BadContent)) (le-leb (length content) most (omega (arith, twice, few)))

-- digits in pairs, no more than there may be, say bytes
pub pairs_say : (most : ℕ) (field : List ℕ) → bytes_eq field (codes "-") ≡ false → length field / 2 ≤ most → ArePairs field → SaysBytes most field
pairs_say most field digits few pairs =
    let content = decode_of-digits field pairs.0 (AllPass-from_list_all is_hex_digit field pairs.1) in
    (digits, content.0, content_of_digits most field content.0 digits few content.1)

-- and other fields say none
pub others_say_none : (most : ℕ) (field : List ℕ) → bytes_eq field (codes "-") ≡ false → (ArePairs field → ⊥) → content_in most field ≡ Err BadContent
others_say_none most field digits other = ap (λ b. cond b (Ok []) (within most (decode_of field))) digits ∙ by (decode_of field) refl
  where
    by : (decoded : Result (List ℕ) FromHexError) → decode_of field ≡ decoded → within most decoded ≡ Err BadContent
    by (Ok content) e = let ok = decode_of-ok field content e in absurd (other (ok.0, list_all-from_AllPass is_hex_digit field ok.1))
    by (Err fault) e = refl

-- what is wanted, where there is no memory
pub without_room : {X A : Type 0} (view : X → A) (Wants : Type 0) (result : Result X Refusal) (read : Result A Cause) → IsErr result × IsErrAnd result (λ r. r ≡ Memory) → Wants → GivesIfRoom view Wants result read
without_room view Wants (Ok x) read h wants = absurd (false≢true h.0)
without_room view Wants (Err r) read h wants = subst (λ it. GivesIfRoom view Wants (Err it) read) (sym h.1) wants
