-- Bytes that are decoded, and encoded again.
use Rattle.std.proofs.Common.{◌≡◌, ◌≢◌, ℕ, zero, suc, ◌+◌, ◌*◌, ◌-◌, ◌<◌, ◌≤◌, ◌/◌, ◌%◌, Ok, Err, List, [], ◌∷◌, ◌++◌, length, take, drop, slice_index, refl, sym, ap, subst, ◌∙◌, append_assoc, append-nil, length-drop, arith}
use Rattle.std.proofs.lemmas.List.{drop_all, length-append, take-append-drop, take_all}
use Rattle.std.proofs.Math.Seq.{drop-append_seam, take-add, take-append_seam}
use Rattle.hex.specs.Hex.{IsBytes, decode_of, encode_with}
use Rattle.hex.specs.declared.error.FromHexError.{FromHexError}
use Rattle.hex.proofs.HexLemmas.{decode_of-encode_lower, decode_of-encode_upper, decode_of-same, length-encode_with}
use Rattle.nfs_load.specs.Fields.{Encodes}
use Rattle.nfs_content.specs.Bytes.{put_bytes, written, zeros}
use Rattle.nfs_source.specs.declared.open_line.Case.{Case}
use Rattle.nfs_source.specs.declared.open_line.Case.TheVariants.{Lower, Upper}
use Rattle.nfs_source.specs.OpenLines.{IsNoCode, digits_of, encode_in, other_case}

-- ---- bytes after others

encode-append : (table xs ys : List ℕ) → encode_with table (xs ++ ys) ≡ encode_with table xs ++ encode_with table ys
unfolding encode_with
encode-append table [] ys = refl
encode-append table (x ∷ xs) ys = ap (λ t. slice_index table (x / 16) ∷ slice_index table (x % 16) ∷ t) (encode-append table xs ys)

bytes-append : (xs ys : List ℕ) → IsBytes xs → IsBytes ys → IsBytes (xs ++ ys)
bytes-append [] ys one two i = two i
bytes-append (x ∷ xs) ys one two zero = one 0
bytes-append (x ∷ xs) ys one two (suc i) = bytes-append xs ys (λ k. one (suc k)) two i

put_after : (old new : List ℕ) → put_bytes old (length old) new ≡ old ++ new
put_after old new =
    let gap : length old - length old ≡ 0 = omega arith in
    let after = drop (length old + length new) old in
    ap (λ t. ((t ++ zeros (length old - length old)) ++ new) ++ after) (take_all (length old) old (omega arith))
    ∙ ap (λ n. ((old ++ zeros n) ++ new) ++ after) gap
    ∙ ap (λ t. (t ++ new) ++ after) (append-nil old)
    ∙ ap (λ t. (old ++ new) ++ t) (drop_all (length old + length new) old (omega arith))
    ∙ append-nil (old ++ new)

written_after : (old new : List ℕ) → written old (length old) new ≡ old ++ new
written_after old [] = sym (append-nil old)
written_after old (b ∷ bs) = put_after old (b ∷ bs)

-- ---- the content of a line

-- digits after those of a content, in a case in which that is written as well
pub text_grows : (words old new digits written_so : List ℕ) (case was : Case) → written_so ≡ written old (length old) new → encode_in case new ≡ digits
    → encode_in case old ≡ encode_in was old → words ++ 32 ∷ encode_in case written_so ≡ (words ++ 32 ∷ encode_in was old) ++ digits
text_grows words old new digits written_so case was is encoded alike =
    ap (λ content. words ++ 32 ∷ encode_in case content) (is ∙ written_after old new)
    ∙ ap (λ text. words ++ 32 ∷ text) (encode-append (digits_of case) old new ∙ ap (λ text. encode_in case old ++ text) encoded ∙ ap (λ text. text ++ digits) alike)
    ∙ sym (append_assoc words (32 ∷ encode_in was old) digits)

pub bytes_grow : (old new written_so : List ℕ) → written_so ≡ written old (length old) new → IsBytes old → IsBytes new → IsBytes written_so
bytes_grow old new written_so is one two = subst IsBytes (sym (is ∙ written_after old new)) (bytes-append old new one two)

not_none : (old new : List ℕ) → old ≢ [] → old ++ new ≢ []
not_none [] new some none = some refl
not_none (b ∷ bs) new some none = cc

pub some_grow : (old new written_so : List ℕ) → written_so ≡ written old (length old) new → old ≢ [] → written_so ≢ []
some_grow old new written_so is some none = not_none old new some (sym (is ∙ written_after old new) ∙ none)

pub text_length : (words content : List ℕ) (case : Case) → length (words ++ 32 ∷ encode_in case content) ≡ length words + 1 + 2 * length content
text_length words content case = omega (arith, length-append words (32 ∷ encode_in case content), length-encode_with (digits_of case) content)

-- a page of digits says half as many bytes
pub page_says : (page content : List ℕ) (case : Case) → encode_in case content ≡ page → length page ≡ 8192 → length content ≡ 4096
page_says page content case is long = omega (arith, ap length is, length-encode_with (digits_of case) content, long)

pub some_bytes : (content : List ℕ) → length content ≡ 4096 → content ≢ []
some_bytes content long none = absurd (omega (arith, long, ap length none))

-- the parts of a line
pub begun : (line words digits page rest content words_now content_now rest_now : List ℕ) (case : Case) → line ≡ words ++ 32 ∷ digits → digits ≡ page ++ rest → encode_in case content ≡ page
    → words_now ≡ words → content_now ≡ content → rest_now ≡ rest → (words_now ++ 32 ∷ encode_in case content_now) ++ rest_now ≡ line
begun line words digits page rest content words_now content_now rest_now case is cut encoded same_words same_content same_rest =
    ap (λ t. (t ++ 32 ∷ encode_in case content_now) ++ rest_now) same_words
    ∙ ap (λ t. (words ++ 32 ∷ encode_in case t) ++ rest_now) same_content
    ∙ ap (λ t. (words ++ 32 ∷ encode_in case content) ++ t) same_rest
    ∙ ap (λ t. (words ++ 32 ∷ t) ++ rest) encoded
    ∙ append_assoc words (32 ∷ page) rest
    ∙ ap (λ t. words ++ 32 ∷ t) (sym cut) ∙ sym is

-- a line that is decoded has bytes
pub some_text : (words after tail : List ℕ) → (words ++ 32 ∷ after) ++ tail ≡ [] → ⊥
some_text [] after tail none = cc
some_text (x ∷ words) after tail none = cc

-- ---- a content run by run

pub encode_none : (xs : List ℕ) (case : Case) → xs ≡ xs ++ encode_in case []
unfolding encode_with
encode_none xs case = sym (append-nil xs)

pub none_alike : (one other : Case) → encode_in one [] ≡ encode_in other []
unfolding encode_with
none_alike one other = refl

pub run_within : (content run rest : List ℕ) (offset : ℕ) → offset ≤ length content → drop offset content ≡ run ++ rest → offset + length run ≤ length content
run_within content run rest offset within is = omega (arith, within, ap length is, length-append run rest, length-drop offset content)

take_run : (content run rest : List ℕ) (offset : ℕ) → drop offset content ≡ run ++ rest → take (offset + length run) content ≡ take offset content ++ run
take_run content run rest offset is = take-add offset (length run) content ∙ ap (λ t. take offset content ++ t) (ap (take (length run)) is ∙ take-append_seam run rest)

-- the digits up to the end of a run
encode_run : (content run rest : List ℕ) (offset : ℕ) (case : Case) → drop offset content ≡ run ++ rest
    → encode_in case (take (offset + length run) content) ≡ encode_in case (take offset content) ++ encode_in case run
encode_run content run rest offset case is = ap (encode_in case) (take_run content run rest offset is) ∙ encode-append (digits_of case) (take offset content) run

pub encode_more : (line written_so content run rest digits new : List ℕ) (offset : ℕ) (case : Case) → drop offset content ≡ run ++ rest → written_so ≡ line ++ encode_in case (take offset content)
    → digits ≡ encode_in case run → new ≡ written_so ++ digits → new ≡ line ++ encode_in case (take (offset + length run) content)
encode_more line written_so content run rest digits new offset case is was encoded grows =
    grows ∙ ap (λ t. t ++ digits) was ∙ ap (λ t. (line ++ encode_in case (take offset content)) ++ t) encoded
    ∙ append_assoc line (encode_in case (take offset content)) (encode_in case run)
    ∙ ap (λ t. line ++ t) (sym (encode_run content run rest offset case is))

-- runs that are alike
pub alike_more : (content run rest digits : List ℕ) (offset : ℕ) (one other : Case) → drop offset content ≡ run ++ rest → encode_in one (take offset content) ≡ encode_in other (take offset content)
    → digits ≡ encode_in one run → encode_in other run ≡ digits → encode_in one (take (offset + length run) content) ≡ encode_in other (take (offset + length run) content)
alike_more content run rest digits offset one other is was encoded same =
    encode_run content run rest offset one is
    ∙ ap (λ t. t ++ encode_in one run) was ∙ ap (λ t. encode_in other (take offset content) ++ t) (sym encoded ∙ sym same)
    ∙ sym (encode_run content run rest offset other is)

pub alike_all : (content : List ℕ) (offset : ℕ) (one other : Case) → length content ≤ offset → encode_in one (take offset content) ≡ encode_in other (take offset content)
    → encode_in one content ≡ encode_in other content
alike_all content offset one other all alike =
    let whole : take offset content ≡ content = take_all offset content all in
    ap (encode_in one) (sym whole) ∙ alike ∙ ap (encode_in other) whole

same_middle : (a b x y p q : List ℕ) → length a ≡ length b → length x ≡ length y → a ++ (x ++ p) ≡ b ++ (y ++ q) → x ≡ y
same_middle a b x y p q one two same =
    let rest : x ++ p ≡ y ++ q = sym (drop-append_seam a (x ++ p)) ∙ ap (drop (length a)) same ∙ ap (λ n. drop n (b ++ (y ++ q))) one ∙ drop-append_seam b (y ++ q) in
    sym (take-append_seam x p) ∙ ap (take (length x)) rest ∙ ap (λ n. take n (y ++ q)) two ∙ take-append_seam y q

same_length : (content : List ℕ) (one other : Case) → length (encode_in one content) ≡ length (encode_in other content)
same_length content one other = length-encode_with (digits_of one) content ∙ sym (length-encode_with (digits_of other) content)

encode_parts : (content run rest : List ℕ) (offset : ℕ) (case : Case) → drop offset content ≡ run ++ rest
    → encode_in case content ≡ encode_in case (take offset content) ++ (encode_in case run ++ encode_in case rest)
encode_parts content run rest offset case is =
    ap (encode_in case) (sym (take-append-drop offset content) ∙ ap (λ t. take offset content ++ t) is)
    ∙ encode-append (digits_of case) (take offset content) (run ++ rest)
    ∙ ap (λ t. encode_in case (take offset content) ++ t) (encode-append (digits_of case) run rest)

-- a run that differs
pub not_alike : (content run rest digits : List ℕ) (offset : ℕ) (one other : Case) → drop offset content ≡ run ++ rest
    → digits ≡ encode_in one run → (encode_in other run ≡ digits → ⊥) → encode_in one content ≡ encode_in other content → ⊥
not_alike content run rest digits offset one other is encoded differs alike =
    differs (sym (same_middle (encode_in one (take offset content)) (encode_in other (take offset content)) (encode_in one run) (encode_in other run) (encode_in one rest) (encode_in other rest)
    (same_length (take offset content) one other) (same_length run one other)
    (sym (encode_parts content run rest offset one is) ∙ alike ∙ encode_parts content run rest offset other is)) ∙ sym encoded)

-- ---- its digits

some_digits : (content : List ℕ) (case : Case) → content ≢ [] → encode_in case content ≢ []
unfolding encode_with
some_digits [] case some none = some refl
some_digits (b ∷ bs) case some none = cc

decode_encoded : (content : List ℕ) (case : Case) → IsBytes content → decode_of (encode_in case content) ≡ Ok content
decode_encoded content Lower bytes = decode_of-encode_lower content bytes
decode_encoded content Upper bytes = decode_of-encode_upper content bytes

pub encodes : (content : List ℕ) (case : Case) → IsBytes content → content ≢ [] → Encodes (encode_in case content) content
encodes content case bytes some = (some_digits content case some, decode_encoded content case bytes)

-- ---- digits that say no bytes

pub no_code : (digits : List ℕ) (fault : FromHexError) → decode_of digits ≡ Err fault → (case : Case) → IsNoCode case digits
no_code digits fault e case bytes (encoded, is) = absurd (apart (sym e ∙ ap decode_of (sym encoded) ∙ decode_encoded bytes case is))
  where
    apart : Err fault ≡ Ok bytes → ⊥
    apart e = cc

pub other_code : (digits decoded : List ℕ) (case : Case) → decode_of digits ≡ Ok decoded → (encode_in case decoded ≡ digits → ⊥) → IsNoCode case digits
other_code digits decoded case e other bytes (encoded, is) =
    other (ap (encode_in case) (decode_of-same digits decoded bytes e (ap decode_of (sym encoded) ∙ decode_encoded bytes case is)) ∙ encoded)

-- what is so in one case and in the other is so in any
pub in_any : (P : Case → Type 0) (one : Case) → P one → P (other_case one) → (any : Case) → P any
in_any P Lower lower upper Lower = lower
in_any P Lower lower upper Upper = upper
in_any P Upper upper lower Lower = lower
in_any P Upper upper lower Upper = upper

pub too_many : (digits bytes : List ℕ) (len : ℕ) (case : Case) → encode_in case bytes ≡ digits → 1099511627776 < length bytes + len → 2 * 1099511627776 < 2 * len + length digits
too_many digits bytes len case encoded many = omega (arith, ap length encoded, length-encode_with (digits_of case) bytes, many)
