-- What a reader gave and a sink took, chunk by chunk.
use Rattle.std.proofs.Common.{◌≡◌, ℕ, ◌+◌, ◌-◌, ◌^◌, ◌<◌, ◌≤◌, min, List, [], ◌++◌, length, take, Option, None, Some, Result, Ok, Err, refl, sym, ap, subst, ◌∙◌, append_assoc, append-nil, arith}
use Rattle.std.specs.Prelude.{IfOk}
use Rattle.std.specs.Io.KnownBytes as std
use Rattle.std.specs.Io.KnownBytes.{ReadConsumes}
use Rattle.std.proofs.lemmas.List.{length-append, length-take-le}
use Rattle.nfs_xdr.specs.Known.{Shrinks, IsAtEnd}
use Rattle.nfs_describe.specs.Texts.{most_text_bytes}

pub shrinks_none : (a : Option (List ℕ)) → Shrinks a [] a
shrinks_none a before e = (before, e, refl)

pub shrinks_then : (a b c : Option (List ℕ)) (xs ys : List ℕ) → Shrinks a xs b → Shrinks b ys c → Shrinks a (xs ++ ys) c
shrinks_then a b c xs ys first second before e =
    let one = first before e in
    let two = second one.0 one.1 in
    (two.0, two.1, one.2 ∙ ap (λ t. xs ++ t) two.2 ∙ sym (append_assoc xs ys two.0))

pub shrinks_end : (a b c : Option (List ℕ)) (xs : List ℕ) → Shrinks a xs b → Shrinks b [] c → Shrinks a xs c
shrinks_end a b c xs first second = subst (λ t. Shrinks a t c) (append-nil xs) (shrinks_then a b c xs [] first second)

at_its_end : (left : Option (List ℕ)) → std.IsAtEnd left → IsAtEnd left
at_its_end None is bytes e = cc
at_its_end (Some xs) is bytes e = cc

-- a read that gives nothing is at the end
pub read_end : {E : Type 0} (result : Result ℕ E) (old new : Option (List ℕ)) (span : List ℕ) → ReadConsumes old new result span
    → IfOk result (λ n. n ≡ 0 → 0 < length span → IsAtEnd new)
read_end (Ok n) old new span consumes = λ none some. at_its_end new (consumes.1 none some)
read_end (Err error) old new span consumes = tt

-- how many bytes were read
pub counted : (text span : List ℕ) (len n sum : ℕ) → len ≡ length text → len ≤ most_text_bytes → n ≤ length span → length span < 2 ^ 63
    → sum ≡ min (len + n) (2 ^ 64 - 1) → sum ≡ length (text ++ take n span)
counted text span len n sum is few within fits sums =
    omega (arith, length-append text (take n span), length-take-le n span within, is, few, within, fits, sums)
