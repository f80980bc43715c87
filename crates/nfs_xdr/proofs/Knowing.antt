-- What a device holds after one write and another.
use Rattle.std.proofs.Common.{◌≡◌, ℕ, ◌+◌, ◌-◌, ◌≤◌, Bool, true, false, List, [], ◌++◌, length, take, drop, Option, Some, sym, ap, subst, ◌∙◌, append_assoc, append-nil, take-add, length-drop, arith}
use Rattle.std.proofs.lemmas.Bool.{true≢false, false≢true}
use Rattle.std.proofs.lemmas.List.{take_rest}
use Rattle.nfs_xdr.specs.Known.{Grows, StaysFailed}

-- some of the rest of a list after its first ones
pub taken_on : (xs : List ℕ) (i n : ℕ) → take i xs ++ take n (take (length xs - i) (drop i xs)) ≡ take (i + n) xs
taken_on xs i n = ap (λ t. take i xs ++ take n t) (take_rest xs i) ∙ sym (take-add i n xs)

pub within_rest : (xs : List ℕ) (i n : ℕ) → i ≤ length xs → n ≤ length (take (length xs - i) (drop i xs)) → i + n ≤ length xs
within_rest xs i n within more =
    let some : n ≤ length (drop i xs) = subst (λ t. n ≤ length t) (take_rest xs i) more in
    omega (arith, length-drop i xs)

pub Grows-then : (a b c : Option (List ℕ)) (xs ys : List ℕ) → Grows a xs b → Grows b ys c → Grows a (xs ++ ys) c
Grows-then a b c xs ys first second before e = second (before ++ xs) (first before e) ∙ ap Some (append_assoc before xs ys)

pub Grows-none : (a b c : Option (List ℕ)) (xs : List ℕ) → Grows a xs b → Grows b [] c → Grows a xs c
Grows-none a b c xs first second = subst (λ t. Grows a t c) (append-nil xs) (Grows-then a b c xs [] first second)

pub grows_nothing : (a : Option (List ℕ)) → Grows a [] a
grows_nothing a before e = e ∙ ap Some (sym (append-nil before))

-- ---- devices that have failed

pub stays_none : (b : Bool) (a : Option (List ℕ)) → StaysFailed b a b a
stays_none b a failed = (failed, grows_nothing a)

pub stays_then : (was is will : Bool) (a b c : Option (List ℕ)) → StaysFailed was a is b → StaysFailed is b will c → StaysFailed was a will c
stays_then was is will a b c f g failed =
    let first = f failed in
    let second = g first.0 in
    (second.0, Grows-then a b c [] [] first.1 second.1)

pub stays_alive : (was is : Bool) (a b : Option (List ℕ)) → was ≡ false → StaysFailed was a is b
stays_alive true is a b e failed = absurd (true≢false e)
stays_alive false is a b e failed = absurd (false≢true failed)
