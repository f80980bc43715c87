-- What was put in a queue, as lines are put and passed on.
use Rattle.std.proofs.Common.{◌≡◌, ℕ, zero, suc, zero-add, ◌+◌, ◌-◌, Bool, true, false, List, [], ◌∷◌, ◌++◌, length, take, drop, Option, Some, None, option_map, if◌then◌else◌, Result, Ok, Err, OnOk, OnErr, append_assoc, append-nil, sym, ap, subst, ◌∙◌, refl, arith}
use Rattle.std.proofs.lemmas.Grind.{common_steps}
use Rattle.std.proofs.lemmas.Bool.{true≢false}
use Rattle.std.proofs.lemmas.List.{take-append-drop, take_all}
use Rattle.std.proofs.Math.Seq.{take-length, drop-nil}
use Rattle.nfs_xdr.specs.Known.{Grows, GrowsByPart}
use Rattle.nfs_lines.specs.Queued.{Queued, PutsPart, put, put_plainly}

abbrev with_pending : Option (List ℕ) → List ℕ → Option (List ℕ)
with_pending taken pending = option_map (λ bytes. bytes ++ pending) taken

-- the bytes from a place to the end
pub to_end : (from : ℕ) (all lent : List ℕ) → lent ≡ all → take (length lent - from) (drop from lent) ≡ drop from all
to_end from all lent e = subst (λ l. take (length l - from) (drop from l) ≡ drop from all) (sym e) (take_all (length all - from) (drop from all) (grind (arith, common_steps)))

drop-drop : (n m : ℕ) (xs : List ℕ) → drop (n + m) xs ≡ drop m (drop n xs)
drop-drop zero m xs = ap (λ k. drop k xs) (zero-add m)
drop-drop (suc n) m [] = drop-nil (suc n + m) ∙ sym (drop-nil m)
drop-drop (suc n) m (x ∷ xs) =
    let one_more : suc n + m ≡ suc (n + m) = omega arith in
    ap (λ k. drop k (x ∷ xs)) one_more ∙ drop-drop n m xs

-- what the device takes is no longer pending
passed : (old new : Option (List ℕ)) (n : ℕ) (pending : List ℕ) → Grows old (take n pending) new → Grows (with_pending old pending) [] (with_pending new (drop n pending))
passed None new n pending grows before is = cc
passed (Some bytes) new n pending grows before is =
    let now : new ≡ Some (bytes ++ take n pending) = grows bytes refl in
    let all : (bytes ++ take n pending) ++ drop n pending ≡ bytes ++ pending = append_assoc bytes (take n pending) (drop n pending) ∙ ap (λ l. bytes ++ l) (take-append-drop n pending) in
    let whole : Some (bytes ++ pending) ≡ Some before = is in
    ap (λ o. with_pending o (drop n pending)) now ∙ ap Some all ∙ whole ∙ ap Some (sym (append-nil before))

-- the same of the bytes from a place to the end, of which so many are taken
pub passed_on : (old new : Option (List ℕ)) (n from : ℕ) (all sent : List ℕ) → sent ≡ drop from all → Grows old (take n sent) new → Grows (with_pending old (drop from all)) [] (with_pending new (drop (from + n) all))
passed_on old new n from all sent e grows = subst (λ rest. Grows (with_pending old (drop from all)) [] (with_pending new rest)) (sym (drop-drop from n all))
    (passed old new n (drop from all) (subst (λ bytes. Grows old (take n bytes) new) e grows))

-- a line is put after the others, and some are passed on
pub put_then_passed : (taken : Option (List ℕ)) (pending line : List ℕ) (after : Option (List ℕ)) → Grows (with_pending taken (pending ++ line)) [] after → Grows (with_pending taken pending) line after
put_then_passed None pending line after grows before is = cc
put_then_passed (Some bytes) pending line after grows before is =
    let all : bytes ++ (pending ++ line) ≡ (bytes ++ pending) ++ line = sym (append_assoc bytes pending line) in
    let same : bytes ++ pending ≡ before = cc in
    grows ((bytes ++ pending) ++ line) (ap Some all) ∙ ap Some (append-nil ((bytes ++ pending) ++ line) ∙ ap (λ l. l ++ line) same)

-- all of a line is a part of it
pub whole_part : (old new : Option (List ℕ)) (line : List ℕ) → Grows old line new → GrowsByPart old line new
whole_part old new line grows = (length line, omega arith, subst (λ l. Grows old l new) (sym (take-length line)) grows)

-- a line is put in a queue, which passes some on
pub put_in : {D : Type 0} (taken : D → Option (List ℕ)) (old mid new : Queued D) (line : List ℕ) → mid.pending ≡ old.pending ++ line → mid.device ≡ old.device
    → Grows (put taken mid) [] (put taken new) → Grows (put taken old) line (put taken new)
put_in taken old mid new line pending device grows = put_then_passed (taken old.device) old.pending line (put taken new)
    (subst (λ d. Grows (with_pending (taken d) (old.pending ++ line)) [] (put taken new)) device
    (subst (λ bytes. Grows (with_pending (taken mid.device) bytes) [] (put taken new)) pending grows))

-- what holds in any case holds at each outcome
pub on_ok : {X E : Type 0} {P : Type 0} (r : Result X E) → P → OnOk r P
on_ok (Ok x) p = p
on_ok (Err e) p = tt

pub on_err : {X E : Type 0} {P : Type 0} (r : Result X E) → P → OnErr r P
on_err (Ok x) p = tt
on_err (Err e) p = p

-- ---- lines of connections

grows_same : (a : Option (List ℕ)) → Grows a [] a
grows_same a before e = e ∙ ap Some (sym (append-nil before))

-- none of a line was put
pub puts_none : {D : Type 0} (taken : D → Option (List ℕ)) (is_plain : Bool) (line : List ℕ) (old new : Queued D) → new.pending ≡ old.pending → new.device ≡ old.device → PutsPart taken is_plain line false old new
puts_none taken is_plain line old new pending device =
    let same : put_plainly taken is_plain new ≡ put_plainly taken is_plain old =
    ap (λ d. if is_plain then option_map (λ bytes. bytes ++ new.pending) (taken d) else None) device ∙ ap (λ p. if is_plain then option_map (λ bytes. bytes ++ p) (taken old.device) else None) pending in
    record { n = 0; within = omega arith; grows = subst (λ o. Grows (put_plainly taken is_plain old) [] o) (sym same) (grows_same (put_plainly taken is_plain old)); whole = λ e. absurd (true≢false (sym e)) }

-- all of it was
pub puts_all : {D : Type 0} (taken : D → Option (List ℕ)) (is_plain : Bool) (line : List ℕ) (is_whole : Bool) (old new : Queued D) → (is_plain ≡ true → Grows (put taken old) line (put taken new)) → PutsPart taken is_plain line is_whole old new
puts_all taken true line is_whole old new grows = record { n = length line; within = omega arith; grows = subst (λ l. Grows (put taken old) l (put taken new)) (sym (take-length line)) (grows refl); whole = λ e. take-length line }
puts_all taken false line is_whole old new grows = record { n = length line; within = omega arith; grows = λ before e. cc; whole = λ e. take-length line }

-- a line that is put as it is is put so too where that is not known
pub puts_as : {D : Type 0} (taken : D → Option (List ℕ)) (as_it_is is_plain : Bool) (line : List ℕ) (is_whole : Bool) (old new : Queued D) → (is_plain ≡ true → as_it_is ≡ true) → PutsPart taken as_it_is line is_whole old new → PutsPart taken is_plain line is_whole old new
puts_as taken as_it_is true line is_whole old new is p = subst (λ b. PutsPart taken b line is_whole old new) (is refl) p
puts_as taken as_it_is false line is_whole old new is p = record { n = p.n; within = p.within; grows = λ before e. cc; whole = p.whole }
