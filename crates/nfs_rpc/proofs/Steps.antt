-- How a reader of records goes on by some bytes.
use Rattle.std.proofs.Common.{Result, Ok, Err, OnErr, IsErr, ◌≡◌, ℕ, ◌+◌, ◌-◌, ◌^◌, ◌<◌, ◌≤◌, Bool, true, false, List, [], ◌∷◌, ◌++◌, length, take, drop, nat_lt, refl, sym, ap, subst, ◌∙◌, append_assoc, append-nil, take-add, length-drop, arith}
use Rattle.std.proofs.lemmas.Bool.{ltb-false, ltb-true, false≢true}
use Rattle.std.proofs.lemmas.List.{length-append, take_all, take_rest, take-append-drop}
use Rattle.nfs_rpc.specs.declared.framer.Stage.{Stage}
use Rattle.nfs_rpc.specs.declared.framer.Stage.TheVariants.{Header, Body}
use Rattle.nfs_rpc.specs.Records.{header, fragment, IsPart, unended, joined, IsRecord, ReachesTooLong, Follows}
use Rattle.nfs_rpc.specs.Progress.{Progress, Leads, Unfinished, Moves, BringsTooLong, AsksForRoom}
use Rattle.nfs_rpc.specs.Records.{ReachesWithin}
use Rattle.nfs_rpc.specs.Stages.{stage_of}
use Rattle.nfs_rpc.specs.Kept.{KeepsStage}
use Rattle.nfs_rpc.proofs.Fragments.{joined-append, unended-append, are_parts-append}

Follows-grows : (text content tail got more : List ℕ) → Follows text content tail got → Follows (text ++ more) content (tail ++ more) got
Follows-grows text content tail got more f = record {
  parts = f.parts;
  are_parts = f.are_parts;
  content_is = f.content_is;
  text_is = ap (λ t. t ++ more) f.text_is ∙ append_assoc (unended f.parts) tail more;
}

-- a fragment that is whole is one of the parts
Follows-closes : (text content got : List ℕ) → IsPart got → Follows text content (fragment false got) got → Follows text content [] []
Follows-closes text content got part f = record {
  parts = f.parts ++ got ∷ [];
  are_parts = are_parts-append f.parts (got ∷ []) f.are_parts (part, tt);
  content_is = f.content_is ∙ sym (append-nil _ ∙ joined-append f.parts (got ∷ []) ∙ ap (λ t. joined f.parts ++ t) (append-nil got));
  text_is = f.text_is ∙ sym (append-nil _ ∙ unended-append f.parts (got ∷ []) ∙ ap (λ t. unended f.parts ++ t) (append-nil (fragment false got)));
}

Follows-ends : (text content got : List ℕ) → IsPart got → Follows text content (fragment true got) got → IsRecord content text
Follows-ends text content got part f = record { parts = f.parts; are_parts = f.are_parts; final = got; final_is = part; content_is = f.content_is; text_is = f.text_is }

-- ---- where the bytes that are left of a fragment decide

at_body : (limit left : ℕ) (some last : Bool) (content text got : List ℕ) → nat_lt 0 left ≡ some → length got + left < 2 ^ 31 → length content + left ≤ limit → Follows text content (header last (length got + left) ++ got) got → Leads limit (stage_of some last left) content text
at_body limit left true last content text got some below within f = (within, got, ltb-true 0 left some, below, f)
at_body limit left false true content text got none below within f =
    let same : length got + left ≡ length got = omega (arith, ltb-false 0 left none) in
    (omega arith, Follows-ends text content got (omega arith) (subst (λ k. Follows text content (header true k ++ got) got) same f))
at_body limit left false false content text got none below within f =
    let same : length got + left ≡ length got = omega (arith, ltb-false 0 left none) in
    (omega arith, omega arith, Follows-closes text content got (omega arith) (subst (λ k. Follows text content (header false k ++ got) got) same f))

-- ---- a header

pub header_goes : (limit have n : ℕ) (bytes filled content text taken : List ℕ) → have + n < 4 → take (have + n) filled ≡ take have bytes ++ taken → Leads limit (Header bytes have) content text → Leads limit (Header filled (have + n)) content (text ++ taken)
header_goes limit have n bytes filled content text taken short is u =
    (short, u.1, subst (λ t. Follows (text ++ taken) content t []) (sym is) (Follows-grows text content (take have bytes) [] taken u.2))

-- the tail once the header is whole
whole_header : (limit have n left : ℕ) (last : Bool) (bytes filled content text taken : List ℕ) → 4 ≤ have + n → take (have + n) filled ≡ take have bytes ++ taken → filled ≡ header last left → Leads limit (Header bytes have) content text → Follows (text ++ taken) content (header last left) []
whole_header limit have n left last bytes filled content text taken whole is mark u =
    let all : take (have + n) filled ≡ filled = take_all (have + n) filled (omega (arith, ap length mark)) in
    subst (λ t. Follows (text ++ taken) content t []) (sym is ∙ all ∙ mark) (Follows-grows text content (take have bytes) [] taken u.2)

at_header : (limit left : ℕ) (last : Bool) (content text : List ℕ) → left < 2 ^ 31 → length content + left ≤ limit → Follows text content (header last left) [] → Leads limit (stage_of (nat_lt 0 left) last left) content text
at_header limit left last content text below within f =
    let same : length {A = ℕ} [] + left ≡ left = omega arith in
    at_body limit left (nat_lt 0 left) last content text [] refl (omega arith) within (subst (λ t. Follows text content t []) (ap (header last) (sym same) ∙ sym (append-nil (header last (length {A = ℕ} [] + left)))) f)

pub header_done : (limit have n left : ℕ) (last : Bool) (bytes filled content text taken : List ℕ) → 4 ≤ have + n → take (have + n) filled ≡ take have bytes ++ taken → filled ≡ header last left → left < 2 ^ 31 → length content + left ≤ limit → Leads limit (Header bytes have) content text → Leads limit (stage_of (nat_lt 0 left) last left) content (text ++ taken)
header_done limit have n left last bytes filled content text taken whole is mark below within u =
    at_header limit left last content (text ++ taken) below within (whole_header limit have n left last bytes filled content text taken whole is mark u)

pub header_above : (limit have n left : ℕ) (last : Bool) (bytes filled content text chunk : List ℕ) → 4 ≤ have + n → take (have + n) filled ≡ take have bytes ++ take n chunk → filled ≡ header last left → left < 2 ^ 31 → limit < length content + left → Leads limit (Header bytes have) content text → ReachesTooLong limit (text ++ chunk)
header_above limit have n left last bytes filled content text chunk whole is mark below over u =
    let f = whole_header limit have n left last bytes filled content text (take n chunk) whole is mark u in
    let len : length content ≡ length (joined f.parts) = ap length (f.content_is ∙ append-nil (joined f.parts)) in
    record {
      parts = f.parts;
      are_parts = f.are_parts;
      last = last;
      n = left;
      below = below;
      too_long = omega arith;
      after = drop n chunk;
      bytes_are = ap (λ t. text ++ t) (sym (take-append-drop n chunk)) ∙ sym (append_assoc text (take n chunk) (drop n chunk)) ∙ ap (λ t. t ++ drop n chunk) f.text_is ∙ append_assoc (unended f.parts) (header last left) (drop n chunk);
    }

-- room is refused only where there was less
pub refused_above : {A E : Type 0} {P : Type 0} (r : Result A E) → OnErr r P → IsErr r → P
refused_above (Ok x) full is = absurd (false≢true is)
refused_above (Err e) full is = full

pub header_within : (limit have n left : ℕ) (last : Bool) (bytes filled content text chunk : List ℕ) → 4 ≤ have + n → take (have + n) filled ≡ take have bytes ++ take n chunk → filled ≡ header last left → left < 2 ^ 31 → 0 < left → length content + left ≤ limit → Leads limit (Header bytes have) content text → ReachesWithin limit (text ++ chunk)
header_within limit have n left last bytes filled content text chunk whole is mark below some inside u =
    let f = whole_header limit have n left last bytes filled content text (take n chunk) whole is mark u in
    let len : length content ≡ length (joined f.parts) = ap length (f.content_is ∙ append-nil (joined f.parts)) in
    record {
      parts = f.parts;
      are_parts = f.are_parts;
      last = last;
      n = left;
      below = below;
      some = some;
      within = omega arith;
      after = drop n chunk;
      bytes_are = ap (λ t. text ++ t) (sym (take-append-drop n chunk)) ∙ sym (append_assoc text (take n chunk) (drop n chunk)) ∙ ap (λ t. t ++ drop n chunk) f.text_is ∙ append_assoc (unended f.parts) (header last left) (drop n chunk);
    }

-- ---- a fragment's content

more_content : (text content got taken tail : List ℕ) (f : Follows text content (tail ++ got) got) → Follows (text ++ taken) (content ++ taken) (tail ++ (got ++ taken)) (got ++ taken)
more_content text content got taken tail f = record {
  parts = f.parts;
  are_parts = f.are_parts;
  content_is = ap (λ t. t ++ taken) f.content_is ∙ append_assoc (joined f.parts) got taken;
  text_is = ap (λ t. t ++ taken) f.text_is ∙ append_assoc (unended f.parts) (tail ++ got) taken ∙ ap (λ t. unended f.parts ++ t) (append_assoc tail got taken);
}

pub body_goes : (limit left n : ℕ) (last : Bool) (content text taken : List ℕ) → n ≤ left → length taken ≡ n → Leads limit (Body last left) content text → Leads limit (stage_of (nat_lt 0 (left - n)) last (left - n)) (content ++ taken) (text ++ taken)
body_goes limit left n last content text taken le len u =
    let got = u.1 in
    let got_len : length (got ++ taken) ≡ length got + n = length-append got taken ∙ ap (λ k. length got + k) len in
    let content_len : length (content ++ taken) ≡ length content + n = length-append content taken ∙ ap (λ k. length content + k) len in
    let same : length got + left ≡ length (got ++ taken) + (left - n) = omega arith in
    at_body limit (left - n) (nat_lt 0 (left - n)) last (content ++ taken) (text ++ taken) (got ++ taken) refl (omega (arith, u.3)) (omega (arith, u.0))
    (subst (λ k. Follows (text ++ taken) (content ++ taken) (header last k ++ (got ++ taken)) (got ++ taken)) same (more_content text content got taken (header last (length got + left)) u.4))

-- ---- the same of a reader

abbrev pub unfinished_at : (p : Progress) (stage : Stage) (text : List ℕ) → p.stage ≡ stage → Unfinished text p → Leads p.limit stage p.content text
unfinished_at p stage text e u = subst (λ s. Leads p.limit s p.content text) e u

-- the new progress has this stage and content, and the old limit
pub record IsNow (old new : Progress) (stage : Stage) (content : List ℕ) : Type 0 where
  pub limit : new.limit ≡ old.limit
  pub stage_is : new.stage ≡ stage
  pub content_is : new.content ≡ content

now_at : (old new : Progress) (stage : Stage) (content text : List ℕ) → IsNow old new stage content → Leads old.limit stage content text → Unfinished text new
now_at old new stage content text is u =
    subst (λ k. Leads k new.stage new.content text) (sym is.limit) (subst (λ s. Leads old.limit s new.content text) (sym is.stage_is) (subst (λ t. Leads old.limit stage t text) (sym is.content_is) u))

pub body_moves : (old new : Progress) (last : Bool) (left n : ℕ) (taken : List ℕ) → old.stage ≡ Body last left → n ≤ left → length taken ≡ n → IsNow old new (stage_of (nat_lt 0 (left - n)) last (left - n)) (old.content ++ taken) → Moves old taken new
body_moves old new last left n taken stage le len is text u =
    now_at old new (stage_of (nat_lt 0 (left - n)) last (left - n)) (old.content ++ taken) (text ++ taken) is (body_goes old.limit left n last old.content text taken le len (unfinished_at old (Body last left) text stage u))

pub part_header_moves : (old new : Progress) (have n : ℕ) (bytes filled taken : List ℕ) → old.stage ≡ Header bytes have → have + n < 4 → take (have + n) filled ≡ take have bytes ++ taken → IsNow old new (Header filled (have + n)) old.content → Moves old taken new
part_header_moves old new have n bytes filled taken stage short fill is text u =
    now_at old new (Header filled (have + n)) old.content (text ++ taken) is (header_goes old.limit have n bytes filled old.content text taken short fill (unfinished_at old (Header bytes have) text stage u))

pub header_moves : (old new : Progress) (have n left : ℕ) (last : Bool) (bytes filled taken : List ℕ) → old.stage ≡ Header bytes have → 4 ≤ have + n → take (have + n) filled ≡ take have bytes ++ taken → filled ≡ header last left → left < 2 ^ 31 → length old.content + left ≤ old.limit → IsNow old new (stage_of (nat_lt 0 left) last left) old.content → Moves old taken new
header_moves old new have n left last bytes filled taken stage whole fill mark below within is text u =
    now_at old new (stage_of (nat_lt 0 left) last left) old.content (text ++ taken) is (header_done old.limit have n left last bytes filled old.content text taken whole fill mark below within (unfinished_at old (Header bytes have) text stage u))

pub header_brings : (old : Progress) (have n left : ℕ) (last : Bool) (bytes filled chunk : List ℕ) → old.stage ≡ Header bytes have → 4 ≤ have + n → take (have + n) filled ≡ take have bytes ++ take n chunk → filled ≡ header last left → left < 2 ^ 31 → old.limit < length old.content + left → BringsTooLong old chunk
header_brings old have n left last bytes filled chunk stage whole fill mark below over text u =
    header_above old.limit have n left last bytes filled old.content text chunk whole fill mark below over (unfinished_at old (Header bytes have) text stage u)

pub header_asks : (old : Progress) (have n left : ℕ) (last : Bool) (bytes filled chunk : List ℕ) → old.stage ≡ Header bytes have → 4 ≤ have + n → take (have + n) filled ≡ take have bytes ++ take n chunk → filled ≡ header last left → left < 2 ^ 31 → 0 < left → length old.content + left ≤ old.limit → AsksForRoom old chunk
header_asks old have n left last bytes filled chunk stage whole fill mark below some inside text u =
    header_within old.limit have n left last bytes filled old.content text chunk whole fill mark below some inside (unfinished_at old (Header bytes have) text stage u)

-- ---- one step and another

pub moves_on : (a b d : Progress) (xs ys : List ℕ) → Moves a xs b → Moves b ys d → Moves a (xs ++ ys) d
moves_on a b d xs ys first second text u = subst (λ t. Unfinished t d) (append_assoc text xs ys) (second (text ++ xs) (first text u))

pub moves_within : (a b d : Progress) (xs : List ℕ) (i n : ℕ) → Moves a (take i xs) b → Moves b (take n (take (length xs - i) (drop i xs))) d → Moves a (take (i + n) xs) d
moves_within a b d xs i n first second =
    let rest : Moves b (take n (drop i xs)) d = subst (λ t. Moves b (take n t) d) (take_rest xs i) second in
    subst (λ t. Moves a t d) (sym (take-add i n xs)) (moves_on a b d (take i xs) (take n (drop i xs)) first rest)

pub keeps_header : (limit len capacity have : ℕ) (stage : Stage) (bytes : List ℕ) → stage ≡ Header bytes have → KeepsStage limit len capacity stage → len ≤ limit
keeps_header limit len capacity have stage bytes e k =
    let kept = subst (KeepsStage limit len capacity) e k in
    kept.1

pub within_rest : (xs : List ℕ) (i n : ℕ) → i ≤ length xs → n ≤ length (take (length xs - i) (drop i xs)) → i + n ≤ length xs
within_rest xs i n within more =
    let some : n ≤ length (drop i xs) = subst (λ t. n ≤ length t) (take_rest xs i) more in
    omega (arith, length-drop i xs)
