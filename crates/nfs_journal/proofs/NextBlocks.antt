-- What is next in a file, from what was read of it.
use Rattle.std.proofs.Common.{◌≡◌, ℕ, zero, suc, ◌+◌, ◌-◌, ◌^◌, ◌<◌, ◌≤◌, Bool, true, false, List, [], ◌∷◌, ◌++◌, take, drop, get_or, length, Option, Some, None, Result, Ok, Err, inl, inr, refl, sym, ap, subst, ◌∙◌, append_assoc, append-nil, length-take-le, le_refl, slice_range, arith}
use Rattle.std.proofs.lemmas.Bool.{false≢true}
use Rattle.std.proofs.lemmas.List.{drop_at, length-append, take_all, take_at, take_more}
use Rattle.std.proofs.lemmas.Slice.{take-put_mid_below}
use borrow.Rule.Slice.PartMut.{put_mid, post_of}
use lib.Seq.{take-add, take-append-le}
use Rattle.std.proofs.lemmas.Nat.{from_be_bytes-to_be_bytes_8}
use Rattle.std.specs.Int.{w32, w64, from_be_bytes, to_be_bytes}
use Rattle.std.specs.Io.KnownBytes.{Consumes, Keeps}
use Rattle.std.specs.Prelude.{◌↔◌, IfOk, IsTrue}
use Rattle.nfs_xdr.specs.Known.{IsAtEnd, Shrinks}
use Rattle.nfs_checksum.specs.Checksums.{crc32c}
use Rattle.nfs_journal.specs.Blocks.{Block, IsHeader, IsNoHeader, block_at, block_text, fields_text, header_of, header_text, is_allowed, kind_number, kind_of}
use Rattle.nfs_journal.specs.NextBlock.{AreZeros, IsCut, IsTorn, OfLeft, TellsZeros}
use Rattle.nfs_journal.specs.declared.block.BlockHeader.{BlockHeader}
use Rattle.nfs_journal.specs.declared.block.BlockKind.{BlockKind}
use Rattle.nfs_journal.specs.declared.block.BlockKind.TheVariants.{Entries, Exports, Description}
use Rattle.nfs_journal.proofs.BlocksRead.{found_there, block_length, header_length, kind_read, len_read, parts, none_or_some, same_header, same_some, second_true, small}

-- ---- bytes that are left

pub shrinks_then : (a b c : Option (List ℕ)) (xs ys : List ℕ) → Shrinks a xs b → Shrinks b ys c → Shrinks a (xs ++ ys) c
shrinks_then a b c xs ys first second before e =
    let f = first before e in
    let g = second f.0 f.1 in
    (g.0, g.1, f.2 ∙ ap (λ t. xs ++ t) g.2 ∙ sym (append_assoc xs ys g.0))

pub shrinks_none : (a : Option (List ℕ)) → Shrinks a [] a
shrinks_none a before e = (before, e, refl)

pub consumed : (a b : Option (List ℕ)) (xs : List ℕ) → Consumes a b xs → Shrinks a xs b
consumed None b xs c before e = absurd (none_or_some before e)
consumed (Some all) None xs c before e = absurd c
consumed (Some all) (Some rest) xs c before e = (rest, refl, sym (same_some all before e) ∙ c)

pub kept : (a b : Option (List ℕ)) → Keeps a b → Shrinks a [] b
kept None b k before e = absurd (none_or_some before e)
kept (Some all) None k before e = absurd k
kept (Some all) (Some rest) k before e = (rest, refl, sym (same_some all before e) ∙ sym k)

-- ---- the part of a buffer that was filled

take_split : (a b : ℕ) (old new : List ℕ) → a ≤ b → take a new ≡ take a old → take a old ++ slice_range new a b ≡ take b new
take_split a b old new h front =
    let same : a + (b - a) ≡ b = omega arith in
    ap (λ l. l ++ slice_range new a b) (sym front) ∙ sym (take-add a (b - a) new) ∙ ap (λ n. take n new) same

slice_range-put_mid : (a k n : ℕ) (xs ys : List ℕ) → a ≤ length xs → n ≤ length ys → slice_range (put_mid a k xs ys) a (a + n) ≡ take n ys
slice_range-put_mid a k n xs ys within fits =
    let same : (a + n) - a ≡ n = omega arith in
    let after = post_of a k xs in
    ap (take ((a + n) - a)) (drop_at (take a xs) (ys ++ after) a (length-take-le a xs within)) ∙ ap (λ m. take m (ys ++ after)) same ∙ take-append-le n ys after fits

pub filled : (at k n : ℕ) (xs ys : List ℕ) → at ≤ length xs → n ≤ length ys → take at xs ++ take n ys ≡ take (at + n) (put_mid at k xs ys)
filled at k n xs ys within fits =
    ap (λ l. take at xs ++ l) (sym (slice_range-put_mid at k n xs ys within fits))
    ∙ take_split at (at + n) xs (put_mid at k xs ys) (omega arith) (take-put_mid_below _ _ _ _ _ (le_refl _) within)

-- ---- zeros

zeros_with : (a b : List ℕ) → AreZeros a → AreZeros b → AreZeros (a ++ b)
zeros_with [] b p q = q
zeros_with (x ∷ a) b p q = (p.0, zeros_with a b p.1 q)

zeros_first : (a b : List ℕ) → AreZeros (a ++ b) → AreZeros a
zeros_first [] b p = tt
zeros_first (x ∷ a) b p = (p.0, zeros_first a b p.1)

zeros_after : (a b : List ℕ) → AreZeros (a ++ b) → AreZeros b
zeros_after [] b p = p
zeros_after (x ∷ a) b p = zeros_after a b p.1

pub one_more : (bytes : List ℕ) (i : ℕ) → i < length bytes → get_or bytes i 0 ≡ 0 → AreZeros (take i bytes) → AreZeros (take (i + 1) bytes)
one_more bytes i less e zeros = subst AreZeros (sym (take_more bytes i 0 less)) (zeros_with (take i bytes) (get_or bytes i 0 ∷ []) zeros (e, tt))

pub zero_at : (bytes : List ℕ) (i : ℕ) → AreZeros bytes → get_or bytes i 0 ≡ 0
zero_at [] i zeros = refl
zero_at (x ∷ bytes) zero zeros = zeros.0
zero_at (x ∷ bytes) (suc i) zeros = zero_at bytes i zeros.1

-- what was passed over is nothing but zeros
abbrev pub PassesZeros : Option (List ℕ) → Option (List ℕ) → Type 0
PassesZeros old new = (before : List ℕ) → old ≡ Some before → (zeros : List ℕ) × (after : List ℕ) × (new ≡ Some after) × (before ≡ zeros ++ after) × AreZeros zeros

pub nothing_passed : (left : Option (List ℕ)) → PassesZeros left left
nothing_passed left before e = ([], before, e, refl, tt)

pub passes_more : (a b c : Option (List ℕ)) (xs : List ℕ) → PassesZeros a b → Shrinks b xs c → AreZeros xs → PassesZeros a c
passes_more a b c xs passed shrinks zeros before e =
    let p = passed before e in
    let s = shrinks p.1 p.2 in
    (p.0 ++ xs, s.0, s.1, p.3 ∙ ap (λ l. p.0 ++ l) s.2 ∙ sym (append_assoc p.0 xs s.0), zeros_with p.0 xs p.4 zeros)

pub all_zeros : (a b : Option (List ℕ)) → PassesZeros a b → IsAtEnd b → TellsZeros true a
all_zeros a b passed end before e =
    let p = passed before e in
    (λ is. subst AreZeros (sym (p.3 ∙ ap (λ l. p.0 ++ l) (end p.1 p.2) ∙ append-nil p.0)) p.4, λ zeros. refl)

pub other_byte : (a b c : Option (List ℕ)) (xs : List ℕ) → PassesZeros a b → Shrinks b xs c → (AreZeros xs → ⊥) → TellsZeros false a
other_byte a b c xs passed shrinks other before e =
    let p = passed before e in
    let s = shrinks p.1 p.2 in
    (λ is. absurd (false≢true is), λ zeros. absurd (other (zeros_first xs s.0 (zeros_after p.0 (xs ++ s.0) (subst AreZeros (p.3 ∙ ap (λ l. p.0 ++ l) s.2) zeros)))))

pub zeros_after_front : {E : Type 0} (r : Result Bool E) (front : List ℕ) (left : Option (List ℕ)) → AreZeros front → IfOk r (λ is. TellsZeros is left)
    → IfOk r (λ is. OfLeft (λ after. IsTrue is ↔ AreZeros (front ++ after)) left)
zeros_after_front (Ok is) front left zeros tells =
    λ after e. (λ yes. zeros_with front after zeros ((tells after e).0 yes), λ all. (tells after e).1 (zeros_after front after all))
zeros_after_front (Err e) front left zeros tells = tt

-- ---- one header

middle_field : (k n l s rest : List ℕ) → length k ≡ 4 → length n ≡ 8 → length l ≡ 4 → take 8 (drop 4 ((k ++ n ++ l ++ s) ++ rest)) ≡ n
middle_field k n l s rest four eight last =
    ap (λ bytes. take 8 (drop 4 bytes)) (parts k n l s rest four eight last) ∙ ap (take 8) (drop_at k (n ++ (l ++ (s ++ rest))) 4 four) ∙ take_at n (l ++ (s ++ rest)) 8 eight

number_read : (h : BlockHeader) (rest : List ℕ) → h.number < 2 ^ 64 → from_be_bytes w64 (take 8 (drop 4 (header_text h ++ rest))) ≡ h.number
number_read h rest less =
    let field = middle_field (to_be_bytes w32 (kind_number h.kind)) (to_be_bytes w64 h.number) (to_be_bytes w32 h.len) (to_be_bytes w32 (crc32c (fields_text h))) rest refl refl refl in
    ap (from_be_bytes w64) field ∙ from_be_bytes-to_be_bytes_8 h.number less

pub headers_once : (a b : BlockHeader) → IsHeader a → IsHeader b → header_text a ≡ header_text b → a ≡ b
headers_once a b p q e =
    let text = ap (λ t. t ++ []) e in
    same_header a b
    (sym (kind_read a []) ∙ ap (λ t. kind_of (from_be_bytes w32 (take 4 t))) text ∙ kind_read b [])
    (sym (number_read a [] p.number) ∙ ap (λ t. from_be_bytes w64 (take 8 (drop 4 t))) text ∙ number_read b [] q.number)
    (sym (len_read a [] p.len) ∙ ap (λ t. from_be_bytes w32 (take 4 (drop 12 t))) text ∙ len_read b [] q.len)

-- a header that may stand there has the sizes of one in memory
sizes : (number : ℕ) (h : BlockHeader) → number < 2 ^ 64 → h.number ≡ number → is_allowed h ≡ true → IsHeader h
sizes number h less e allowed = record { number = subst (λ n. n < 2 ^ 64) (sym e) less; len = small h.kind h.len (second_true _ _ allowed) }

first_same : (a b x y : List ℕ) → length a ≡ 20 → length x ≡ 20 → a ++ b ≡ x ++ y → a ≡ x
first_same a b x y p q e = sym (take_at a b 20 p) ∙ ap (take 20) e ∙ take_at x y 20 q

after_same : (a b x y : List ℕ) → length a ≡ 20 → length x ≡ 20 → a ++ b ≡ x ++ y → b ≡ y
after_same a b x y p q e = sym (drop_at a b 20 p) ∙ ap (drop 20) e ∙ drop_at x y 20 q

not_zeros : (kind : BlockKind) (number len : ℕ) (rest : List ℕ) → AreZeros (header_text (record { kind = kind; number = number; len = len }) ++ rest) → ⊥
not_zeros Entries number len rest zeros = let one : 1 ≡ 0 = zero_at (header_text (record { kind = Entries; number = number; len = len }) ++ rest) 3 zeros in omega (arith, one)
not_zeros Exports number len rest zeros = let two : 2 ≡ 0 = zero_at (header_text (record { kind = Exports; number = number; len = len }) ++ rest) 3 zeros in omega (arith, two)
not_zeros Description number len rest zeros = let three : 3 ≡ 0 = zero_at (header_text (record { kind = Description; number = number; len = len }) ++ rest) 3 zeros in omega (arith, three)

none_by : (number : ℕ) (all : List ℕ) (one : Option (Block × List ℕ)) → block_at number all ≡ one
    → ((b : Block) (rest : List ℕ) → all ≡ block_text number b ++ rest → is_allowed (header_of number b) ≡ true → ⊥) → block_at number all ≡ None
none_by number all None e never = e
none_by number all (Some found) e never = let there = found_there number all found e in absurd (never found.0 found.1 there.0 there.1)

few_bytes : (number : ℕ) (all : List ℕ) → length all < 20 → block_at number all ≡ None
few_bytes number all few = none_by number all (block_at number all) refl never
  where
    never : (b : Block) (rest : List ℕ) → all ≡ block_text number b ++ rest → is_allowed (header_of number b) ≡ true → ⊥
    never b rest e allowed =
        let len : length all ≡ length (block_text number b) + length rest = ap length e ∙ length-append (block_text number b) rest in
        omega (arith, few, len, block_length number b)

-- what stands after as many bytes as a header has
module _ (number : ℕ) (all front after : List ℕ) (less : number < 2 ^ 64) (twenty : length front ≡ 20) (all_are : all ≡ front ++ after) where
  block_front : (b : Block) (rest : List ℕ) → all ≡ block_text number b ++ rest → header_text (header_of number b) ≡ front
  block_front b rest e =
      first_same (header_text (header_of number b)) (b.bytes ++ rest) front after (header_length (header_of number b)) twenty
      (sym (append_assoc (header_text (header_of number b)) b.bytes rest) ∙ sym e ∙ all_are)

  block_after : (b : Block) (rest : List ℕ) → all ≡ block_text number b ++ rest → b.bytes ++ rest ≡ after
  block_after b rest e =
      after_same (header_text (header_of number b)) (b.bytes ++ rest) front after (header_length (header_of number b)) twenty
      (sym (append_assoc (header_text (header_of number b)) b.bytes rest) ∙ sym e ∙ all_are)

  cut_front : (c : IsCut number all) → header_text c.header ≡ front
  cut_front c = first_same (header_text c.header) c.part front after (header_length c.header) twenty (sym c.bytes_are ∙ all_are)

  not_few : length all < 20 → ⊥
  not_few few = let len : length all ≡ length front + length after = ap length all_are ∙ length-append front after in omega (arith, few, len, twenty)

  pub no_header : IsNoHeader front → block_at number all ≡ None
  no_header none = none_by number all (block_at number all) refl (λ b rest e allowed. none (header_of number b) (sizes number (header_of number b) less refl allowed) (block_front b rest e))

  pub not_torn : IsNoHeader front → (AreZeros (front ++ after) → ⊥) → IsTorn number all → ⊥
  not_torn none other (inl few) = not_few few
  not_torn none other (inr (inl c)) = none c.header (sizes number c.header less c.number_is c.allowed) (cut_front c)
  not_torn none other (inr (inr zeros)) = other (subst AreZeros all_are zeros)

  -- a header stands there
  module _ (h : BlockHeader) (is : IsHeader h) (h_is : header_text h ≡ front) where
    its_block : (b : Block) (rest : List ℕ) → all ≡ block_text number b ++ rest → is_allowed (header_of number b) ≡ true → header_of number b ≡ h
    its_block b rest e allowed = headers_once (header_of number b) h (sizes number (header_of number b) less refl allowed) is (block_front b rest e ∙ sym h_is)

    its_cut : (c : IsCut number all) → c.header ≡ h
    its_cut c = headers_once c.header h (sizes number c.header less c.number_is c.allowed) is (cut_front c ∙ sym h_is)

    pub other_header : (h.number ≡ number → is_allowed h ≡ true → ⊥) → block_at number all ≡ None
    other_header other = none_by number all (block_at number all) refl
        (λ b rest e allowed. other (sym (ap (λ (x : BlockHeader). x.number) (its_block b rest e allowed))) (subst (λ x. is_allowed x ≡ true) (its_block b rest e allowed) allowed))

    pub other_not_torn : (h.number ≡ number → is_allowed h ≡ true → ⊥) → IsTorn number all → ⊥
    other_not_torn other (inl few) = not_few few
    other_not_torn other (inr (inl c)) = other (sym (ap (λ (x : BlockHeader). x.number) (its_cut c)) ∙ c.number_is) (subst (λ x. is_allowed x ≡ true) (its_cut c) c.allowed)
    other_not_torn other (inr (inr zeros)) = not_zeros h.kind h.number h.len after (subst AreZeros (all_are ∙ ap (λ l. l ++ after) (sym h_is)) zeros)

    pub too_few : length after < h.len → block_at number all ≡ None
    too_few few = none_by number all (block_at number all) refl never
      where
        never : (b : Block) (rest : List ℕ) → all ≡ block_text number b ++ rest → is_allowed (header_of number b) ≡ true → ⊥
        never b rest e allowed =
            let len : length b.bytes ≡ h.len = ap (λ (x : BlockHeader). x.len) (its_block b rest e allowed) in
            let total : length b.bytes + length rest ≡ length after = sym (length-append b.bytes rest) ∙ ap length (block_after b rest e) in
            omega (arith, few, len, total)

    pub cut_there : h.number ≡ number → is_allowed h ≡ true → length after < h.len → IsCut number all
    cut_there e allowed few = record { header = h; number_is = e; allowed = allowed; part = after; bytes_are = all_are ∙ ap (λ l. l ++ after) (sym h_is); fewer = few }

-- ---- what is next

pub short_end : (number n : ℕ) (bytes : List ℕ) (left after : Option (List ℕ)) → n < 20 → Shrinks left (take n bytes) after → IsAtEnd after → n ≤ length bytes
    → OfLeft (λ all. (block_at number all ≡ None) × IsTorn number all) left
short_end number n bytes left after few shrinks end within all e =
    let s = shrinks all e in
    let all_are : all ≡ take n bytes = s.2 ∙ ap (λ l. take n bytes ++ l) (end s.0 s.1) ∙ append-nil (take n bytes) in
    let len : length all ≡ n = ap length all_are ∙ length-take-le n bytes within in
    let fewer : length all < 20 = omega (arith, len, few) in
    (few_bytes number all fewer, inl fewer)

-- all of what there was room for
pub full : (n : ℕ) (bytes : List ℕ) (left after : Option (List ℕ)) → length bytes ≤ n → Shrinks left (take n bytes) after → Shrinks left bytes after
full n bytes left after most shrinks = subst (λ l. Shrinks left l after) (take_all n bytes most) shrinks

pub unwritten : (number : ℕ) (front : List ℕ) (left after : Option (List ℕ)) → number < 2 ^ 64 → length front ≡ 20 → Shrinks left front after → IsNoHeader front
    → OfLeft (λ rest. AreZeros (front ++ rest)) after → OfLeft (λ all. (block_at number all ≡ None) × IsTorn number all) left
unwritten number front left after less twenty shrinks none zeros all e =
    let s = shrinks all e in
    (no_header number all front s.0 less twenty s.2 none, inr (inr (subst AreZeros (sym s.2) (zeros s.0 s.1))))

pub no_block : (number : ℕ) (front : List ℕ) (left after : Option (List ℕ)) → number < 2 ^ 64 → length front ≡ 20 → Shrinks left front after → IsNoHeader front
    → OfLeft (λ rest. AreZeros (front ++ rest) → ⊥) after → OfLeft (λ all. (block_at number all ≡ None) × (IsTorn number all → ⊥)) left
no_block number front left after less twenty shrinks none other all e =
    let s = shrinks all e in
    (no_header number all front s.0 less twenty s.2 none, not_torn number all front s.0 less twenty s.2 none (other s.0 s.1))

pub other_block : (number : ℕ) (front : List ℕ) (h : BlockHeader) (left after : Option (List ℕ)) → number < 2 ^ 64 → length front ≡ 20 → Shrinks left front after → IsHeader h → header_text h ≡ front
    → (h.number ≡ number → is_allowed h ≡ true → ⊥) → OfLeft (λ all. (block_at number all ≡ None) × (IsTorn number all → ⊥)) left
other_block number front h left after less twenty shrinks is h_is other all e =
    let s = shrinks all e in
    (other_header number all front s.0 less twenty s.2 h is h_is other, other_not_torn number all front s.0 less twenty s.2 h is h_is other)

pub cut_block : (number n : ℕ) (front bytes : List ℕ) (h : BlockHeader) (left between after : Option (List ℕ)) → number < 2 ^ 64 → length front ≡ 20 → Shrinks left front between → IsHeader h → header_text h ≡ front
    → h.number ≡ number → is_allowed h ≡ true → length bytes ≡ h.len → n < length bytes → Shrinks between (take n bytes) after → IsAtEnd after → OfLeft (λ all. (block_at number all ≡ None) × IsTorn number all) left
cut_block number n front bytes h left between after less twenty shrinks is h_is e allowed len few more end all known =
    let s = shrinks all known in
    let t = more s.0 s.1 in
    let rest_is : s.0 ≡ take n bytes = t.2 ∙ ap (λ l. take n bytes ++ l) (end t.0 t.1) ∙ append-nil (take n bytes) in
    let count : length s.0 ≡ n = ap length rest_is ∙ length-take-le n bytes (omega (arith, few)) in
    let fewer : length s.0 < h.len = omega (arith, count, few, len) in
    (too_few number all front s.0 less twenty s.2 h is h_is fewer, inr (inl (cut_there number all front s.0 less twenty s.2 h is h_is e allowed fewer)))

pub whole_block : (number : ℕ) (front bytes : List ℕ) (h : BlockHeader) (left between after : Option (List ℕ)) → Shrinks left front between → header_text h ≡ front → h.number ≡ number → is_allowed h ≡ true
    → length bytes ≡ h.len → Shrinks between bytes after
    → (is_allowed (header_of number (record { kind = h.kind; bytes = bytes })) ≡ true) × Shrinks left (block_text number (record { kind = h.kind; bytes = bytes })) after
whole_block number front bytes h left between after shrinks h_is e allowed len more =
    let b : Block = record { kind = h.kind; bytes = bytes } in
    let same : h ≡ header_of number b = same_header h (header_of number b) refl e (sym len) in (
      subst (λ x. is_allowed x ≡ true) same allowed,
      subst (λ head. Shrinks left (head ++ bytes) after) (sym h_is ∙ ap header_text same) (shrinks_then left between after front bytes shrinks more),
    )
