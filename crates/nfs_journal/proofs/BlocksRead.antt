-- Blocks, as they are read from what was written.
use Rattle.std.proofs.Common.{◌≡◌, ℕ, zero, suc, ◌+◌, ◌-◌, ◌^◌, ◌<◌, ◌≤◌, Bool, true, false, ◌&&◌, List, [], ◌∷◌, ◌++◌, take, drop, length, Option, Some, None, inl, inr, refl, sym, ap, subst, ◌∙◌, append_assoc, add-zero, length-take-le, if◌then◌else◌, arith}
use Rattle.std.proofs.Math.Seq.{take-append-add}
use Rattle.std.proofs.lemmas.Bool.{le-leb, leb-true, true≢false, false≢true}
use Rattle.std.proofs.lemmas.Bool.Decides.{leb_tells}
use Rattle.std.proofs.lemmas.List.{drop_at, length-append, take-append-drop, take_all, take_at}
use Rattle.std.proofs.lemmas.Nat.{from_be_bytes-to_be_bytes_4}
use Rattle.std.proofs.lemmas.Slice.Eq.{bytes_eq-Decides}
use Rattle.std.specs.Int.{w32, w64, from_be_bytes, to_be_bytes}
use Rattle.std.specs.Prelude.{◌⊎◌, bytes_eq, is_some, leb, nat_le}
use Rattle.nfs_checksum.specs.Checksums.{crc32c}
use Rattle.nfs_server.specs.Entries.{checked}
use Rattle.nfs_journal.specs.Blocks.{AreBlocks, Block, BlocksAreRead, PartIsNoBlock, ReadBlocksAreThere, block_at, block_text, block_with, blocks_at, blocks_text, fields_text, header_like, header_of, header_text, is_allowed, kind_number, kind_of, most_bytes, with_more}
use Rattle.nfs_journal.specs.declared.block.BlockHeader.{BlockHeader}
use Rattle.nfs_journal.specs.declared.block.BlockKind.{BlockKind}
use Rattle.nfs_journal.specs.declared.block.BlockKind.TheVariants.{Entries, Exports, Description}

-- ---- tests

pub first_true : (a b : Bool) → (a && b) ≡ true → a ≡ true
first_true true b e = refl
first_true false b e = absurd (false≢true e)

pub second_true : (a b : Bool) → (a && b) ≡ true → b ≡ true
second_true true b e = e
second_true false b e = absurd (false≢true e)

pub all_true : (a b : Bool) → a ≡ true → b ≡ true → (a && b) ≡ true
all_true a b p q = ap (λ t. t && b) p ∙ q

second_false : (a b : Bool) → b ≡ false → (a && b) ≡ false
second_false true b e = e
second_false false b e = refl

is_not : (t : Bool) → (t ≡ true → ⊥) → t ≡ false
is_not true f = absurd (f refl)
is_not false f = refl

pub same_some : {X : Type 0} (x y : X) → ◌≡◌ {A = Option X} (Some x) (Some y) → x ≡ y
same_some x y e = cc

pub none_or_some : {X : Type 0} (x : X) → ◌≡◌ {A = Option X} None (Some x) → ⊥
none_or_some x e = true≢false (sym (ap is_some e))

-- ---- the header of a block

three : (k n l : List ℕ) → length k ≡ 4 → length n ≡ 8 → length l ≡ 4 → length (k ++ n ++ l) ≡ 16
three k n l p q r = omega (arith, length-append (k ++ n) l, length-append k n, p, q, r)

fields_length : (h : BlockHeader) → length (fields_text h) ≡ 16
fields_length h = three (to_be_bytes w32 (kind_number h.kind)) (to_be_bytes w64 h.number) (to_be_bytes w32 h.len) refl refl refl

pub checked_length : (bytes : List ℕ) → length (checked bytes) ≡ length bytes + 4
checked_length bytes = length-append bytes (to_be_bytes w32 (crc32c bytes))

pub header_length : (h : BlockHeader) → length (header_text h) ≡ 20
header_length h = checked_length (fields_text h) ∙ ap (λ n. n + 4) (fields_length h)

pub block_length : (number : ℕ) (b : Block) → length (block_text number b) ≡ 20 + length b.bytes
block_length number b = length-append (header_text (header_of number b)) b.bytes ∙ ap (λ n. n + length b.bytes) (header_length (header_of number b))

kind_again : (k : BlockKind) → kind_of (kind_number k) ≡ k
kind_again Entries = refl
kind_again Exports = refl
kind_again Description = refl

small_kind : (k : BlockKind) → kind_number k < 2 ^ 32
small_kind Entries = omega arith
small_kind Exports = omega arith
small_kind Description = omega arith

pub small : (k : BlockKind) (len : ℕ) → nat_le len (most_bytes k) ≡ true → len < 2 ^ 32
small Entries len e = let most : len ≤ 4194304 = leb-true len 4194304 e in omega (arith, most)
small Exports len e = let most : len ≤ 4194304 = leb-true len 4194304 e in omega (arith, most)
small Description len e = let most : len ≤ 1048580 = leb-true len 1048580 e in omega (arith, most)

brackets : (k n l s : List ℕ) → k ++ n ++ l ++ s ≡ k ++ (n ++ (l ++ s))
brackets k n l s = simp append_assoc

-- the first field, and the last one, whatever comes after them
module _ (k n l s rest : List ℕ) (four : length k ≡ 4) (eight : length n ≡ 8) (last : length l ≡ 4) where
  pub parts : (k ++ n ++ l ++ s) ++ rest ≡ k ++ (n ++ (l ++ (s ++ rest)))
  parts = append_assoc (k ++ n ++ l) s rest ∙ brackets k n l (s ++ rest)

  first_field : take 4 ((k ++ n ++ l ++ s) ++ rest) ≡ k
  first_field = ap (take 4) parts ∙ take_at k (n ++ (l ++ (s ++ rest))) 4 four

  last_field : take 4 (drop 12 ((k ++ n ++ l ++ s) ++ rest)) ≡ l
  last_field =
      let twelve : length (k ++ n) ≡ 12 = omega (arith, length-append k n, four, eight) in
      let after : drop 12 ((k ++ n ++ l ++ s) ++ rest) ≡ l ++ (s ++ rest) =
      ap (drop 12) (parts ∙ sym (append_assoc k n (l ++ (s ++ rest)))) ∙ drop_at (k ++ n) (l ++ (s ++ rest)) 12 twelve in
      ap (take 4) after ∙ take_at l (s ++ rest) 4 last

pub kind_read : (h : BlockHeader) (rest : List ℕ) → kind_of (from_be_bytes w32 (take 4 (header_text h ++ rest))) ≡ h.kind
kind_read h rest =
    let field = first_field (to_be_bytes w32 (kind_number h.kind)) (to_be_bytes w64 h.number) (to_be_bytes w32 h.len) (to_be_bytes w32 (crc32c (fields_text h))) rest refl refl refl in
    ap (λ bytes. kind_of (from_be_bytes w32 bytes)) field ∙ ap kind_of (from_be_bytes-to_be_bytes_4 (kind_number h.kind) (small_kind h.kind)) ∙ kind_again h.kind

pub len_read : (h : BlockHeader) (rest : List ℕ) → h.len < 2 ^ 32 → from_be_bytes w32 (take 4 (drop 12 (header_text h ++ rest))) ≡ h.len
len_read h rest less =
    let field = last_field (to_be_bytes w32 (kind_number h.kind)) (to_be_bytes w64 h.number) (to_be_bytes w32 h.len) (to_be_bytes w32 (crc32c (fields_text h))) rest refl refl refl in
    ap (from_be_bytes w32) field ∙ from_be_bytes-to_be_bytes_4 h.len less

pub same_header : (a b : BlockHeader) → a.kind ≡ b.kind → a.number ≡ b.number → a.len ≡ b.len → a ≡ b
same_header a b k n l = λ i. record { kind = k i; number = n i; len = l i }

header_read : (number : ℕ) (b : Block) (rest : List ℕ) → length b.bytes < 2 ^ 32 → header_like number (header_text (header_of number b) ++ rest) ≡ header_of number b
header_read number b rest less = same_header _ _ (kind_read (header_of number b) rest) refl (len_read (header_of number b) rest less)

-- ---- one block

-- a block of this kind with these bytes, and what is after it, by whether it is there
abbrev block_by : BlockKind → List ℕ → List ℕ → Bool → Option (Block × List ℕ)
block_by kind bytes after is = if is then Some (record { kind = kind; bytes = bytes }, after) else None

abbrev is_there : BlockHeader → List ℕ → Bool
is_there h bytes = bytes_eq (take 20 bytes) (header_text h) && (is_allowed h && nat_le h.len (length (drop 20 bytes)))

block_is : (h : BlockHeader) (bytes : List ℕ) (is : Bool) → is_there h bytes ≡ is → block_with h bytes ≡ block_by h.kind (take h.len (drop 20 bytes)) (drop h.len (drop 20 bytes)) is
block_is h bytes is e = ap (block_by h.kind (take h.len (drop 20 bytes)) (drop h.len (drop 20 bytes))) e

with_header : (h : BlockHeader) (head body rest : List ℕ) → header_text h ≡ head → length head ≡ 20 → is_allowed h ≡ true → h.len ≡ length body
    → block_with h (head ++ (body ++ rest)) ≡ Some (record { kind = h.kind; bytes = body }, rest)
with_header h head body rest head_is twenty allowed len =
    let whole = head ++ (body ++ rest) in
    let after : drop 20 whole ≡ body ++ rest = drop_at head (body ++ rest) 20 twenty in
    let front : bytes_eq (take 20 whole) (header_text h) ≡ true = (bytes_eq-Decides (take 20 whole) (header_text h)).1 (take_at head (body ++ rest) 20 twenty ∙ sym head_is) in
    let long : nat_le h.len (length (drop 20 whole)) ≡ true = le-leb h.len (length (drop 20 whole)) (omega (arith, len, ap length after, length-append body rest)) in
    block_is h whole true (all_true _ _ front (all_true _ _ allowed long))
    ∙ ap (λ bytes. block_by h.kind bytes (drop h.len (drop 20 whole)) true) (ap (take h.len) after ∙ take_at body rest h.len (sym len))
    ∙ ap (λ bytes. block_by h.kind body bytes true) (ap (drop h.len) after ∙ drop_at body rest h.len (sym len))

pub block_read : (number : ℕ) (b : Block) (rest : List ℕ) → is_allowed (header_of number b) ≡ true → block_at number (block_text number b ++ rest) ≡ Some (b, rest)
block_read number b rest allowed =
    let h = header_of number b in
    let less : length b.bytes < 2 ^ 32 = small b.kind (length b.bytes) (second_true _ _ allowed) in
    ap (block_at number) (append_assoc (header_text h) b.bytes rest)
    ∙ ap (λ like. block_with like (header_text h ++ (b.bytes ++ rest))) (header_read number b (b.bytes ++ rest) less)
    ∙ with_header h (header_text h) b.bytes rest refl (header_length h) allowed refl

-- fewer bytes than a header has
short : (h : BlockHeader) (bytes : List ℕ) → length bytes < 20 → block_with h bytes ≡ None
short h bytes less = block_is h bytes false (ap (λ t. t && (is_allowed h && nat_le h.len (length (drop 20 bytes)))) (is_not (bytes_eq (take 20 bytes) (header_text h)) differs))
  where
    differs : bytes_eq (take 20 bytes) (header_text h) ≡ true → ⊥
    differs same =
        let twenty : length (take 20 bytes) ≡ 20 = ap length ((bytes_eq-Decides (take 20 bytes) (header_text h)).0 same) ∙ header_length h in
        let fewer : length (take 20 bytes) ≡ length bytes = ap length (take_all 20 bytes (omega (arith, less))) in
        omega (arith, twenty, fewer, less)

pub nothing_is_none : (number : ℕ) → block_at number [] ≡ None
nothing_is_none number = short (header_like number []) [] (omega arith)

-- the header, and a first part of the bytes
cut : (number n : ℕ) (b : Block) → length b.bytes < 2 ^ 32 → n < length b.bytes → block_at number (header_text (header_of number b) ++ take n b.bytes) ≡ None
cut number n b small less =
    let h = header_of number b in
    let part = header_text h ++ take n b.bytes in
    let after : drop 20 part ≡ take n b.bytes = drop_at (header_text h) (take n b.bytes) 20 (header_length h) in
    let fewer : length (drop 20 part) ≡ n = ap length after ∙ length-take-le n b.bytes (omega (arith, less)) in
    let long : nat_le h.len (length (drop 20 part)) ≡ false = is_not _ (λ t. omega (arith, leb-true (length b.bytes) (length (drop 20 part)) t, fewer, less)) in
    ap (λ like. block_with like part) (header_read number b (take n b.bytes) small)
    ∙ block_is h part false (second_false _ _ (second_false _ _ long))

part_after : (number n : ℕ) (b : Block) → is_allowed (header_of number b) ≡ true → 20 ≤ n → n < length (block_text number b) → block_at number (take n (block_text number b)) ≡ None
part_after number n b allowed long less =
    let head = header_text (header_of number b) in
    let some : n ≡ length head + (n - 20) = omega (arith, header_length (header_of number b), long) in
    let part : take n (head ++ b.bytes) ≡ head ++ take (n - 20) b.bytes = ap (λ m. take m (head ++ b.bytes)) some ∙ take-append-add head b.bytes (n - 20) in
    let within : n - 20 < length b.bytes = omega (arith, block_length number b, long, less) in
    ap (block_at number) part ∙ cut number (n - 20) b (small b.kind (length b.bytes) (second_true _ _ allowed)) within

part_by : (number n : ℕ) (b : Block) → is_allowed (header_of number b) ≡ true → n < length (block_text number b) → ((leb 20 n ≡ true) × (20 ≤ n)) ⊎ ((leb 20 n ≡ false) × (n < 20))
    → block_at number (take n (block_text number b)) ≡ None
part_by number n b allowed less (inl long) = part_after number n b allowed long.1 less
part_by number n b allowed less (inr fewer) =
    let part = take n (block_text number b) in
    let len : length part ≡ n = length-take-le n (block_text number b) (omega (arith, less)) in
    short (header_like number part) part (omega (arith, len, fewer.1))

pub part_is_none : PartIsNoBlock
part_is_none number n b allowed less = part_by number n b allowed less (leb_tells 20 n)

-- what is found is there

abbrev IsThere : ℕ → List ℕ → Block × List ℕ → Type 0
IsThere number bytes found = (bytes ≡ block_text number found.0 ++ found.1) × (is_allowed (header_of number found.0) ≡ true)

there_as : (number len : ℕ) (kind : BlockKind) (bytes : List ℕ) → is_there (record { kind = kind; number = number; len = len }) bytes ≡ true
    → IsThere number bytes (record { kind = kind; bytes = take len (drop 20 bytes) }, drop len (drop 20 bytes))
there_as number len kind bytes e =
    let h : BlockHeader = record { kind = kind; number = number; len = len } in
    let front : take 20 bytes ≡ header_text h = (bytes_eq-Decides (take 20 bytes) (header_text h)).0 (first_true _ _ e) in
    let rest : (is_allowed h && nat_le len (length (drop 20 bytes))) ≡ true = second_true _ _ e in
    let fits : len ≤ length (drop 20 bytes) = leb-true len (length (drop 20 bytes)) (second_true _ _ rest) in
    let body = take len (drop 20 bytes) in
    let same : len ≡ length body = sym (length-take-le len (drop 20 bytes) fits) in (
      sym (take-append-drop 20 bytes) ∙ ap (λ l. l ++ drop 20 bytes) front ∙ ap (λ l. header_text h ++ l) (sym (take-append-drop len (drop 20 bytes)))
          ∙ sym (append_assoc (header_text h) body (drop len (drop 20 bytes))) ∙ ap (λ n. (header_text (record { kind = kind; number = number; len = n }) ++ body) ++ drop len (drop 20 bytes)) same,
      subst (λ n. is_allowed (record { kind = kind; number = number; len = n }) ≡ true) same (first_true _ _ rest),
    )

there_by : (number len : ℕ) (kind : BlockKind) (bytes : List ℕ) (is : Bool) → is_there (record { kind = kind; number = number; len = len }) bytes ≡ is → (found : Block × List ℕ)
    → block_by kind (take len (drop 20 bytes)) (drop len (drop 20 bytes)) is ≡ Some found → IsThere number bytes found
there_by number len kind bytes true e found some = subst (IsThere number bytes) (same_some _ _ some) (there_as number len kind bytes e)
there_by number len kind bytes false e found some = absurd (none_or_some found some)

pub found_there : (number : ℕ) (bytes : List ℕ) (found : Block × List ℕ) → block_at number bytes ≡ Some found → IsThere number bytes found
found_there number bytes found some =
    let h = header_like number bytes in
    there_by number h.len h.kind bytes (is_there h bytes) refl found some

-- ---- all blocks

abbrev AreThere : ℕ → List ℕ → List Block × List ℕ → Type 0
AreThere number bytes found = (bytes ≡ blocks_text number found.0 ++ found.1) × AreBlocks number found.0

more_there : (number : ℕ) (bytes : List ℕ) (one : Option (Block × List ℕ)) (more : List ℕ → List Block × List ℕ) → block_at number bytes ≡ one
    → ((after : List ℕ) → AreThere (number + 1) after (more after)) → AreThere number bytes (with_more one bytes more)
more_there number bytes None more e there = (refl, tt)
more_there number bytes (Some found) more e there =
    let front = found_there number bytes found e in
    let rest = there found.1 in (
      front.0 ∙ ap (λ l. block_text number found.0 ++ l) rest.0 ∙ sym (append_assoc (block_text number found.0) (blocks_text (number + 1) (more found.1).0) (more found.1).1),
      (front.1, rest.1),
    )

blocks_there : (most number : ℕ) (bytes : List ℕ) → AreThere number bytes (blocks_at most number bytes)
blocks_there zero number bytes = (refl, tt)
blocks_there (suc most) number bytes = more_there number bytes (block_at number bytes) (λ after. blocks_at most (number + 1) after) refl (λ after. blocks_there most (number + 1) after)

pub there : ReadBlocksAreThere
there bytes = blocks_there (length bytes) 1 (drop 78 bytes)

no_more : (most number : ℕ) (rest : List ℕ) → block_at number rest ≡ None → blocks_at most number rest ≡ ([], rest)
no_more zero number rest none = refl
no_more (suc most) number rest none = ap (λ one. with_more one rest (λ after. blocks_at most (number + 1) after)) none

blocks_read : (most number : ℕ) (blocks : List Block) (rest : List ℕ) → AreBlocks number blocks → block_at (number + length blocks) rest ≡ None → length blocks ≤ most
    → blocks_at most number (blocks_text number blocks ++ rest) ≡ (blocks, rest)
blocks_read most number [] rest are none fits = no_more most number rest (subst (λ n. block_at n rest ≡ None) (add-zero number) none)
blocks_read zero number (b ∷ after) rest are none fits = absurd (omega (arith, fits))
blocks_read (suc most) number (b ∷ after) rest are none fits =
    let later = blocks_text (number + 1) after ++ rest in
    let more : List ℕ → List Block × List ℕ = λ bytes. blocks_at most (number + 1) bytes in
    let whole = block_text number b ++ later in
    let next : number + length (b ∷ after) ≡ (number + 1) + length after = omega arith in
    let again : more later ≡ (after, rest) = blocks_read most (number + 1) after rest are.1 (subst (λ n. block_at n rest ≡ None) next none) (omega (arith, fits)) in
    ap (blocks_at (suc most) number) (append_assoc (block_text number b) (blocks_text (number + 1) after) rest)
    ∙ ap (λ one. with_more one whole more) (block_read number b later are.0)
    ∙ ap (λ (found : List Block × List ℕ). (b ∷ found.0, found.1)) again

pub not_more : (number : ℕ) (blocks : List Block) → length blocks ≤ length (blocks_text number blocks)
not_more number [] = omega arith
not_more number (b ∷ after) = omega (arith, not_more (number + 1) after, length-append (block_text number b) (blocks_text (number + 1) after), block_length number b)

pub read : BlocksAreRead
read first rest blocks first_is are none =
    let text = blocks_text 1 blocks ++ rest in
    let after : drop 78 (first ++ text) ≡ text = drop_at first text 78 first_is in
    ap (blocks_at (length (first ++ text)) 1) after
    ∙ blocks_read (length (first ++ text)) 1 blocks rest are none (omega (arith, length-append first text, length-append (blocks_text 1 blocks) rest, not_more 1 blocks))
