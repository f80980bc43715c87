-- What a journal in a file keeps, after what was written to its file.
use Rattle.std.proofs.Common.{◌≡◌, ℕ, ◌+◌, ◌<◌, ◌≤◌, Bool, true, false, List, [], ◌∷◌, ◌++◌, take, length, Option, Some, None, Result, Ok, Err, inl, inr, refl, sym, ap, subst, ◌∙◌, append_assoc, append-nil, add-zero, length-take-le, if◌then◌else◌, arith}
use Rattle.std.proofs.lemmas.Bool.{eq-eqb, eqb-true, le-leb, leb-true}
use Rattle.std.proofs.lemmas.Bool.Decides.{leb_tells}
use Rattle.std.proofs.lemmas.List.{length-append, take-append-drop, take-append-le, take_all}
use Rattle.std.proofs.Math.Seq.{take-append-add}
use Rattle.std.specs.Prelude.{◌⊎◌, leb, OnErr, OnOk}
use Rattle.nfs_xdr.proofs.Knowing.{Grows-then, grows_nothing}
use Rattle.nfs_xdr.specs.Known.{Grows, GrowsByPart}
use Rattle.nfs_journal.specs.Blocks.{AreBlocks, Block, block_at, block_text, blocks_text, entries_in, entries_text, header_of, is_allowed, journal_blocks}
use Rattle.nfs_journal.specs.OnFile.{is_whole, lasting_in, next_block}
use Rattle.nfs_journal.specs.declared.block.BlockKind.TheVariants.{Entries}
use Rattle.nfs_journal.proofs.BlocksRead.{all_true, first_true, none_or_some, nothing_is_none, part_is_none, read, same_some, second_true, there}

-- ---- parts of what is written

pub part_of_first : (old new : Option (List ℕ)) (first second : List ℕ) → GrowsByPart old first new → GrowsByPart old (first ++ second) new
part_of_first old new first second part =
    let within = part.1 in
    (part.0, omega (arith, within, length-append first second), subst (λ l. Grows old l new) (sym (take-append-le part.0 first second part.1)) part.2)

pub part_of_second : (old between new : Option (List ℕ)) (first second : List ℕ) → Grows old first between → GrowsByPart between second new → GrowsByPart old (first ++ second) new
part_of_second old between new first second grows part =
    let within = part.1 in (
      length first + part.0,
      omega (arith, within, length-append first second),
      subst (λ l. Grows old l new) (sym (take-append-add first second part.0)) (Grows-then old between new first (take part.0 second) grows part.2),
    )

pub all_is_part : (old new : Option (List ℕ)) (bytes : List ℕ) → Grows old bytes new → GrowsByPart old bytes new
all_is_part old new bytes grows = (length bytes, omega arith, subst (λ l. Grows old l new) (sym (take_all (length bytes) bytes (omega arith))) grows)

pub none_is_part : (old new : Option (List ℕ)) (bytes : List ℕ) → Grows old [] new → GrowsByPart old bytes new
none_is_part old new bytes grows = (0, omega arith, grows)

-- what a buffer lends after a header was written to it, and bytes after that
pub head_lent : (before after lent head : List ℕ) → before ≡ [] → after ≡ before ++ head → lent ≡ after → lent ≡ head
head_lent before after lent head e f g = g ∙ f ∙ ap (λ l. l ++ head) e

pub block_lent : (before after all lent head bytes : List ℕ) → before ≡ [] → after ≡ before ++ head → all ≡ after ++ bytes → lent ≡ all → lent ≡ head ++ bytes
block_lent before after all lent head bytes e f g h = h ∙ g ∙ ap (λ l. l ++ bytes) (head_lent before after after head e f refl)

pub on_ok : {A E P Q : Type 0} (r : Result A E) → (P → Q) → OnOk r P → OnOk r Q
on_ok (Ok x) f p = f p
on_ok (Err e) f p = tt

pub on_err : {A E P Q : Type 0} (r : Result A E) → (P → Q) → OnErr r P → OnErr r Q
on_err (Ok x) f p = tt
on_err (Err e) f p = f p

pub at_err : {A E P : Type 0} (r : Result A E) → P → OnErr r P
at_err (Ok x) p = tt
at_err (Err e) p = p

pub from_ok : {A E P Q R S T : Type 0} (r : Result A E) → (P → Q → R → S → T) → OnOk r P → OnOk r Q → OnOk r R → OnOk r S → OnOk r T
from_ok (Ok x) f p q s t = f p q s t
from_ok (Err e) f p q s t = tt

pub from_err : {A E P Q R : Type 0} (r : Result A E) → (P → Q → R) → OnErr r P → OnErr r Q → OnErr r R
from_err (Ok x) f p q = tt
from_err (Err e) f p q = f p q

-- ---- one block more

text_with : (number : ℕ) (blocks : List Block) (b : Block) → blocks_text number (blocks ++ b ∷ []) ≡ blocks_text number blocks ++ block_text (number + length blocks) b
text_with number [] b = append-nil (block_text number b) ∙ ap (λ n. block_text n b) (sym (add-zero number))
text_with number (a ∷ after) b =
    let next : (number + 1) + length after ≡ number + length (a ∷ after) = omega arith in
    ap (λ l. block_text number a ++ l) (text_with (number + 1) after b ∙ ap (λ n. blocks_text (number + 1) after ++ block_text n b) next)
    ∙ sym (append_assoc (block_text number a) (blocks_text (number + 1) after) (block_text (number + length (a ∷ after)) b))

are_with : (number : ℕ) (blocks : List Block) (b : Block) → AreBlocks number blocks → is_allowed (header_of (number + length blocks) b) ≡ true → AreBlocks number (blocks ++ b ∷ [])
are_with number [] b are allowed = (subst (λ n. is_allowed (header_of n b) ≡ true) (add-zero number) allowed, tt)
are_with number (a ∷ after) b are allowed =
    let next : number + length (a ∷ after) ≡ (number + 1) + length after = omega arith in
    (are.0, are_with (number + 1) after b are.1 (subst (λ n. is_allowed (header_of n b) ≡ true) next allowed))

entries_with : (blocks : List Block) (bytes : List ℕ) → entries_text (blocks ++ record { kind = Entries; bytes = bytes } ∷ []) ≡ entries_text blocks ++ bytes
entries_with [] bytes = append-nil bytes
entries_with (a ∷ after) bytes =
    ap (λ l. entries_in a.kind a.bytes ++ l) (entries_with after bytes) ∙ sym (append_assoc (entries_in a.kind a.bytes) (entries_text after) bytes)

empty : (l : List ℕ) → length l ≡ 0 → l ≡ []
empty [] e = refl
empty (x ∷ l) e = absurd (omega (arith, e))

-- a journal in a file that is whole, and the bytes of the next block
module _ (contents bytes : List ℕ) (next : ℕ) (whole : is_whole next contents ≡ true) (fits : length bytes ≤ 4194304) where
  allowed : (number : ℕ) → is_allowed (header_of number (record { kind = Entries; bytes = bytes })) ≡ true
  allowed number = le-leb (length bytes) 4194304 fits

  long : 78 ≤ length contents
  long = leb-true 78 (length contents) (first_true _ _ whole)

  nothing_after : (journal_blocks contents).1 ≡ []
  nothing_after = empty _ (eqb-true _ 0 (first_true _ _ (second_true _ _ whole)))

  next_is : next ≡ 1 + length (journal_blocks contents).0
  next_is = eqb-true next _ (second_true _ _ (second_true _ _ whole))

  contents_are : contents ≡ take 78 contents ++ blocks_text 1 (journal_blocks contents).0
  contents_are =
      sym (take-append-drop 78 contents) ∙ ap (λ l. take 78 contents ++ l) ((there contents).0 ∙ ap (λ l. blocks_text 1 (journal_blocks contents).0 ++ l) nothing_after
      ∙ append-nil (blocks_text 1 (journal_blocks contents).0))

  pub after_block : journal_blocks (contents ++ next_block next bytes) ≡ ((journal_blocks contents).0 ++ record { kind = Entries; bytes = bytes } ∷ [], [])
  after_block =
      let b : Block = record { kind = Entries; bytes = bytes } in
      let found = (journal_blocks contents).0 in
      let first = take 78 contents in
      let text : contents ++ next_block next bytes ≡ first ++ (blocks_text 1 (found ++ b ∷ []) ++ []) =
      ap (λ l. l ++ next_block next bytes) contents_are ∙ append_assoc first (blocks_text 1 found) (next_block next bytes)
      ∙ ap (λ n. first ++ (blocks_text 1 found ++ block_text n b)) next_is
      ∙ ap (λ l. first ++ l) (sym (text_with 1 found b) ∙ sym (append-nil (blocks_text 1 (found ++ b ∷ [])))) in
      ap journal_blocks text
      ∙ read first [] (found ++ b ∷ []) (length-take-le 78 contents long) (are_with 1 found b (there contents).1 (allowed (1 + length found))) (nothing_is_none (1 + length (found ++ b ∷ [])))

  pub after_part : (n : ℕ) → n < length (next_block next bytes) → journal_blocks (contents ++ take n (next_block next bytes)) ≡ ((journal_blocks contents).0, take n (next_block next bytes))
  after_part n less =
      let b : Block = record { kind = Entries; bytes = bytes } in
      let found = (journal_blocks contents).0 in
      let first = take 78 contents in
      let part = take n (next_block next bytes) in
      ap (λ l. journal_blocks (l ++ part)) contents_are ∙ ap journal_blocks (append_assoc first (blocks_text 1 found) part)
      ∙ read first part found (length-take-le 78 contents long) (there contents).1
      (ap (λ m. block_at m part) (sym next_is) ∙ part_is_none next n b (allowed next) less)

  -- the entries in the file after the block, or after a part of it

  pub kept_after_block : entries_text (journal_blocks (contents ++ next_block next bytes)).0 ≡ entries_text (journal_blocks contents).0 ++ bytes
  kept_after_block = ap (λ (found : List Block × List ℕ). entries_text found.0) after_block ∙ entries_with (journal_blocks contents).0 bytes

  pub whole_after_block : is_whole (next + 1) (contents ++ next_block next bytes) ≡ true
  whole_after_block =
      let now = contents ++ next_block next bytes in
      let b : Block = record { kind = Entries; bytes = bytes } in
      let found = (journal_blocks contents).0 in
      let end : length (journal_blocks now).1 ≡ 0 = ap (λ (found : List Block × List ℕ). length found.1) after_block in
      let count : length (journal_blocks now).0 ≡ length found + 1 = ap (λ (found : List Block × List ℕ). length found.0) after_block ∙ length-append found (b ∷ []) in
      all_true _ _ (le-leb 78 (length now) (omega (arith, long, length-append contents (next_block next bytes))))
      (all_true _ _ (eq-eqb (length (journal_blocks now).1) 0 end) (eq-eqb (next + 1) (1 + length (journal_blocks now).0) (omega (arith, next_is, count))))

  pub kept_after_part : (n : ℕ) → n < length (next_block next bytes) → entries_text (journal_blocks (contents ++ take n (next_block next bytes))).0 ≡ entries_text (journal_blocks contents).0
  kept_after_part n less = ap (λ (found : List Block × List ℕ). entries_text found.0) (after_part n less)

-- ---- what lasts

-- the entries, by whether they are known
abbrev kept_by : List ℕ → Bool → Option (List ℕ)
kept_by contents is = if is then Some (entries_text (journal_blocks contents).0) else None

-- that they were these tells that the journal was whole
was_whole : (contents before : List ℕ) (is : Bool) → kept_by contents is ≡ Some before → (is ≡ true) × (entries_text (journal_blocks contents).0 ≡ before)
was_whole contents before true e = (refl, same_some _ _ e)
was_whole contents before false e = absurd (none_or_some before e)

pub lasts_on : (old new : Option (List ℕ)) (next after : ℕ) (bytes : List ℕ) → length bytes ≤ 4194304 → after ≡ next + 1 → Grows old (next_block next bytes) new
    → Grows (lasting_in old false next) bytes (lasting_in new false after)
lasts_on None new next after bytes fits one grows before e = absurd (none_or_some before e)
lasts_on (Some contents) new next after bytes fits one grows before e =
    let was = was_whole contents before (is_whole next contents) e in
    let now = contents ++ next_block next bytes in
    ap (λ o. lasting_in o false after) (grows contents refl) ∙ ap (λ n. kept_by now (is_whole n now)) one
    ∙ ap (kept_by now) (whole_after_block contents bytes next was.0 fits) ∙ ap Some (kept_after_block contents bytes next was.0 fits ∙ ap (λ l. l ++ bytes) was.1)

-- a part of a block is none of its entries; all of it is all of them
part_lasts : (contents bytes before : List ℕ) (next n : ℕ) → length bytes ≤ 4194304 → is_whole next contents ≡ true → entries_text (journal_blocks contents).0 ≡ before
    → n ≤ length (next_block next bytes) → ((leb (length (next_block next bytes)) n ≡ true) × (length (next_block next bytes) ≤ n)) ⊎ ((leb (length (next_block next bytes)) n ≡ false) × (n < length (next_block next bytes)))
    → (m : ℕ) × (m ≤ length bytes) × (entries_text (journal_blocks (contents ++ take n (next_block next bytes))).0 ≡ before ++ take m bytes)
part_lasts contents bytes before next n fits whole was within (inl all) = (
  length bytes,
  omega arith,
  ap (λ l. entries_text (journal_blocks (contents ++ l)).0) (take_all n (next_block next bytes) all.1) ∙ kept_after_block contents bytes next whole fits
      ∙ ap (λ l. l ++ bytes) was ∙ ap (λ l. before ++ l) (sym (take_all (length bytes) bytes (omega arith))),
)
part_lasts contents bytes before next n fits whole was within (inr less) =
    (0, omega arith, kept_after_part contents bytes next whole fits n less.1 ∙ was ∙ sym (append-nil before))

part_by : (contents : List ℕ) (new : Option (List ℕ)) (next after : ℕ) (bytes : List ℕ) → length bytes ≤ 4194304 → GrowsByPart (Some contents) (next_block next bytes) new → (is : Bool) → is_whole next contents ≡ is
    → GrowsByPart (kept_by contents is) bytes (lasting_in new true after)
part_by contents new next after bytes fits part true whole =
    let was = entries_text (journal_blocks contents).0 in
    let some = part_lasts contents bytes was next part.0 fits whole refl part.1 (leb_tells (length (next_block next bytes)) part.0) in
    (some.0, some.1, λ before e. ap (λ o. lasting_in o true after) (part.2 contents refl) ∙ ap Some (some.2 ∙ ap (λ l. l ++ take some.0 bytes) (same_some was before e)))
part_by contents new next after bytes fits part false not_whole = (0, omega arith, λ before e. absurd (none_or_some before e))

pub part_lasts_on : (old new : Option (List ℕ)) (next after : ℕ) (bytes : List ℕ) → length bytes ≤ 4194304 → GrowsByPart old (next_block next bytes) new
    → GrowsByPart (lasting_in old false next) bytes (lasting_in new true after)
part_lasts_on None new next after bytes fits part = (0, omega arith, λ before e. absurd (none_or_some before e))
part_lasts_on (Some contents) new next after bytes fits part = part_by contents new next after bytes fits part (is_whole next contents) refl

-- a fault before anything was written
pub same_lasts : (contents : Option (List ℕ)) (next after : ℕ) (bytes : List ℕ) → GrowsByPart (lasting_in contents false next) bytes (lasting_in contents true after)
same_lasts None next after bytes = (0, omega arith, λ before e. absurd (none_or_some before e))
same_lasts (Some contents) next after bytes =
    (0, omega arith, λ before e. ap Some ((was_whole contents before (is_whole next contents) e).1 ∙ sym (append-nil before)))

-- a block that is too long isn't begun
pub fault_lasts : (old new : Option (List ℕ)) (next after : ℕ) (bytes : List ℕ) → (4194304 < length bytes → new ≡ old) → GrowsByPart old (next_block next bytes) new
    → GrowsByPart (lasting_in old false next) bytes (lasting_in new true after)
fault_lasts old new next after bytes too_long part = by (leb_tells (length bytes) 4194304)
  where
    by : ((leb (length bytes) 4194304 ≡ true) × (length bytes ≤ 4194304)) ⊎ ((leb (length bytes) 4194304 ≡ false) × (4194304 < length bytes))
        → GrowsByPart (lasting_in old false next) bytes (lasting_in new true after)
    by (inl fits) = part_lasts_on old new next after bytes fits.1 part
    by (inr more) = subst (λ o. GrowsByPart (lasting_in old false next) bytes (lasting_in o true after)) (sym (too_long more.1)) (same_lasts old next after bytes)

-- ---- what lasts of a journal that appended

pub appended : (old new : Option (List ℕ)) (was is : Bool) (next after : ℕ) (bytes : List ℕ) → length bytes ≤ 4194304 → after ≡ next + 1 → (was ≡ false) × (is ≡ false) → Grows old (next_block next bytes) new
    → Grows (lasting_in old was next) bytes (lasting_in new is after)
appended old new was is next after bytes fits one alive grows =
    subst (λ b. Grows (lasting_in old b next) bytes (lasting_in new is after)) (sym alive.0)
    (subst (λ b. Grows (lasting_in old false next) bytes (lasting_in new b after)) (sym alive.1) (lasts_on old new next after bytes fits one grows))

-- a journal that had failed, and whose file is as it was
pub still_lasts : (old new : Option (List ℕ)) (is : Bool) (next after : ℕ) → new ≡ old → is ≡ true → Grows (lasting_in old true next) [] (lasting_in new is after)
still_lasts old new is next after same failed =
    subst (λ o. Grows (lasting_in old true next) [] (lasting_in o is after)) (sym same)
    (subst (λ b. Grows (lasting_in old true next) [] (lasting_in old b after)) (sym failed) (grows_nothing (lasting_in old true next)))

pub faulted : (old new : Option (List ℕ)) (was is : Bool) (next after : ℕ) (bytes : List ℕ) → is ≡ true → (was ≡ true → new ≡ old) → (4194304 < length bytes → new ≡ old) → GrowsByPart old (next_block next bytes) new
    → GrowsByPart (lasting_in old was next) bytes (lasting_in new is after)
faulted old new true is next after bytes failed same too_long part = none_is_part (lasting_in old true next) (lasting_in new is after) bytes (still_lasts old new is next after (same refl) failed)
faulted old new false is next after bytes failed same too_long part =
    subst (λ b. GrowsByPart (lasting_in old false next) bytes (lasting_in new b after)) (sym failed) (fault_lasts old new next after bytes too_long part)
