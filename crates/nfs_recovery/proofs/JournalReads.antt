-- What a reader of a journal took, block after block.
use Rattle.std.proofs.Common.{◌≡◌, ℕ, ◌+◌, ◌-◌, true, List, [], ◌∷◌, ◌++◌, drop, length, Option, Some, None, refl, sym, ap, subst, ◌∙◌, append_assoc, append-nil, add-zero, inl, inr, arith}
use Rattle.std.proofs.lemmas.List.{length-append}
use Rattle.std.specs.Prelude.{IfSome}
use Rattle.nfs_journal.proofs.BlocksRead.{checked_length}
use Rattle.nfs_journal.proofs.NextBlocks.{shrinks_none, shrinks_then}
use Rattle.nfs_journal.specs.Blocks.{AreBlocks, Block, block_text, blocks_text, header_of, header_text, is_allowed}
use Rattle.nfs_journal.specs.NextBlock.{AreZeros, IsNext, OfLeft}
use Rattle.nfs_journal.specs.declared.block.BlockKind.{BlockKind}
use Rattle.nfs_journal.specs.declared.broken_entry.BrokenEntry.{BrokenEntry}
use Rattle.nfs_journal.specs.declared.next_block.Next.TheVariants.{Block as Whole}
use Rattle.nfs_recovery.specs.JournalFiles.{BreaksAfter, IsEnd, IsNoBlock, ReadsBlocks, TakesBlock, TakesBlocks, capped, damaged_at, end_after}
use Rattle.nfs_server.specs.Entries.{checked}
use Rattle.nfs_xdr.specs.Known.{Grows, Shrinks}

text_with : (number : ℕ) (blocks : List Block) (b : Block) → blocks_text number (blocks ++ b ∷ []) ≡ blocks_text number blocks ++ block_text (number + length blocks) b
text_with number [] b = append-nil (block_text number b) ∙ ap (λ n. block_text n b) (sym (add-zero number))
text_with number (a ∷ after) b =
    let next : (number + 1) + length after ≡ number + length (a ∷ after) = omega arith in
    ap (λ l. block_text number a ++ l) (text_with (number + 1) after b ∙ ap (λ n. blocks_text (number + 1) after ++ block_text n b) next)
    ∙ sym (append_assoc (block_text number a) (blocks_text (number + 1) after) (block_text (number + length (a ∷ after)) b))

are_with : (number : ℕ) (blocks : List Block) (b : Block) → AreBlocks number blocks → is_allowed (header_of (number + length blocks) b) ≡ true → AreBlocks number (blocks ++ b ∷ [])
are_with number [] b are allowed = (subst (λ n. is_allowed (header_of n b) ≡ true) (add-zero number) allowed, tt)
are_with number (a ∷ after) b are allowed =
    let next : number + length (a ∷ after) ≡ (number + 1) + length after = omega arith in
    (are.0, are_with (number + 1) after b are.1 (subst (λ n. is_allowed (header_of n b) ≡ true) next allowed))

pub if_some : {A : Type 0} {P Q : A → Type 0} (o : Option A) → ((a : A) → P a → Q a) → IfSome o P → IfSome o Q
if_some (Some a) f p = f a p
if_some None f p = tt

-- a reader took blocks, of which the first begins at this offset and the last ends at that one
abbrev pub ReadsUpTo : {E : Type 0} → (entries exports : E → List ℕ → E → Type 0) → (number offset : ℕ) → (left : Option (List ℕ))
    → (old new : E) → (rest : Option (List ℕ)) → (next end : ℕ) → Type 0
ReadsUpTo entries exports number offset left old new rest next end =
    (reads : ReadsBlocks entries exports number left old new rest next) × (end ≡ end_after offset reads.blocks)

end_with : (offset : ℕ) (blocks : List Block) (b : Block)
    → end_after offset (blocks ++ b ∷ []) ≡ capped (end_after offset blocks + (20 + length b.bytes))
end_with offset [] b = refl
end_with offset (a ∷ after) b = end_with (capped (offset + (20 + length a.bytes))) after b

module _ {E : Type 0} (entries exports : E → List ℕ → E → Type 0) where
  takes_with : (blocks : List Block) (b : Block) (old between new : E) → TakesBlocks entries exports blocks old between → TakesBlock entries exports b.kind b.bytes between new
      → TakesBlocks entries exports (blocks ++ b ∷ []) old new
  takes_with [] b old between new takes one = (new, subst (λ e. TakesBlock entries exports b.kind b.bytes e new) takes one, refl)
  takes_with (a ∷ after) b old between new takes one = (takes.0, takes.1, takes_with after b takes.0 between new takes.2 one)

  pub nothing_read : (number : ℕ) (left : Option (List ℕ)) (e : E) → ReadsBlocks entries exports number left e e left number
  nothing_read number left e = record { blocks = []; are_blocks = tt; takes = refl; read = shrinks_none left; next_is = sym (add-zero number) }

  pub reads_more : (number next after : ℕ) (left between rest : Option (List ℕ)) (kind : BlockKind) (bytes : List ℕ) (old mid new : E) → ReadsBlocks entries exports number left old mid between next
      → (is_allowed (header_of next (record { kind = kind; bytes = bytes })) ≡ true) × Shrinks between (block_text next (record { kind = kind; bytes = bytes })) rest
      → TakesBlock entries exports kind bytes mid new → after ≡ next + 1 → ReadsBlocks entries exports number left old new rest after
  reads_more number next after left between rest kind bytes old mid new reads one takes after_is =
      let b : Block = record { kind = kind; bytes = bytes } in
      record {
        blocks = reads.blocks ++ b ∷ [];
        are_blocks = are_with number reads.blocks b reads.are_blocks (subst (λ n. is_allowed (header_of n b) ≡ true) reads.next_is one.0);
        takes = takes_with reads.blocks b old mid new reads.takes takes;
        read = subst (λ l. Shrinks left l rest) (ap (λ n. blocks_text number reads.blocks ++ block_text n b) reads.next_is ∙ sym (text_with number reads.blocks b))
            (shrinks_then left between rest (blocks_text number reads.blocks) (block_text next b) reads.read one.1);
        next_is = after_is ∙ omega (arith, reads.next_is, length-append reads.blocks (b ∷ []));
      }

  pub nothing_read_yet : (number offset : ℕ) (left : Option (List ℕ)) (e : E)
      → ReadsUpTo entries exports number offset left e e left number offset
  unfolding nothing_read
  nothing_read_yet number offset left e = (nothing_read number left e, refl)

  pub reads_on : (number offset next end after past : ℕ) (left between rest : Option (List ℕ)) (kind : BlockKind) (bytes : List ℕ)
      (old mid new : E) → ReadsUpTo entries exports number offset left old mid between next end
      → IsNext (Whole kind) next between bytes rest → TakesBlock entries exports kind bytes mid new
      → after ≡ next + 1 → past ≡ capped (end + (20 + length bytes)) → ReadsUpTo entries exports number offset left old new rest after past
  unfolding reads_more
  reads_on number offset next end after past left between rest kind bytes old mid new up one takes after_is past_is = (
    reads_more number next after left between rest kind bytes old mid new up.0 one takes after_is,
    past_is ∙ ap (λ n. capped (n + (20 + length bytes))) up.1 ∙ sym (end_with offset up.0.blocks (record { kind = kind; bytes = bytes })),
  )

  module _ (breaks : ℕ → BlockKind → List ℕ → E → BrokenEntry → E → Type 0) (count : E → ℕ) (number offset next end here place : ℕ)
      (left rest : Option (List ℕ)) (old between : E)
      (up : ReadsUpTo entries exports number offset left old between rest next end) (next_is : here ≡ next) (place_is : place ≡ end) where
    up_to_here : ReadsUpTo entries exports number offset left old between rest here place
    up_to_here =
        subst (λ n. ReadsUpTo entries exports number offset left old between rest n place) (sym next_is)
        (subst (λ n. ReadsUpTo entries exports number offset left old between rest next n) (sym place_is) up)

    pub breaks_before : (broken : BrokenEntry) → IsNoBlock next rest → broken ≡ damaged_at (count between) place
        → BreaksAfter entries exports breaks count number offset left old between broken here place
    breaks_before broken none broken_is = record {
      between = between;
      rest = rest;
      reads = up_to_here.0;
      end_is = up_to_here.1;
      fault = inl (subst (λ n. IsNoBlock n rest) (sym next_is) none, refl, broken_is);
    }

    pub breaks_within : (kind : BlockKind) (bytes : List ℕ) (after : Option (List ℕ)) (new : E) (broken : BrokenEntry)
        → IsNext (Whole kind) next rest bytes after → breaks place kind bytes between broken new → BreaksAfter entries exports breaks count number offset left old new broken here place
    breaks_within kind bytes after new broken one fault = record {
      between = between;
      rest = rest;
      reads = up_to_here.0;
      end_is = up_to_here.1;
      fault = inr (kind, bytes, after, subst (λ n. IsNext (Whole kind) n rest bytes after) (sym next_is) one, fault);
    }

-- a block that was read ends as one that was not written
pub unwritten_end : (number : ℕ) (kind : BlockKind) (bytes : List ℕ) (left after : Option (List ℕ)) → (is_allowed (header_of number (record { kind = kind; bytes = bytes })) ≡ true)
    × Shrinks left (block_text number (record { kind = kind; bytes = bytes })) after → AreZeros (drop (length bytes - 4) bytes) → OfLeft (IsEnd number) left
unwritten_end number kind bytes left after one zeros all e =
    let s = one.1 all e in
    inr (record { block = record { kind = kind; bytes = bytes }; allowed = one.0; after = s.0; bytes_are = s.2; unwritten = zeros })

-- ---- lines that were written

block_with_lines : (number : ℕ) (kind : BlockKind) (lines : List ℕ) → header_text (record { kind = kind; number = number; len = length lines + 4 }) ++ checked lines ≡ block_text number (record { kind = kind; bytes = checked lines })
block_with_lines number kind lines =
    ap (λ n. header_text (record { kind = kind; number = number; len = n }) ++ checked lines) (sym (checked_length lines))

pub lines_written : (number : ℕ) (kind : BlockKind) (lines before headed all lent : List ℕ) (old between new : Option (List ℕ)) → before ≡ [] → headed ≡ before ++ header_text (record { kind = kind; number = number; len = length lines + 4 })
    → all ≡ headed ++ checked lines → lent ≡ all → Grows old lent between → new ≡ between → Grows old (block_text number (record { kind = kind; bytes = checked lines })) new
lines_written number kind lines before headed all lent old between new e f g h grows same =
    let head = header_text (record { kind = kind; number = number; len = length lines + 4 }) in
    let text : lent ≡ head ++ checked lines = h ∙ g ∙ ap (λ l. l ++ checked lines) (f ∙ ap (λ l. l ++ head) e) in
    subst (λ o. Grows old (block_text number (record { kind = kind; bytes = checked lines })) o) (sym same)
    (subst (λ l. Grows old l between) (text ∙ block_with_lines number kind lines) grows)
