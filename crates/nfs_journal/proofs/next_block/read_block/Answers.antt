use Rattle.std.proofs.Common.{◌≡◌, ◌≤◌, ◌<◌, ◌^◌, true, length, refl, sym, subst, rules, ◌∙◌, arith}
use Rattle.std.proofs.lemmas.Bool.{false≢true}
use Rattle.std.proofs.lemmas.List.{take_at}
use Rattle.nfs_xdr.specs.Known.{Shrinks}
use Rattle.nfs_journal.specs.Blocks.{block_text, header_of, is_allowed}
use Rattle.nfs_journal.proofs.NextBlocks.{cut_block, full, no_block, other_block, short_end, whole_block}
use Rattle.nfs_journal.proofs.next_block.read_block.Goals.{then-header-number-via-then-header-number, then-header-number-via-else-header-number+then-not-is_allowed}
use Rattle.nfs_journal.proofs.next_block.read_block.Goals as goal

pub returns-then-branch-lt-BLOCK_HEADER_BYTES : goal.returns-then-branch-lt-BLOCK_HEADER_BYTES
returns-then-branch-lt-BLOCK_HEADER_BYTES g c =
    let twenty : length c.fill.new.bytes ≡ 20 = c.fill.ensures.len in
    let few = c.if-branch-lt-BLOCK_HEADER_BYTES.true in
    short_end c.args.number c.in_ok-fill.field-0 c.fill.new.bytes _ _ few c.in_ok-fill.ensures.read (c.in_ok-fill.ensures.end (omega (arith, few, twenty))) c.in_ok-fill.ensures.count

pub returns-in_default : goal.returns-in_default
returns-in_default g c =
    let twenty : length c.fill.new.bytes ≡ 20 = c.fill.ensures.len in
    let less : c.args.number < 2 ^ 64 = omega arith in
    let front = full c.in_ok-fill.field-0 c.fill.new.bytes _ _ (omega (arith, twenty, c.if-branch-lt-BLOCK_HEADER_BYTES.false)) c.in_ok-fill.ensures.read in
    no_block c.args.number c.fill.new.bytes _ _ less twenty front (c.in_default.ensures.none refl)
    (λ rest e zeros. false≢true (sym c.if-branch.false ∙ (c.in_ok-is_unwritten.ensures rest e).1 zeros))

pub returns-then-header-number : goal.returns-then-header-number
returns-then-header-number g c =
    let h = c.in-Some.header in
    let twenty : length c.fill.new.bytes ≡ 20 = c.fill.ensures.len in
    let less : c.args.number < 2 ^ 64 = omega arith in
    let front = full c.in_ok-fill.field-0 c.fill.new.bytes _ _ (omega (arith, twenty, c.if-branch-lt-BLOCK_HEADER_BYTES.false)) c.in_ok-fill.ensures.read in
    let other : h.number ≡ c.args.number → is_allowed h ≡ true → ⊥ = elim c.then-header-number.branch as (λ b. h.number ≡ c.args.number → is_allowed h ≡ true → ⊥) [
      | then-header-number-via-then-header-number w ↦ λ e allowed. w.if-header-number.true e
      | then-header-number-via-else-header-number+then-not-is_allowed w ↦ λ e allowed. false≢true (sym w.if-not-is_allowed.true ∙ w.is_allowed.ensures ∙ allowed)
    ] in
    other_block c.args.number c.fill.new.bytes h _ _ less twenty front c.in-Some.ensures.sizes c.in-Some.ensures.found other

pub returns-then-branch-len : goal.returns-then-branch-len
returns-then-branch-len g c =
    let h = c.in-Some.header in
    let twenty : length c.fill.new.bytes ≡ 20 = c.fill.ensures.len in
    let less : c.args.number < 2 ^ 64 = omega arith in
    let front = full c.in_ok-fill.field-0 c.fill.new.bytes _ _ (omega (arith, twenty, c.if-branch-lt-BLOCK_HEADER_BYTES.false)) c.in_ok-fill.ensures.read in
    let allowed : is_allowed h ≡ true = search rules in
    let len : length c.fill-2.new.bytes ≡ h.len = search rules in
    let few : c.in_ok-fill-2.field-0 < length c.fill-2.new.bytes = search rules in
    cut_block c.args.number c.in_ok-fill-2.field-0 c.fill.new.bytes c.fill-2.new.bytes h _ _ _ less twenty front c.in-Some.ensures.sizes c.in-Some.ensures.found
    c.if-header-number.false allowed len few c.in_ok-fill-2.ensures.read (c.in_ok-fill-2.ensures.end few)

pub returns : goal.returns
returns g c =
    let h = c.in-Some.header in
    let twenty : length c.fill.new.bytes ≡ 20 = c.fill.ensures.len in
    let front = full c.in_ok-fill.field-0 c.fill.new.bytes _ _ (omega (arith, twenty, c.if-branch-lt-BLOCK_HEADER_BYTES.false)) c.in_ok-fill.ensures.read in
    let allowed : is_allowed h ≡ true = search rules in
    let len : length c.fill-2.new.bytes ≡ h.len = search rules in
    let most : length c.fill-2.new.bytes ≤ c.in_ok-fill-2.field-0 = search rules in
    let all = full c.in_ok-fill-2.field-0 c.fill-2.new.bytes _ _ most c.in_ok-fill-2.ensures.read in
    let room : length c.fill-2.new.bytes ≡ c.resize-2.new.self.len = search rules in
    subst (λ l. (is_allowed (header_of c.args.number (record { kind = h.kind; bytes = l })) ≡ true)
    × Shrinks (g.F.Read.remaining c.args.file.now) (block_text c.args.number (record { kind = h.kind; bytes = l })) (g.F.Read.remaining c.fill-2.new.file)) (sym (take_at c.fill-2.new.bytes _ _ room))
    (whole_block c.args.number c.fill.new.bytes c.fill-2.new.bytes h _ _ _ front c.in-Some.ensures.found c.if-header-number.false allowed len all)
