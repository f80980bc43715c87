use Rattle.std.proofs.Common.{◌≡◌, ◌+◌, None, length, inl, inr, rules, subst, sym, arith}
use Rattle.std.specs.Prelude.{IfSome}
use Rattle.nfs_recovery.proofs.JournalReads.{ReadsUpTo, breaks_before, breaks_within, if_some, nothing_read_yet, reads_on}
use Rattle.nfs_recovery.specs.JournalFiles.{AllTaken, BreaksBlock, EntriesBreak, IsNoBlock, StandsNext, TakesBlock, capped}
use Rattle.nfs_recovery.proofs.journal_file.JournalFile.break_of.Goals as goal
use Rattle.nfs_recovery.proofs.journal_file.JournalFile.break_of.Goals.{else-loop-self-test, then-loop-self-test+in_ok-kind+in-Damaged}

pub loop-self-init : goal.loop-self-init
loop-self-init g c = nothing_read_yet (AllTaken g.E.EntryReader.entries_taken g.E.EntryReader.rest) g.E.EntryReader.exports_taken _ _ _ _

pub loop-self-preserved : goal.loop-self-preserved
loop-self-preserved g c =
    let start = c.args.self.now in
    let at = c.loop-self.self in
    let passed = c.pass.new.self in
    let left = g.F.Read.remaining start.file in
    let between = g.F.Read.remaining at.file in
    let rest = g.F.Read.remaining c.next_block.new.self.file in
    let bytes = c.next_block.new.bytes.items in
    let kind = c.in-Block.kind in
    let new = c.hand_on.new.entries in
    let entries = AllTaken g.E.EntryReader.entries_taken g.E.EntryReader.rest in
    let exports = g.E.EntryReader.exports_taken in
    let one = subst (λ next. StandsNext next at.next between bytes rest) c.in-Block.is c.in_ok-kind.ensures.next in
    let none : c.in_ok-broken.broken ≡ None = search rules in
    let takes = subst (λ b. TakesBlock entries exports kind b c.loop-self.entries new) c.as_slice.ensures.value
    (c.in_ok-broken.ensures.takes none) in
    let same : c.next_block.new.self.next ≡ at.next = search rules in
    let counted : passed.next ≡ capped (c.next_block.new.self.next + 1) = search rules in
    let after : passed.next ≡ at.next + 1 = omega (arith, same, counted, c.loop-self-test.true) in
    let ended : passed.end ≡ capped (at.end + (20 + length bytes)) = search rules in
    let file : g.F.Read.remaining passed.file ≡ rest = search rules in
    subst (λ o. ReadsUpTo entries exports start.next start.end left c.args.entries.now new o passed.next passed.end) (sym file)
    (reads_on entries exports start.next start.end at.next at.end passed.next passed.end left between rest kind bytes
    c.args.entries.now c.loop-self.entries new c.loop-self.invariant one takes after ended)

pub returns-then-is_some-clause-breaks : goal.returns-then-is_some-clause-breaks
returns-then-is_some-clause-breaks g c =
    let E = g.E.EntryReader in
    let breaks = BreaksBlock (EntriesBreak E.entries_taken E.stops E.count E.ends_at E.rest) E.exports_refused E.count E.ends_at in
    let start = c.args.self.now in
    let at = c.loop-self.self in
    let here = c.next_block.new.self in
    let rest = g.F.Read.remaining at.file in
    let after = g.F.Read.remaining here.file in
    let bytes = c.next_block.new.bytes.items in
    let kind = c.in-Block.kind in
    let new = c.hand_on.new.entries in
    let one = subst (λ next. StandsNext next at.next rest bytes after) c.in-Block.is c.in_ok-kind.ensures.next in
    let same : here.next ≡ at.next = search rules in
    let there : here.end ≡ at.end = search rules in
    let within = breaks_within (AllTaken E.entries_taken E.rest) E.exports_taken breaks E.count start.next start.end at.next at.end
    here.next here.end (g.F.Read.remaining start.file) rest c.args.entries.now c.loop-self.entries c.loop-self.invariant same there
    kind bytes after new in
    if_some c.in_ok-broken.broken (λ broken fault. within broken one fault)
    (subst (λ b. IfSome c.in_ok-broken.broken (λ broken. breaks here.end kind b c.loop-self.entries broken new))
    c.as_slice.ensures.value c.in_ok-broken.ensures.breaks)

pub returns-clause-breaks : goal.returns-clause-breaks
returns-clause-breaks g c =
    let E = g.E.EntryReader in
    let breaks = BreaksBlock (EntriesBreak E.entries_taken E.stops E.count E.ends_at E.rest) E.exports_refused E.count E.ends_at in
    let start = c.args.self.now in
    let at = c.loop-self.self in
    let here = c.loop-self-test.self in
    let rest = g.F.Read.remaining at.file in
    let none : IsNoBlock at.next rest = elim c.loop-self-test.branch [
      | else-loop-self-test w ↦ inr (omega (arith, w.loop-self-test.false))
      | then-loop-self-test+in_ok-kind+in-Damaged w ↦ inl (subst (λ next.
          StandsNext next at.next rest w.next_block.new.bytes.items (g.F.Read.remaining w.next_block.new.self.file))
          w.in-Damaged.is w.in_ok-kind.ensures.next)
    ] in
    let same : here.next ≡ at.next = elim c.loop-self-test.branch [
      | else-loop-self-test w ↦ search rules
      | then-loop-self-test+in_ok-kind+in-Damaged w ↦ search rules
    ] in
    let there : here.end ≡ at.end = elim c.loop-self-test.branch [
      | else-loop-self-test w ↦ search rules
      | then-loop-self-test+in_ok-kind+in-Damaged w ↦ search rules
    ] in
    breaks_before (AllTaken E.entries_taken E.rest) E.exports_taken breaks E.count start.next start.end at.next at.end
    here.next here.end (g.F.Read.remaining start.file) rest c.args.entries.now c.loop-self.entries c.loop-self.invariant same there
    c.damaged.result none c.damaged.ensures
