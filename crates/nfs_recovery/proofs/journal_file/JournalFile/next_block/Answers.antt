use Rattle.std.proofs.Common.{subst, rules}
use Rattle.std.specs.Prelude.{◌-◌, drop, length}
use Rattle.nfs_recovery.proofs.JournalReads.{unwritten_end}
use Rattle.nfs_journal.specs.NextBlock.{AreZeros, IsNext}
use Rattle.nfs_recovery.proofs.journal_file.JournalFile.next_block.Goals as goal

pub returns-then-branch-clause-next : goal.returns-then-branch-clause-next
returns-then-branch-clause-next g c =
    let left = g.F.Read.remaining c.args.self.now.file in
    let after = g.F.Read.remaining c.read_block.new.file in
    let bytes = c.read_block.new.bytes.items in
    let zeros : AreZeros (drop (length bytes - 4) bytes) = search rules in
    unwritten_end c.args.self.now.next c.in-Block.kind bytes left after (subst (λ next. IsNext next c.args.self.now.next left bytes after) c.in-Block.is c.in-Ok.ensures) zeros

pub returns-else-branch-clause-next : goal.returns-else-branch-clause-next
returns-else-branch-clause-next g c =
    let left = g.F.Read.remaining c.args.self.now.file in
    let after = g.F.Read.remaining c.read_block.new.file in
    subst (λ next. IsNext next c.args.self.now.next left c.read_block.new.bytes.items after) c.in-Block.is c.in-Ok.ensures
