use Rattle.std.proofs.Common.{◌-◌}
use Rattle.nfs_recovery.proofs.JournalReads.{ReadsUpTo}
use Rattle.nfs_recovery.specs.JournalFiles.{AllTaken}
use Rattle.nfs_recovery.proofs.journal_file.JournalFile.break_of.Given as goal

abbrev pub invariant-loop-self : goal.invariant-loop-self
invariant-loop-self g l = ReadsUpTo (AllTaken g.E.EntryReader.entries_taken g.E.EntryReader.rest) g.E.EntryReader.exports_taken
    l.fn.self.next l.fn.self.end (g.F.Read.remaining l.fn.self.file) l.fn.entries l.entries (g.F.Read.remaining l.self.file)
    l.self.next l.self.end

abbrev pub decreases-loop-self : goal.decreases-loop-self
decreases-loop-self g l = 18446744073709551615 - l.self.next
