use Rattle.std.proofs.Common.{ap}
use Rattle.nfs_journal.specs.OnFile.{OnFile}
use Rattle.nfs_journal.proofs.Keeping.{appended, faulted, from_err, from_ok}
use Rattle.nfs_journal.proofs.file_journal.FileJournalJournalOut.append.Goals as goal

pub returns-clause-ok : goal.returns-clause-ok
returns-clause-ok g c =
    let old = c.args.self.now in
    let new = c.append_block.new.self in
    let ensures = c.append_block.ensures in
    from_ok c.append_block.result (appended (g.F.Write.contents old.file) (g.F.Write.contents new.file) old.failed new.failed old.next new.next c.args.bytes.now)
    ensures.fits ensures.next ensures.alive ensures.ok

pub returns-clause-part : goal.returns-clause-part
returns-clause-part g c =
    let old = c.args.self.now in
    let new = c.append_block.new.self in
    let ensures = c.append_block.ensures in
    from_err c.append_block.result (λ failed part. faulted (g.F.Write.contents old.file) (g.F.Write.contents new.file) old.failed new.failed old.next new.next c.args.bytes.now
    failed (λ was. ap (λ (it : OnFile g.row.F.Denot). g.F.Write.contents it.file) (ensures.again was).1) (λ more. ap g.F.Write.contents (ensures.long more)) part)
    ensures.fault ensures.part
