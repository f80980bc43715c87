use Rattle.std.proofs.Common.{◌≡◌, [], rules}
use Rattle.nfs_recovery.proofs.JournalReads.{lines_written}
use Rattle.nfs_recovery.proofs.journal_file.JournalFile.put_lines.Goals as goal

pub returns-in-Ok-clause-written : goal.returns-in-Ok-clause-written
returns-in-Ok-clause-written g c =
    let none : c.in_ok-out.out.bytes ≡ [] = search rules in
    let same : g.F.Write.contents c.pass.new.self.file ≡ g.F.Write.contents c.write.new.self.file = search rules in
    let lent : c.bytes.result.now ≡ c.encode_lines.new.out.bytes = search rules in
    lines_written c.args.self.now.next c.args.kind c.args.lines.now c.in_ok-out.out.bytes c.encode_header.new.out.bytes c.encode_lines.new.out.bytes c.bytes.result.now
    _ _ _ none c.encode_header.ensures.bytes c.encode_lines.ensures.bytes lent c.in-Ok.ensures.written same
