use Rattle.std.proofs.Common.{subst, sym}
use Rattle.nfs_xdr.specs.Known.{Grows, GrowsByPart}
use Rattle.nfs_journal.specs.OnFile.{OnFile, next_block}
use Rattle.nfs_journal.proofs.Keeping.{all_is_part, at_err}
use Rattle.nfs_journal.proofs.file_journal.FileJournal.write.Goals as goal

pub returns-in-Each-clause-part : goal.returns-in-Each-clause-part
returns-in-Each-clause-part g c =
    let before = g.F.Write.contents c.args.self.now.file in
    let block = next_block c.args.self.now.next c.args.bytes.now in
    at_err c.sync.result (subst (λ o. GrowsByPart before block o) (sym c.sync.ensures.contents)
    (all_is_part before _ block (subst (λ (it : OnFile g.row.F.Denot). Grows before block (g.F.Write.contents it.file)) (sym c.self-2.view_is) c.in_ok-write_block.ensures.ok)))
