use Rattle.std.proofs.Common.{◌++◌, subst}
use Rattle.std.specs.Prelude.{OnErr, OnOk}
use Rattle.nfs_xdr.specs.Known.{Grows, GrowsByPart}
use Rattle.nfs_journal.specs.Blocks.{header_of, header_text}
use Rattle.nfs_journal.specs.OnFile.{OnFile, next_block}
use Rattle.nfs_journal.specs.declared.block.BlockKind.TheVariants.{Entries}
use Rattle.nfs_journal.proofs.Keeping.{block_lent, head_lent}
use Rattle.nfs_journal.proofs.file_journal.FileJournal.write_block.Goals as goal

pub returns-then-bytes-room-clause-ok : goal.returns-then-bytes-room-clause-ok
returns-then-bytes-room-clause-ok g c =
    let head = header_text (header_of c.self.inside.next (record { kind = Entries; bytes = c.args.bytes.now })) in
    subst (λ (it : OnFile g.row.F.Denot). OnOk c.write_both.result (Grows (g.F.Write.contents it.file) (next_block it.next c.args.bytes.now) (g.F.Write.contents c.write_both.new.file))) c.self.view_is
    (subst (λ lent. OnOk c.write_both.result (Grows (g.F.Write.contents c.self.inside.file) (lent ++ c.args.bytes.now) (g.F.Write.contents c.write_both.new.file)))
    (head_lent _ _ _ head c.clear.ensures.bytes c.encode_header.ensures.bytes c.bytes.ensures) c.write_both.ensures.ok)

pub returns-then-bytes-room-clause-part : goal.returns-then-bytes-room-clause-part
returns-then-bytes-room-clause-part g c =
    let head = header_text (header_of c.self.inside.next (record { kind = Entries; bytes = c.args.bytes.now })) in
    subst (λ (it : OnFile g.row.F.Denot). OnErr c.write_both.result (GrowsByPart (g.F.Write.contents it.file) (next_block it.next c.args.bytes.now) (g.F.Write.contents c.write_both.new.file))) c.self.view_is
    (subst (λ lent. OnErr c.write_both.result (GrowsByPart (g.F.Write.contents c.self.inside.file) (lent ++ c.args.bytes.now) (g.F.Write.contents c.write_both.new.file)))
    (head_lent _ _ _ head c.clear.ensures.bytes c.encode_header.ensures.bytes c.bytes.ensures) c.write_both.ensures.part)

pub returns-clause-ok : goal.returns-clause-ok
returns-clause-ok g c =
    let head = header_text (header_of c.self.inside.next (record { kind = Entries; bytes = c.args.bytes.now })) in
    subst (λ (it : OnFile g.row.F.Denot). OnOk c.write_all.result (Grows (g.F.Write.contents it.file) (next_block it.next c.args.bytes.now) (g.F.Write.contents c.write_all.new.file))) c.self.view_is
    (subst (λ lent. OnOk c.write_all.result (Grows (g.F.Write.contents c.self.inside.file) lent (g.F.Write.contents c.write_all.new.file)))
    (block_lent _ _ _ _ head c.args.bytes.now c.clear.ensures.bytes c.encode_header.ensures.bytes c.part.ensures.bytes c.bytes-2.ensures) c.write_all.ensures.ok)

pub returns-clause-part : goal.returns-clause-part
returns-clause-part g c =
    let head = header_text (header_of c.self.inside.next (record { kind = Entries; bytes = c.args.bytes.now })) in
    subst (λ (it : OnFile g.row.F.Denot). OnErr c.write_all.result (GrowsByPart (g.F.Write.contents it.file) (next_block it.next c.args.bytes.now) (g.F.Write.contents c.write_all.new.file))) c.self.view_is
    (subst (λ lent. OnErr c.write_all.result (GrowsByPart (g.F.Write.contents c.self.inside.file) lent (g.F.Write.contents c.write_all.new.file)))
    (block_lent _ _ _ _ head c.args.bytes.now c.clear.ensures.bytes c.encode_header.ensures.bytes c.part.ensures.bytes c.bytes-2.ensures) c.write_all.ensures.part)
