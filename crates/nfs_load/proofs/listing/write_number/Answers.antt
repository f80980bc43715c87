use Rattle.std.proofs.Common.{List, ℕ, subst, sym}
use Rattle.std.specs.Prelude.{OnOk, OnErr}
use Rattle.nfs_xdr.specs.Known.{Grows, GrowsByPart}
use Rattle.nfs_load.proofs.Entries.{names_are_short, text_seen}
use Rattle.nfs_load.proofs.listing.write_number.Goals as goal

pub write_file-requires : goal.write_file-requires
write_file-requires g c = names_are_short c.args.tree.now c.in-Some.file c.law.ensures c.in-Some.ensures.some

pub returns-in-Some-clause-ok : goal.returns-in-Some-clause-ok
returns-in-Some-clause-ok g c = subst (λ (l : List ℕ). OnOk c.write_file.result (Grows (g.W.ByteOut.contents c.args.out.now) l (g.W.ByteOut.contents c.write_file.new.out)))
    (sym (text_seen c.args.tree.now c.in-Some.file c.args.number.0 c.in-Some.ensures.number c.in-Some.ensures.some)) c.write_file.ensures.ok

pub returns-in-Some-clause-part : goal.returns-in-Some-clause-part
returns-in-Some-clause-part g c = subst (λ (l : List ℕ). OnErr c.write_file.result (GrowsByPart (g.W.ByteOut.contents c.args.out.now) l (g.W.ByteOut.contents c.write_file.new.out)))
    (sym (text_seen c.args.tree.now c.in-Some.file c.args.number.0 c.in-Some.ensures.number c.in-Some.ensures.some)) c.write_file.ensures.part
