use Rattle.nfs_journal.proofs.Keeping.{on_err, on_ok, part_of_second}
use Rattle.nfs_xdr.proofs.Knowing.{Grows-then}
use Rattle.nfs_journal.proofs.file_journal.write_both.Goals as goal

pub returns-clause-ok : goal.returns-clause-ok
returns-clause-ok g c = on_ok c.write_all-2.result (Grows-then _ _ _ _ _ c.in_ok-write_all.ensures.ok) c.write_all-2.ensures.ok

pub returns-clause-part : goal.returns-clause-part
returns-clause-part g c = on_err c.write_all-2.result (part_of_second _ _ _ _ _ c.in_ok-write_all.ensures.ok) c.write_all-2.ensures.part
