use Rattle.std.proofs.Common.{subst, arith}
use Rattle.nfs_xdr.specs.Known.{Grows}
use Rattle.nfs_xdr.proofs.Knowing.{grows_nothing, taken_on, within_rest, Grows-then, Grows-none}
use Rattle.nfs_journal.proofs.file_journal.write_all.Goals as goal

pub loop-at-init : goal.loop-at-init
loop-at-init g c = record { within = omega arith; wrote = grows_nothing _ }

pub loop-at-preserved : goal.loop-at-preserved
loop-at-preserved g c = record {
  within = within_rest c.args.bytes.now c.loop-at.at c.in-Ok.n c.loop-at.invariant.within c.in-Ok.ensures.count.1;
  wrote = subst (λ t. Grows (g.F.Write.contents c.args.file.now) t (g.F.Write.contents c.write_some.new.file)) (taken_on c.args.bytes.now c.loop-at.at c.in-Ok.n)
      (Grows-then _ _ _ _ _ c.loop-at.invariant.wrote c.in-Ok.ensures.ok);
}

pub returns-in-Err-clause-part : goal.returns-in-Err-clause-part
returns-in-Err-clause-part g c = (c.loop-at.at, c.loop-at.invariant.within, Grows-none _ _ _ _ c.loop-at.invariant.wrote c.in-Err.ensures.err)
