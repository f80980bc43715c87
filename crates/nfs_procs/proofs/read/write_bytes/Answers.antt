use Rattle.std.proofs.Common.{arith}
use Rattle.nfs_procs.proofs.Data.{run_goes}
use Rattle.nfs_procs.proofs.read.write_bytes.Goals as goal

pub loop-done-preserved : goal.loop-done-preserved
loop-done-preserved c = record {
  within = omega (arith, c.min-some.ensures);
  wrote = run_goes _ _ c.args.offset c.loop-done.done c.min-some.result _ _ _ c.bytes_at-run.ensures (omega (arith, c.min-some.ensures)) c.loop-done.invariant.wrote c.part.ensures;
}
