use Rattle.std.proofs.Common.{sym, subst, arith, rules}
use Rattle.hex.specs.Hex.{encode_lower}
use Rattle.nfs_describe.specs.Outputs.{Takes}
use Rattle.nfs_inodes.specs.Views.{bytes_seen}
use Rattle.nfs_describe.proofs.Contents.{digits_more, digits_none, run_within}
use Rattle.nfs_describe.proofs.Outputs.{takes_none}
use Rattle.nfs_describe.proofs.lines.put_content.Goals as goal

pub loop-run-init : goal.loop-run-init
loop-run-init g c = record {
  chunk = c.bytes_at-run.ensures;
  within = omega arith;
  written = subst (λ digits. Takes g.O.Output.has c.args.out.now digits c.args.out.now) (sym digits_none) (takes_none g.O.Output.has c.args.out.now);
}

pub overflow_add-done : goal.overflow_add-done
overflow_add-done g c =
    let within = run_within (bytes_seen c.args.file.now) c.loop-run.run.now c.loop-run.done c.loop-run.invariant.within c.loop-run.invariant.chunk in
    omega (arith, within, c.requires)

pub loop-run-preserved : goal.loop-run-preserved
loop-run-preserved g c =
    let bytes = bytes_seen c.args.file.now in
    let run = c.loop-run.run.now in
    let put : Takes g.O.Output.has c.loop-run.out (encode_lower run) c.put-in-loop-run.new.self = search rules in
    record {
      chunk = c.bytes_at-run-in-loop-run.ensures;
      within = run_within bytes run c.loop-run.done c.loop-run.invariant.within c.loop-run.invariant.chunk;
      written = digits_more g.O.Output.has c.args.out.now c.loop-run.out c.put-in-loop-run.new.self bytes run c.loop-run.done c.loop-run.invariant.chunk c.loop-run.invariant.written put;
    }
