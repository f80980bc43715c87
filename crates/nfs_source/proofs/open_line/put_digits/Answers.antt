use Rattle.std.proofs.Common.{arith, ◌∙◌}
use Rattle.nfs_source.proofs.OpenLines.{encode_more, encode_none, run_within}
use Rattle.nfs_source.proofs.open_line.put_digits.Goals as goal

pub loop-offset-init : goal.loop-offset-init
loop-offset-init c = record { within = omega arith; encoded = encode_none c.args.line.now.items c.args.case }

pub overflow_add-offset : goal.overflow_add-offset
overflow_add-offset c =
    let run = c.run_at-run in
    omega (arith, run_within c.args.content.now run.result.now run.ensures.rest c.loop-offset.offset c.loop-offset.invariant.within run.ensures.bytes_are, c.len.ensures, c.len.type_inv)

pub loop-offset-preserved : goal.loop-offset-preserved
loop-offset-preserved c =
    let run = c.run_at-run in
    record {
      within = run_within c.args.content.now run.result.now run.ensures.rest c.loop-offset.offset c.loop-offset.invariant.within run.ensures.bytes_are;
      encoded = encode_more c.args.line.now.items c.loop-offset.line.items c.args.content.now run.result.now run.ensures.rest c.as_bytes.result.now c.extend_from_slice.new.self.items c.loop-offset.offset c.args.case
          run.ensures.bytes_are c.loop-offset.invariant.encoded (c.as_bytes.ensures.value ∙ c.in_ok-digits.ensures) c.in_ok-extend_from_slice.ensures.items;
    }
