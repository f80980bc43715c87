use Rattle.std.proofs.Common.{rules, arith, ◌≡◌, ◌≢◌, ◌∙◌}
use Rattle.nfs_source.specs.OpenLines.{encode_in}
use Rattle.nfs_source.proofs.OpenLines.{alike_more, none_alike, not_alike, run_within}
use Rattle.nfs_source.proofs.open_line.is_alike.Goals as goal

pub loop-offset-init : goal.loop-offset-init
loop-offset-init c = record { within = omega arith; alike = none_alike c.args.one c.args.other }

pub overflow_add-offset : goal.overflow_add-offset
overflow_add-offset c =
    let run = c.run_at-run in
    omega (arith, run_within c.args.content.now run.result.now run.ensures.rest c.loop-offset.offset c.loop-offset.invariant.within run.ensures.bytes_are, c.len.ensures, c.len.type_inv)

pub loop-offset-preserved : goal.loop-offset-preserved
loop-offset-preserved c =
    let run = c.run_at-run in
    let same : encode_in c.args.other run.result.now ≡ c.as_bytes.result.now = search rules in
    record {
      within = run_within c.args.content.now run.result.now run.ensures.rest c.loop-offset.offset c.loop-offset.invariant.within run.ensures.bytes_are;
      alike = alike_more c.args.content.now run.result.now run.ensures.rest c.as_bytes.result.now c.loop-offset.offset c.args.one c.args.other run.ensures.bytes_are c.loop-offset.invariant.alike
          (c.as_bytes.ensures.value ∙ c.in_ok-digits.ensures) same;
    }

pub returns-then-not-branch : goal.returns-then-not-branch
returns-then-not-branch c =
    let run = c.run_at-run in
    let differs : encode_in c.args.other run.result.now ≢ c.as_bytes.result.now = search rules in
    not_alike c.args.content.now run.result.now run.ensures.rest c.as_bytes.result.now c.loop-offset.offset c.args.one c.args.other run.ensures.bytes_are
    (c.as_bytes.ensures.value ∙ c.in_ok-digits.ensures) differs
