use Rattle.std.proofs.Common.{arith}
use Rattle.nfs_xdr.specs.Encoding.{opaque_text}
use Rattle.nfs_args.specs.Encoding.{IsString}
use Rattle.nfs_mount.specs.MountAnswers.{group}
use Rattle.nfs_mount.proofs.Listed.{all_written, all_encoded, next_appended, next_encoded}
use Rattle.nfs_mount.proofs.exports.write_patterns.Goals as goal

pub loop-export-preserved : goal.loop-export-preserved
loop-export-preserved c = record {
  text = next_appended c.args.exports.now c.loop-export.export-index _ c.loop-export-test.true (λ e. opaque_text (group e)) c.args.out.now c.loop-export.out c.write_group.new.out c.loop-export.invariant.text c.write_group.ensures.text;
  encoded = next_encoded c.args.exports.now c.loop-export.export-index _ c.loop-export-test.true (λ e. IsString (group e) (opaque_text (group e))) c.loop-export.invariant.encoded c.write_group.ensures.encoded;
  room = omega (arith, c.loop-export.invariant.room, c.write_group.ensures.room);
}

pub returns-clause-text : goal.returns-clause-text
returns-clause-text c = all_written opaque_text group c.args.exports.now c.loop-export.export-index c.args.out.now c.loop-export.out (omega (arith, c.loop-export-test.false)) c.loop-export.invariant.text

pub returns-clause-encoded : goal.returns-clause-encoded
returns-clause-encoded c = all_encoded opaque_text IsString group c.args.exports.now c.loop-export.export-index (omega (arith, c.loop-export-test.false)) c.loop-export.invariant.encoded
