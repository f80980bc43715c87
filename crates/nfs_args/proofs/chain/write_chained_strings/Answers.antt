use Rattle.std.proofs.Common.{ℕ, List}
use Rattle.nfs_xdr.specs.Encoding.{opaque_text}
use Rattle.nfs_args.specs.Encoding.{IsString}
use Rattle.nfs_args.specs.Results.{StringFits}
use Rattle.nfs_args.proofs.Chains.{item_fits, item_room, items_appended, items_each}
use Rattle.nfs_args.proofs.chain.write_chained_strings.Goals as goal

pub write_chained_string-requires-clause-fits : goal.write_chained_string-requires-clause-fits
write_chained_string-requires-clause-fits c = item_fits StringFits c.args.strings.now c.loop-string.string-index c.string-item.result c.loop-string-test.true c.string-item.is c.requires.fits

pub write_chained_string-requires-clause-room : goal.write_chained_string-requires-clause-room
write_chained_string-requires-clause-room c = item_room opaque_text c.args.strings.now c.loop-string.string-index c.string-item.result c.args.out.now c.loop-string.out c.loop-string-test.true c.string-item.is c.requires.room c.loop-string.invariant.text

pub loop-string-preserved : goal.loop-string-preserved
loop-string-preserved c = record {
  text = items_appended opaque_text c.args.strings.now c.loop-string.string-index c.string-item.result c.args.out.now c.loop-string.out c.write_chained_string.new.out c.loop-string-test.true c.string-item.is c.loop-string.invariant.text c.write_chained_string.ensures.text;
  encoded = items_each (λ (e : List ℕ). IsString e (opaque_text e)) c.args.strings.now c.loop-string.string-index c.string-item.result c.loop-string-test.true c.string-item.is c.loop-string.invariant.encoded c.write_chained_string.ensures.encoded;
}
