use Rattle.std.proofs.Common.{sym, ap, ◌∙◌, bit_xor}
use Rattle.std.proofs.Math.ListN.{get_or}
use Rattle.std.proofs.lemmas.List.{take_all}
use Rattle.nfs_checksum.proofs.Checksums.{byte_more, none_yet}
use Rattle.nfs_checksum.specs.Checksums.{after_bytes, after_eight}
use Rattle.nfs_checksum.proofs.checksum.take_bytes.Goals as goal

pub loop-byte-init : goal.loop-byte-init
loop-byte-init c = sym (none_yet c.args.crc)

pub loop-byte-preserved : goal.loop-byte-preserved
loop-byte-preserved c =
    c.take_byte-crc.ensures ∙ ap (λ n. after_eight (bit_xor n (get_or c.args.bytes.now c.loop-byte.byte-index 0))) c.loop-byte.invariant
    ∙ sym (byte_more c.args.crc c.args.bytes.now c.loop-byte.byte-index 0 c.loop-byte-test.true)

pub returns : goal.returns
returns c = c.loop-byte.invariant ∙ ap (after_bytes c.args.crc) (take_all c.loop-byte.byte-index c.args.bytes.now c.loop-byte-test.false)
