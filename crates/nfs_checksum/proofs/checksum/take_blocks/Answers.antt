use Rattle.std.proofs.Common.{sym, ap, ◌∙◌}
use Rattle.std.proofs.lemmas.List.{take_all}
use Rattle.nfs_checksum.proofs.Checksums.{block_on, no_block}
use Rattle.nfs_checksum.specs.Checksums.{after_blocks}
use Rattle.nfs_checksum.proofs.checksum.take_blocks.Goals as goal

pub loop-block-init : goal.loop-block-init
loop-block-init c = sym (no_block c.args.crc)

pub loop-block-preserved : goal.loop-block-preserved
loop-block-preserved c =
    c.take_block-crc.ensures ∙ block_on c.args.crc _ c.args.blocks.now c.loop-block.block-index _ c.loop-block.invariant c.loop-block-test.true

pub returns : goal.returns
returns c = c.loop-block.invariant ∙ ap (after_blocks c.args.crc) (take_all c.loop-block.block-index c.args.blocks.now c.loop-block-test.false)
