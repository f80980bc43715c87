use Rattle.std.proofs.Common.{rules}
use Rattle.nfs_journal.specs.NextBlock.{AreZeros}
use Rattle.nfs_journal.proofs.NextBlocks.{zeros_after_front}
use Rattle.nfs_journal.proofs.next_block.is_unwritten.Goals as goal

pub returns : goal.returns
returns g c =
    let zeros : AreZeros c.args.front.now = search rules in
    zeros_after_front c.are_zeros_on.result c.args.front.now _ zeros c.are_zeros_on.ensures
