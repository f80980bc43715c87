use Rattle.std.proofs.Common.{rules, take, arith}
use Rattle.nfs_journal.specs.NextBlock.{AreZeros}
use Rattle.nfs_journal.proofs.NextBlocks.{other_byte, passes_more}
use Rattle.nfs_journal.proofs.next_block.are_zeros_on.Goals as goal

pub returns-then-not-are_zeros : goal.returns-then-not-are_zeros
returns-then-not-are_zeros g c =
    let other : AreZeros (take c.in_ok-len.len c.read_some.new.bytes) → ⊥ = search rules in
    other_byte _ _ _ _ c.loop.invariant.passed c.in_ok-len.ensures.read other

pub loop-preserved : goal.loop-preserved
loop-preserved g c =
    let zeros : AreZeros (take c.in_ok-len.len c.read_some.new.bytes) = search rules in
    record { some = omega (arith, c.loop.invariant.some, c.read_some.ensures.len); passed = passes_more _ _ _ _ c.loop.invariant.passed c.in_ok-len.ensures.read zeros }
