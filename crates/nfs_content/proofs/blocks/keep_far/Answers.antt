use Rattle.std.proofs.Common.{arith}
use Rattle.nfs_content.specs.Paged.{kept}
use Rattle.nfs_content.proofs.Nested.{keeps_whole, keeps_beyond, keeps_within}
use Rattle.nfs_content.proofs.InBlocks.{no_page, block_splits}
use Rattle.nfs_content.proofs.blocks.keep_far.Goals as goal

pub returns-then-rest-eq0 : goal.returns-then-rest-eq0
returns-then-rest-eq0 c = keeps_whole kept 262144 no_page block_splits c.args.blocks.now.items c.args.count c.truncate.new.self.items c.truncate.ensures.items c.if-rest-eq0.true

pub returns-then-whole-len : goal.returns-then-whole-len
returns-then-whole-len c =
    let first = c.truncate-2.new.self in
    let len = first.ok.0 in
    let more = c.if-whole-len.true in
    keeps_within kept 262144 no_page block_splits c.args.blocks.now.items c.args.count first.items c.truncate-2.ensures.items c.index_mut.result.now c.keep.new.rows (omega (arith, len, more)) c.index_mut.ensures.value c.keep.ensures

pub returns-else-whole-len : goal.returns-else-whole-len
returns-else-whole-len c =
    let first = c.truncate-2.new.self in
    let len = first.ok.0 in
    let none = c.if-whole-len.false in
    keeps_beyond kept 262144 no_page block_splits c.args.blocks.now.items c.args.count first.items c.truncate-2.ensures.items (omega (arith, len, none))
