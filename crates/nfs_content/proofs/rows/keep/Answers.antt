use Rattle.std.proofs.Common.{◌%◌, arith}
use Rattle.nfs_content.specs.Paged.{items_at}
use Rattle.nfs_content.proofs.Nested.{keeps_whole, keeps_beyond, keeps_within}
use Rattle.nfs_content.proofs.InRows.{no_place, row_splits, row_keeps}
use Rattle.nfs_content.proofs.rows.keep.Goals as goal

pub returns-then-rest-eq0 : goal.returns-then-rest-eq0
returns-then-rest-eq0 c = keeps_whole items_at 64 no_place row_splits c.args.rows.now.items c.args.count c.truncate.new.self.items c.truncate.ensures.items c.if-rest-eq0.true

pub returns-then-whole-len : goal.returns-then-whole-len
returns-then-whole-len c =
    let first = c.truncate-2.new.self in
    let len = first.ok.0 in
    let more = c.if-whole-len.true in
    keeps_within items_at 64 no_place row_splits c.args.rows.now.items c.args.count first.items c.truncate-2.ensures.items c.index_mut.result.now c.truncate-then-whole-len.new.self (omega (arith, len, more)) c.index_mut.ensures.value (row_keeps c.index_mut.result.now.items c.truncate-then-whole-len.new.self.items (c.args.count % 64) c.truncate-then-whole-len.ensures.items)

pub returns-else-whole-len : goal.returns-else-whole-len
returns-else-whole-len c =
    let first = c.truncate-2.new.self in
    let len = first.ok.0 in
    let none = c.if-whole-len.false in
    keeps_beyond items_at 64 no_place row_splits c.args.rows.now.items c.args.count first.items c.truncate-2.ensures.items (omega (arith, len, none))
