use Rattle.std.proofs.Common.{◌<◌, length, take, sym, ap, ◌∙◌, arith}
use Rattle.nfs_content.proofs.Lists.{was_items, now_items, else_items}
use Rattle.nfs_content.proofs.rows.shorten_in.Goals as goal

there : (c : goal.After-row-1) → c.args.at < length c.args.row.now.items
there c = let less = c.if-at-len.true in let len = c.args.row.now.ok.0 in let is = c.len.ensures in omega (arith, less, len, is)

pub returns-then-at-len-clause-here : goal.returns-then-at-len-clause-here
returns-then-at-len-clause-here c =
    let vs = c.args.row.now.items in
    let v = c.index_mut.result.now in
    let w = c.truncate.new.self in
    let e = c.index_mut.ensures.value in
    now_items vs c.args.at v w (there c) e ∙ c.truncate.ensures.items ∙ ap (take c.args.len) (sym (was_items vs c.args.at v w (there c) e))

pub returns-then-at-len-clause-elsewhere : goal.returns-then-at-len-clause-elsewhere
returns-then-at-len-clause-elsewhere c = else_items c.args.row.now.items c.args.at c.index_mut.result.now c.truncate.new.self (there c) c.index_mut.ensures.value
