use Rattle.std.proofs.Common.{◌<◌, ◌/◌, length, take, refl, sym, ap, ◌∙◌, arith}
use Rattle.nfs_content.specs.Paged.{items_at}
use Rattle.nfs_content.proofs.Nested.{nested_was, nested_now, elsewhere_within}
use Rattle.nfs_content.proofs.InRows.{row_splits}
use Rattle.nfs_content.proofs.rows.shorten.Goals as goal

there : (c : goal.After-rows-1) → c.args.place / 64 < length c.args.rows.now.items
there c = let less = c.if-place-len.true in let len = c.args.rows.now.ok.0 in let is = c.len.ensures in omega (arith, less, len, is)

pub returns-then-place-len-clause-here : goal.returns-then-place-len-clause-here
returns-then-place-len-clause-here c =
    let lists = c.args.rows.now.items in
    let q = c.args.place / 64 in
    let v = c.index_mut.result.now in
    let w = c.shorten_in.new.row in
    let e = c.index_mut.ensures.value in
    nested_now items_at 64 lists q v w (there c) e c.args.place refl ∙ c.shorten_in.ensures.here
    ∙ ap (take c.args.len) (sym (nested_was items_at 64 lists q v w (there c) e c.args.place refl))

pub returns-then-place-len-clause-elsewhere : goal.returns-then-place-len-clause-elsewhere
returns-then-place-len-clause-elsewhere c = elsewhere_within items_at 64 c.args.rows.now.items (c.args.place / 64) c.index_mut.result.now c.shorten_in.new.row (there c) c.index_mut.ensures.value row_splits c.args.place refl c.shorten_in.ensures.elsewhere
