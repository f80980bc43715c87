use Rattle.std.proofs.Common.{◌<◌, ◌/◌, length, take, refl, sym, ap, ◌∙◌, arith}
use Rattle.nfs_content.specs.Paged.{kept}
use Rattle.nfs_content.proofs.Nested.{nested_was, nested_now, elsewhere_within}
use Rattle.nfs_content.proofs.InBlocks.{block_splits}
use Rattle.nfs_content.proofs.blocks.shorten_far.Goals as goal

there : (c : goal.After-blocks-1) → c.args.place / 262144 < length c.args.blocks.now.items
there c = let less = c.if-place-len.true in let len = c.args.blocks.now.ok.0 in let is = c.len.ensures in omega (arith, less, len, is)

pub returns-then-place-len-clause-here : goal.returns-then-place-len-clause-here
returns-then-place-len-clause-here c =
    let lists = c.args.blocks.now.items in
    let q = c.args.place / 262144 in
    let v = c.index_mut.result.now in
    let w = c.shorten.new.rows in
    let e = c.index_mut.ensures.value in
    nested_now kept 262144 lists q v w (there c) e c.args.place refl ∙ c.shorten.ensures.here
    ∙ ap (take c.args.len) (sym (nested_was kept 262144 lists q v w (there c) e c.args.place refl))

pub returns-then-place-len-clause-elsewhere : goal.returns-then-place-len-clause-elsewhere
returns-then-place-len-clause-elsewhere c = elsewhere_within kept 262144 c.args.blocks.now.items (c.args.place / 262144) c.index_mut.result.now c.shorten.new.rows (there c) c.index_mut.ensures.value block_splits c.args.place refl c.shorten.ensures.elsewhere
