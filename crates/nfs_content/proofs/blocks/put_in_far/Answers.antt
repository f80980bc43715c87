use Rattle.std.proofs.Common.{◌<◌, ◌/◌, length, refl, arith}
use Rattle.nfs_content.specs.Paged.{kept, room}
use Rattle.nfs_content.proofs.Putting.{puts_alike}
use Rattle.nfs_content.proofs.Nested.{nested_there, nested_was, nested_now, elsewhere_within, more_within}
use Rattle.nfs_content.proofs.InBlocks.{no_room, block_splits}
use Rattle.nfs_content.proofs.blocks.put_in_far.Goals as goal

there : (c : goal.After-blocks-1) → c.args.place / 262144 < length c.args.blocks.now.items
there c = let some = c.requires.some in let enough = c.requires.room in nested_there room 262144 no_room c.args.blocks.now.items c.args.place (omega (arith, some, enough))

pub returns-clause-here : goal.returns-clause-here
returns-clause-here c =
    let lists = c.args.blocks.now.items in
    let q = c.args.place / 262144 in
    let v = c.index_mut.result.now in
    let w = c.put_in.new.rows in
    let e = c.index_mut.ensures.value in
    puts_alike _ c.args.at c.args.bytes.now _ _ _ (nested_was kept 262144 lists q v w (there c) e c.args.place refl) (nested_now kept 262144 lists q v w (there c) e c.args.place refl) c.put_in.ensures.here

pub returns-clause-elsewhere : goal.returns-clause-elsewhere
returns-clause-elsewhere c = elsewhere_within kept 262144 c.args.blocks.now.items (c.args.place / 262144) c.index_mut.result.now c.put_in.new.rows (there c) c.index_mut.ensures.value block_splits c.args.place refl c.put_in.ensures.elsewhere

pub returns-clause-room : goal.returns-clause-room
returns-clause-room c = more_within room 262144 c.args.blocks.now.items (c.args.place / 262144) c.index_mut.result.now c.put_in.new.rows (there c) c.index_mut.ensures.value c.put_in.ensures.room
