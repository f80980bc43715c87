use Rattle.std.proofs.Common.{◌<◌, ◌/◌, length, refl, arith}
use Rattle.nfs_content.specs.Paged.{items_at, room_at}
use Rattle.nfs_content.proofs.Putting.{puts_alike}
use Rattle.nfs_content.proofs.Nested.{nested_there, nested_was, nested_now, elsewhere_within, more_within}
use Rattle.nfs_content.proofs.InRows.{no_room, row_splits}
use Rattle.nfs_content.proofs.rows.put_in.Goals as goal

there : (c : goal.After-rows-1) → c.args.place / 64 < length c.args.rows.now.items
there c = let some = c.requires.some in let enough = c.requires.room in nested_there room_at 64 no_room c.args.rows.now.items c.args.place (omega (arith, some, enough))

pub returns-clause-here : goal.returns-clause-here
returns-clause-here c =
    let lists = c.args.rows.now.items in
    let q = c.args.place / 64 in
    let v = c.index_mut.result.now in
    let w = c.put_in_row.new.row in
    let e = c.index_mut.ensures.value in
    puts_alike _ c.args.at c.args.bytes.now _ _ _ (nested_was items_at 64 lists q v w (there c) e c.args.place refl) (nested_now items_at 64 lists q v w (there c) e c.args.place refl) c.put_in_row.ensures.here

pub returns-clause-elsewhere : goal.returns-clause-elsewhere
returns-clause-elsewhere c = elsewhere_within items_at 64 c.args.rows.now.items (c.args.place / 64) c.index_mut.result.now c.put_in_row.new.row (there c) c.index_mut.ensures.value row_splits c.args.place refl c.put_in_row.ensures.elsewhere

pub returns-clause-room : goal.returns-clause-room
returns-clause-room c = more_within room_at 64 c.args.rows.now.items (c.args.place / 64) c.index_mut.result.now c.put_in_row.new.row (there c) c.index_mut.ensures.value c.put_in_row.ensures.room
