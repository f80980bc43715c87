use Rattle.std.proofs.Common.{◌<◌, length, arith}
use Rattle.nfs_content.proofs.Putting.{puts_alike}
use Rattle.nfs_content.proofs.Lists.{was_items, now_items, else_items, more_room, room_there}
use Rattle.nfs_content.proofs.rows.put_in_row.Goals as goal

there : (c : goal.After-row-1) → c.args.place < length c.args.row.now.items
there c = let some = c.requires.some in let room = c.requires.room in room_there c.args.row.now.items c.args.place (omega (arith, some, room))

pub returns-clause-here : goal.returns-clause-here
returns-clause-here c =
    let vs = c.args.row.now.items in
    let v = c.index_mut.result.now in
    let w = c.put_into.new.page in
    let e = c.index_mut.ensures.value in
    puts_alike _ c.args.at c.args.bytes.now _ v.items w.items (was_items vs c.args.place v w (there c) e) (now_items vs c.args.place v w (there c) e) c.put_into.ensures.puts

pub returns-clause-elsewhere : goal.returns-clause-elsewhere
returns-clause-elsewhere c = else_items c.args.row.now.items c.args.place c.index_mut.result.now c.put_into.new.page (there c) c.index_mut.ensures.value

pub returns-clause-room : goal.returns-clause-room
returns-clause-room c = more_room c.args.row.now.items c.args.place c.index_mut.result.now c.put_into.new.page (there c) c.index_mut.ensures.value c.put_into.ensures.room
