use Rattle.std.proofs.Common.{◌<◌, ◌≤◌, ◌/◌, length, refl, sym, subst, ◌∙◌, arith}
use Rattle.std.specs.Result.{OnOk}
use Rattle.nfs_content.specs.Paged.{items_at, room_at}
use Rattle.nfs_content.proofs.Nested.{nested_alike, nested_now, more_alike, more_within, same_within}
use Rattle.nfs_content.proofs.rows.make_room.Goals as goal

there : (c : goal.After-rows-1) → c.args.place / 64 < length c.lengthen.new.lists.items
there c = let long = c.in_ok-lengthen.ensures.ok in let len = c.lengthen.new.lists.ok.0 in omega (arith, long, len)

pub returns-clause-ok : goal.returns-clause-ok
returns-clause-ok c = subst (λ n. OnOk c.make_room_in.result (c.args.size ≤ n))
    (sym (nested_now room_at 64 c.lengthen.new.lists.items (c.args.place / 64) c.index_mut.result.now c.make_room_in.new.row (there c) c.index_mut.ensures.value c.args.place refl)) c.make_room_in.ensures.ok

pub returns-clause-same : goal.returns-clause-same
returns-clause-same c = λ k. same_within items_at 64 c.lengthen.new.lists.items (c.args.place / 64) c.index_mut.result.now c.make_room_in.new.row (there c) c.index_mut.ensures.value c.make_room_in.ensures.same.items k
    ∙ nested_alike items_at 64 c.args.rows.now.items c.lengthen.new.lists.items c.in_ok-lengthen.ensures.same k

pub returns-clause-room : goal.returns-clause-room
returns-clause-room c = λ k.
    let first = more_alike room_at 64 c.args.rows.now.items c.lengthen.new.lists.items c.in_ok-lengthen.ensures.same k in
    let second = more_within room_at 64 c.lengthen.new.lists.items (c.args.place / 64) c.index_mut.result.now c.make_room_in.new.row (there c) c.index_mut.ensures.value c.make_room_in.ensures.same.room k in
    omega (arith, first, second)
