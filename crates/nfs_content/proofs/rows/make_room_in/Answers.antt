use Rattle.std.proofs.Common.{◌<◌, ◌≤◌, length, sym, subst, arith}
use Rattle.std.specs.Result.{OnOk}
use Rattle.nfs_content.proofs.Lists.{now_room, widened, widened_twice}
use Rattle.nfs_content.proofs.rows.make_room_in.Goals as goal

there : (c : goal.After-row-1) → c.args.at < length c.lengthen.new.lists.items
there c = let long = c.in_ok-lengthen.ensures.ok in let len = c.lengthen.new.lists.ok.0 in omega (arith, long, len)

pub returns-clause-ok : goal.returns-clause-ok
returns-clause-ok c = subst (λ n. OnOk c.widen.result (c.args.size ≤ n))
    (sym (now_room c.lengthen.new.lists.items c.args.at c.index_mut.result.now c.widen.new.page (there c) c.index_mut.ensures.value)) c.widen.ensures.ok

pub returns-clause-same : goal.returns-clause-same
returns-clause-same c = widened_twice c.args.row.now.items c.lengthen.new.lists.items _ c.in_ok-lengthen.ensures.same
    (widened c.lengthen.new.lists.items c.args.at c.index_mut.result.now c.widen.new.page (there c) c.index_mut.ensures.value c.widen.ensures.same c.widen.ensures.room)
