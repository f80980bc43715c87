use Rattle.std.proofs.Common.{arith}
use Rattle.nfs_content.specs.Tables.{pages_of, room_of}
use Rattle.nfs_content.proofs.Putting.{nothing_put, all_put, place_room, chunk_some, put_more}
use Rattle.nfs_content.proofs.chunks.put.Goals as goal

pub loop-place-init : goal.loop-place-init
loop-place-init c = nothing_put (pages_of c.args.table.now) (room_of c.args.table.now) c.args.offset c.args.bytes.now c.requires.short

pub put_in-requires-clause-some : goal.put_in-requires-clause-some
put_in-requires-clause-some c = chunk_some (pages_of c.args.table.now) (room_of c.args.table.now) c.args.offset c.args.bytes.now c.requires.some c.loop-place.place (pages_of c.loop-place.table) (room_of c.loop-place.table)
    c.loop-place.invariant c.loop-place-test.true c.max-start.result c.min-stop.result c.max-start.ensures c.min-stop.ensures

pub put_in-requires-clause-room : goal.put_in-requires-clause-room
put_in-requires-clause-room c = place_room (pages_of c.args.table.now) (room_of c.args.table.now) c.args.offset c.args.bytes.now c.requires.some c.loop-place.place (pages_of c.loop-place.table) (room_of c.loop-place.table)
    c.loop-place.invariant c.loop-place-test.true c.max-start.result c.min-stop.result c.max-start.ensures c.min-stop.ensures c.requires.held

pub loop-place-preserved : goal.loop-place-preserved
loop-place-preserved c = put_more (pages_of c.args.table.now) (room_of c.args.table.now) c.args.offset c.args.bytes.now c.requires.some c.loop-place.place (pages_of c.loop-place.table) (room_of c.loop-place.table)
    c.loop-place.invariant c.loop-place-test.true c.max-start.result c.min-stop.result c.max-start.ensures c.min-stop.ensures
    (pages_of c.put_in.new.self) (room_of c.put_in.new.self) c.put_in.ensures.here c.put_in.ensures.elsewhere c.put_in.ensures.room

pub returns-clause-writes : goal.returns-clause-writes
returns-clause-writes c = let all = c.loop-place-test.false in all_put (pages_of c.args.table.now) (room_of c.args.table.now) c.args.offset c.args.bytes.now c.loop-place.place (pages_of c.loop-place.table) (room_of c.loop-place.table)
    c.loop-place.invariant (omega (arith, all))

pub returns-clause-short : goal.returns-clause-short
returns-clause-short c = c.loop-place.invariant.short
