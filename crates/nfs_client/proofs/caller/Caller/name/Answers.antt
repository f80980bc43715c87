use Rattle.std.proofs.Common.{arith, ap, length}
use Rattle.nfs_client.proofs.Rooms.{name_room}
use Rattle.nfs_client.proofs.caller.Caller.name.Goals as goal

pub write-requires-clause-room : goal.write-requires-clause-room
write-requires-clause-room c =
    omega (arith, name_room c.args.request c.args.place.dir.now c.args.place.name.now c.requires.dir, c.in_ok-out.ensures.room, ap length c.target-target.ensures)
