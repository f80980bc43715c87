use Rattle.std.proofs.Common.{arith}
use Rattle.nfs_client.proofs.Rooms.{file_room}
use Rattle.nfs_client.proofs.caller.Caller.file.Goals as goal

pub write-requires-clause-room : goal.write-requires-clause-room
write-requires-clause-room c =
    omega (arith, file_room c.args.request c.args.file.now c.as_slice.result.now c.requires, c.in_ok-out.ensures.room, c.as_slice.ensures.len, c.len-room.ensures)
