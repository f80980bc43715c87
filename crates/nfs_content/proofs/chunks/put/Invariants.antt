use Rattle.nfs_content.specs.Tables.{pages_of, room_of}
use Rattle.nfs_content.proofs.Putting.{HasPut}
use Rattle.nfs_content.proofs.chunks.put.Given as goal

abbrev pub invariant-loop-place : goal.invariant-loop-place
invariant-loop-place l = HasPut (pages_of l.fn.table) (room_of l.fn.table) l.offset l.bytes l.place (pages_of l.table) (room_of l.table)
