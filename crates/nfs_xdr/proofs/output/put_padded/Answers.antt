use Rattle.std.proofs.Common.{rules}
use Rattle.nfs_xdr.proofs.Writing.{put_none_over, put_padded_over}
use Rattle.nfs_xdr.proofs.output.put_padded.Goals as goal
use Rattle.nfs_xdr.proofs.output.put_padded.Goals.{then-not-is_empty, else-not-is_empty}

pub returns : goal.returns
returns c = elim c.if-not-is_empty.branch [
  | then-not-is_empty w ↦ put_padded_over c.args.at c.args.bytes.now c.args.place.now c.if-not-is_empty.place c.put_over-2.new.place (search rules) (search rules) (search rules) c.put_over-2.ensures
  | else-not-is_empty w ↦ put_none_over c.args.at c.args.bytes.now c.args.place.now c.put_over-2.new.place (search rules) (rw (← w.place-is) c.put_over-2.ensures)
]
