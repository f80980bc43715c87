use Rattle.std.proofs.Common.{rules}
use Rattle.nfs_xdr.proofs.Writing.{put_over_seen}
use Rattle.nfs_xdr.proofs.output.Output.overwrite.Goals as goal

pub returns-clause-bytes : goal.returns-clause-bytes
returns-clause-bytes c = rw (← c.self.view_is) (put_over_seen c.args.at c.self.inside.len c.self.inside.all.len c.args.bytes.now c.self.inside.all.items c.as_mut_slice.result.now c.put_over.new.place (search rules) c.put_over.ensures (search rules) (search rules) (search rules))
